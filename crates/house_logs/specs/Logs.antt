-- The journal of a house: its segments, the records of these, and the entries that they are.
use Rattle.std.specs.Prelude.{◌≡◌, ◌⊎◌, ℕ, List, [], ◌∷◌, ◌++◌, All, Some, None, Ok, codes}
use Rattle.cell_script.specs.Words.{words_of}
use Rattle.house_entries.specs.Bodies.{IsBody, head_of}
use Rattle.house_journal.specs.JournalRecords.{images}
use Rattle.house_lines.specs.LineRows.{said_in}
use Rattle.house_lines.specs.declared.line.HouseLine.TheVariants as asks
use Rattle.house_segments.specs.Chains.{chained, last_digest}
use Rattle.house_segments.specs.Reading.{EndedLater, end_of}
use Rattle.house_logs.specs.declared.log.HouseLog.{HouseLog}
use Rattle.house_logs.specs.Records.{AreRecords, Told}
use Rattle.house_logs.specs.TurnTexts.{HasNoEnd, turn_text}

-- ---- entries

-- the body of a record of a process that has no house
abbrev pub IsNew : List ℕ → Type 0
IsNew body = IsBody body 0 0 (codes "new" ++ 10 ∷ []) None

-- the text of the turn that makes a house
abbrev pub making_text : (line : List ℕ) → List ℕ
making_text line = turn_text line [] (codes "ok")

-- a house is made by the record with this body, which is entry 1 and shows no image
pub record Begins (body : List ℕ) (s : Told) : Type 0 where
  pub line : List ℕ
  pub no_end : HasNoEnd line
  pub says : said_in (words_of line) ≡ Ok (Some (asks.House s.house s.node))
  pub body_is : IsBody body 1 0 (making_text line) None
  pub bare : s.image ≡ None
  pub alone : s.entries ≡ []
  pub number : s.number ≡ 1
  pub clock : s.clock ≡ 0
  pub turn : s.turn ≡ making_text line

-- the bodies of records are those of a house: a record for each process before it was made, the one
-- that made it, and those of its entries after that
pub record IsLogOf (bodies : List (List ℕ)) (s : Told) : Type 0 where
  pub news : List (List ℕ)
  pub first : List ℕ
  pub others : List (List ℕ)
  pub begun : Told
  pub parts : bodies ≡ news ++ first ∷ others
  pub are_new : All IsNew news
  pub begins : Begins first begun
  pub records : AreRecords begun others s

-- what records say is this journal
pub record IsToldOf (log : HouseLog) (s : Told) : Type 0 where
  pub house : s.house ≡ log.house
  pub node : s.node ≡ log.node
  pub image : s.image ≡ log.image
  pub entries : s.entries ≡ log.entries.items

-- the journal that records with these bodies are
abbrev pub IsJournalOf : (bodies : List (List ℕ)) → HouseLog → Type 0
IsJournalOf bodies log = (s : Told) × IsLogOf bodies s × IsToldOf log s

-- records with these bodies, which are all new or those of a house, are the first ones of a journal
abbrev pub AreOfHouse : (bodies : List (List ℕ)) → Type 0
AreOfHouse bodies = All IsNew bodies ⊎ ((s : Told) × IsLogOf bodies s)

-- ---- segments

-- the records of the segment with this number, after a record with this digest: its head, and
-- those with these bodies, each of which ends in a digest of the one before and of itself
abbrev pub records_of : (number : ℕ) → (before : List ℕ) → (bodies : List (List ℕ)) → List (List ℕ)
records_of number before bodies = chained before (head_of number before ∷ bodies)

-- the digest of the last one
abbrev pub digest_in : (number : ℕ) → (before : List ℕ) → (bodies : List (List ℕ)) → List ℕ
digest_in number before bodies = last_digest before (head_of number before ∷ bodies)

-- the list of records, the last one of which has this digest, never ended later (own)
abbrev pub HasEnded : (digest octets : List ℕ) → Type 0
HasEnded digest octets = ¬ EndedLater digest (end_of octets)

-- octets are the segment of this number, after a record with this digest: these are the bodies of
-- the records after its head, and the last one has the digest after
pub record IsSegment (number : ℕ) (before octets : List ℕ) (bodies : List (List ℕ)) (after : List ℕ)
    : Type 0 where
  pub records : images octets ≡ records_of number before bodies
  pub last : after ≡ digest_in number before bodies
  pub ended : HasEnded after octets
