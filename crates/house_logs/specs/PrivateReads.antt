-- What a reader of a journal finds, part by part.
use Rattle.std.specs.Prelude.{◌≡◌, ◌≢◌, ℕ, ◌+◌, Bool, List, [], ◌∷◌, ◌++◌, Option, Some, None, Ok, codes, decimal, is_none, length, false, option_copied}
use Rattle.std.specs.Bool.{OnTrue}
use Rattle.std.specs.List.{AllByRecursion}
use Rattle.cds_stamps.specs.declared.numbers.HouseNo.{HouseNo}
use Rattle.cell_script.specs.Words.{words_of}
use Rattle.house_entries.specs.Bodies.{IsBody, head_of}
use Rattle.house_entries.specs.declared.body.Body.{Body}
use Rattle.house_journal.specs.JournalRecords.{images}
use Rattle.house_lines.specs.LineRows.{said_in}
use Rattle.house_lines.specs.declared.line.HouseLine.TheVariants as asks
use Rattle.house_segments.specs.Chains.{chained, digest_after, last_digest, sealed}
use Rattle.house_logs.specs.declared.fault.LogFault.{LogFault}
use Rattle.house_logs.specs.declared.log.LogEntry.{LogEntry}
use Rattle.house_logs.specs.declared.log.LoggedTurn.{LoggedTurn}
use Rattle.house_logs.specs.declared.log.Making.{Making}
use Rattle.house_logs.specs.declared.log.PostedOctets.{PostedOctets}
use Rattle.house_logs.specs.declared.reader.Head.{Head}
use Rattle.house_logs.specs.declared.reader.Chain.{Chain}
use Rattle.house_logs.specs.declared.reader.LogReader.{LogReader}
use Rattle.house_logs.specs.declared.text.TurnText.{TurnText}
use Rattle.house_logs.specs.Faults.{IsOfRecord}
use Rattle.house_logs.specs.Logs.{making_text}
use Rattle.house_logs.specs.Reads.{HasRead}
use Rattle.house_logs.specs.Records.{CanBe, SaysTurn, image_of, running_text}
use Rattle.house_logs.specs.TurnTexts.{AreParts, HasNoEnd, IsAnswer, IsPost, posts_text, turn_text}

-- ---- parts of texts

-- octets are the lines of skulks that run
pub record AreRunning (octets : List ℕ) : Type 0 where
  pub lines : List (List ℕ)
  pub each : AllByRecursion HasNoEnd lines
  pub are : octets ≡ running_text lines

-- they are those, and then this text
pub record IsAfterRunning (octets text : List ℕ) : Type 0 where
  pub lines : List (List ℕ)
  pub each : AllByRecursion HasNoEnd lines
  pub are : octets ≡ running_text lines ++ text

-- a text is these messages and this answer
pub record AreSaid (text : List ℕ) (posts : List PostedOctets) (answer : List ℕ) : Type 0 where
  pub each : AllByRecursion IsPost posts
  pub says : IsAnswer answer
  pub is : text ≡ posts_text posts ++ (answer ++ 10 ∷ [])

-- a text is that of a turn with these parts
pub record IsTurnText (text line : List ℕ) (posts : List PostedOctets) (answer : List ℕ) : Type 0
  where
    pub parts : AreParts line posts answer
    pub is : text ≡ turn_text line posts answer

-- ---- records

-- the octets of a record are these fields
abbrev pub IsDue : List ℕ → Body → Type 0
IsDue octets body = IsBody octets body.number body.clock body.text.now (option_copied body.image)

-- they are these fields, and no image
abbrev pub IsBare : List ℕ → Body → Type 0
IsBare octets body = IsBody octets body.number body.clock body.text.now None

-- if the record was taken, its octets were read after these bodies
abbrev pub IsReadOn : LogReader → (bodies : List (List ℕ)) → (octets : List ℕ) → (takes : Bool)
    → Type 0
IsReadOn r bodies octets takes = OnTrue takes (HasRead r (bodies ++ octets ∷ []))

-- the last record has the digest that it had, and as many segments were begun
abbrev pub KeepsHead : (old new : LogReader) → Type 0
KeepsHead old new = (new.digest ≡ old.digest) × (new.segments ≡ old.segments)

-- a turn with the parts of a text, at a clock
pub record IsTurnBy (parts : TurnText) (clock : ℕ) (t : LoggedTurn) : Type 0 where
  pub says : said_in (words_of parts.line.now) ≡ Ok (Some (asks.Order t.order))
  pub clock_is : t.clock ≡ clock
  pub posts : t.posts ≡ parts.posts
  pub answer : t.answer ≡ parts.answer.now
  pub bare : t.image ≡ None

-- a house that the parts of a text make
pub record IsMadeBy (parts : TurnText) (m : Making) : Type 0 where
  pub says : said_in (words_of parts.line.now) ≡ Ok (Some (asks.House m.house m.node))
  pub posts : parts.posts.items ≡ []
  pub answer : parts.answer.now ≡ codes "ok"

-- the last image that entries show, or else this one
abbrev pub known_in : Option (List ℕ) → List LogEntry → Option (List ℕ)
known_in image [] = image
known_in image (e ∷ es) = known_in (image_of e) es

-- a record is the first one of a process without a house
pub record CanBeNew (r : LogReader) (b : Body) : Type 0 where
  pub none : r.made ≡ None
  pub last : r.number ≡ 0
  pub number : b.number ≡ 0
  pub clock : b.clock ≡ 0
  pub text : b.text.now ≡ codes "new" ++ 10 ∷ []
  pub bare : option_copied b.image ≡ None

-- a line makes a house
abbrev pub MakesHouse : (line : List ℕ) → Type 0
MakesHouse line =
    (h : HouseNo) × (n : ℕ) × (said_in (words_of line) ≡ Ok (Some (asks.House h n)))

-- a record makes the house
pub record CanMake (r : LogReader) (b : Body) : Type 0 where
  pub none : r.made ≡ None
  pub line : List ℕ
  pub no_end : HasNoEnd line
  pub makes : MakesHouse line
  pub number : b.number ≡ r.number + 1
  pub clock : b.clock ≡ 0
  pub text : b.text.now ≡ making_text line
  pub bare : option_copied b.image ≡ None

-- a record is a turn
pub record CanTurn (r : LogReader) (b : Body) : Type 0 where
  pub some : is_none r.made ≡ false
  pub line : List ℕ
  pub turn : LoggedTurn
  pub says : SaysTurn line turn
  pub number : b.number ≡ r.number + 1
  pub text : b.text.now ≡ turn_text line turn.posts.items turn.answer
  pub bare : option_copied b.image ≡ None

-- a record is a start
pub record CanStart (r : LogReader) (b : Body) : Type 0 where
  pub some : is_none r.made ≡ false
  pub image : List ℕ
  pub number : b.number ≡ r.number + 1
  pub clock : b.clock ≡ 0
  pub text : b.text.now ≡ codes "start" ++ (10 ∷ r.turn.items)
  pub shows : option_copied b.image ≡ Some image

-- a record is the first one of a segment in the middle of a process
pub record CanGoOn (r : LogReader) (b : Body) : Type 0 where
  pub some : is_none r.made ≡ false
  pub image : List ℕ
  pub rest : List ℕ
  pub number : b.number ≡ r.number
  pub clock : b.clock ≡ r.clock
  pub text : b.text.now ≡ (codes "segment " ++ (decimal r.number ++ 10 ∷ [])) ++ rest
  pub after : IsAfterRunning rest r.turn.items
  pub shows : option_copied b.image ≡ Some image
  pub known : CanBe (known_in r.image r.entries.items) image

-- a record can be the next one after what was read
pub data CanFollow (r : LogReader) (b : Body) : Type 0 where
  AsNew : CanBeNew r b → CanFollow r b
  AsMaking : CanMake r b → CanFollow r b
  AsTurn : CanTurn r b → CanFollow r b
  AsStart : CanStart r b → CanFollow r b
  AsSegment : CanGoOn r b → CanFollow r b

-- ---- segments

-- octets begin with the head of the segment with this number, after a record with this digest; its
-- own digest, and the octets after it
pub record IsAfterHead (number : ℕ) (before octets : List ℕ) (h : Head) : Type 0 where
  pub size : length before ≡ 32
  pub records : images octets ≡ sealed before (head_of number before) ∷ images h.rest.now
  pub digest : h.digest ≡ digest_after before (head_of number before)

-- no record comes after one with this digest: there is none, or the next one does not end in a
-- digest of this one and of itself
abbrev pub GoesNotOn : (digest : List ℕ) → (records : List (List ℕ)) → Type 0
GoesNotOn digest [] = Unit {0}
GoesNotOn digest (next ∷ records) = (body : List ℕ) → next ≢ sealed digest body

-- the records at the front of octets that come after one with this digest were read, and are those
-- of the house; the place of the next one in their segment
pub record ReadsChain (before octets : List ℕ) (bodies : List (List ℕ)) (c : Chain)
    (new : LogReader) : Type 0 where
  pub front : List (List ℕ)
  pub others : List (List ℕ)
  pub records : images octets ≡ chained before front ++ others
  pub digest : c.digest ≡ last_digest before front
  pub stops : GoesNotOn c.digest others
  pub read : HasRead new (bodies ++ front)
  pub next : c.place ≡ length front + 2

-- some records at the front of octets were read, and the next one has this fault
pub record StopsAt (number : ℕ) (before octets : List ℕ) (bodies : List (List ℕ)) (f : LogFault)
    (new : LogReader) : Type 0 where
  pub front : List (List ℕ)
  pub body : List ℕ
  pub others : List (List ℕ)
  pub records : images octets ≡ chained before (front ++ body ∷ []) ++ others
  pub read : HasRead new (bodies ++ front)
  pub of : IsOfRecord number (length front + 2) (bodies ++ front) body f
