-- What the records of a house say, one after the other.
use Rattle.std.specs.Prelude.{◌≡◌, ℕ, ◌+◌, List, [], ◌∷◌, ◌++◌, Option, Some, None, Ok, IfSome, codes, decimal}
use Rattle.std.specs.List.{AllByRecursion, flat_map}
use Rattle.cds_stamps.specs.declared.numbers.HouseNo.{HouseNo}
use Rattle.cell_script.specs.Words.{words_of}
use Rattle.house_entries.specs.Bodies.{IsBody}
use Rattle.house_lines.specs.LineRows.{said_in}
use Rattle.house_lines.specs.declared.line.HouseLine.TheVariants as asks
use Rattle.house_logs.specs.declared.log.LogEntry.{LogEntry}
use Rattle.house_logs.specs.declared.log.LogEntry.TheVariants as entry
use Rattle.house_logs.specs.declared.log.LoggedTurn.{LoggedTurn}
use Rattle.house_logs.specs.TurnTexts.{AreParts, HasNoEnd, turn_text}

-- what the first records of a house say: the house, the image with which it was made, if one shows
-- it, and its entries after that; the number and the clock of the last one; the text of the last
-- turn
pub record Told : Type 0 where
  pub house : HouseNo
  pub node : ℕ
  pub image : Option (List ℕ)
  pub entries : List LogEntry
  pub number : ℕ
  pub clock : ℕ
  pub turn : List ℕ

-- ---- turns and starts

-- the text of a start: the last turn comes once more
abbrev pub start_text : Told → List ℕ
start_text s = codes "start" ++ (10 ∷ s.turn)

-- a line, and what it says, of a turn
pub record SaysTurn (line : List ℕ) (t : LoggedTurn) : Type 0 where
  pub says : said_in (words_of line) ≡ Ok (Some (asks.Order t.order))
  pub parts : AreParts line t.posts.items t.answer

-- a turn more
abbrev pub after_turn : Told → (line : List ℕ) → LoggedTurn → Told
after_turn s line t =
    record s {
      entries = s.entries ++ entry.Turned t ∷ [];
      number = s.number + 1;
      clock = t.clock;
      turn = turn_text line t.posts.items t.answer;
    }

-- a start more
abbrev pub after_start : Told → (image : List ℕ) → Told
after_start s image =
    record s {
      entries = s.entries ++ entry.Started image ∷ [];
      number = s.number + 1;
      clock = 0;
    }

-- the body of a record of a turn with this line, which shows no image
pub record IsTurnBody (s : Told) (body line : List ℕ) (t : LoggedTurn) : Type 0 where
  pub is : IsBody body (s.number + 1) t.clock (after_turn s line t).turn None
  pub bare : t.image ≡ None

-- the body of a record of a start with this image
abbrev pub IsStartBody : Told → (body image : List ℕ) → Type 0
IsStartBody s body image = IsBody body (s.number + 1) 0 (start_text s) (Some image)

-- ---- segments

-- the lines of skulks that run, each by what comes after its first word
abbrev pub running_text : List (List ℕ) → List ℕ
running_text = flat_map (λ words. codes "running " ++ (words ++ 10 ∷ []))

-- the text of the first record of a segment in the middle of a process: the skulks that run, and
-- the last turn once more
abbrev pub segment_text : Told → (running : List (List ℕ)) → List ℕ
segment_text s running =
    codes "segment " ++ (decimal s.number ++ (10 ∷ (running_text running ++ s.turn)))

-- the body of such a record, with the image of the house
pub record IsSegmentBody (s : Told) (body image : List ℕ) : Type 0 where
  pub running : List (List ℕ)
  pub lines : AllByRecursion HasNoEnd running
  pub is : IsBody body s.number s.clock (segment_text s running) (Some image)

-- the image of an entry, if a record shows it
abbrev pub image_of : LogEntry → Option (List ℕ)
image_of (entry.Started image) = Some image
image_of (entry.Turned t) = t.image

-- an entry with this image
abbrev pub with_image : (image : List ℕ) → LogEntry → LogEntry
with_image image (entry.Started other) = entry.Started image
with_image image (entry.Turned t) = entry.Turned (record t { image = Some image })

-- no image is known, or this one
abbrev pub CanBe : Option (List ℕ) → (image : List ℕ) → Type 0
CanBe known image = IfSome known (λ other. other ≡ image)

-- the first record of a segment shows the image of the entry before it: of the making, or of the
-- last entry after that
pub data Shows (s : Told) (image : List ℕ) (s' : Told) : Type 0 where
  OfMaking : s.entries ≡ [] → CanBe s.image image → s' ≡ record s { image = Some image }
      → Shows s image s'
  OfEntry : (front : List LogEntry) (e : LogEntry) → s.entries ≡ front ++ e ∷ []
      → CanBe (image_of e) image → s' ≡ record s { entries = front ++ with_image image e ∷ [] }
      → Shows s image s'

-- ---- one after the other

-- the record with this body is the next one: of a turn or a start, by its number; or the first one
-- of a segment in the middle of a process, which is no entry
pub data Follows (s : Told) (body : List ℕ) (s' : Told) : Type 0 where
  TurnRecord : (line : List ℕ) (t : LoggedTurn) → SaysTurn line t → IsTurnBody s body line t
      → s' ≡ after_turn s line t → Follows s body s'
  StartRecord : (image : List ℕ) → IsStartBody s body image → s' ≡ after_start s image
      → Follows s body s'
  SegmentRecord : (image : List ℕ) → IsSegmentBody s body image → Shows s image s'
      → Follows s body s'

-- records with these bodies, one after the other
abbrev pub AreRecords : Told → (bodies : List (List ℕ)) → Told → Type 0
AreRecords s [] end = end ≡ s
AreRecords s (body ∷ bodies) end = (mid : Told) × Follows s body mid × AreRecords mid bodies end
