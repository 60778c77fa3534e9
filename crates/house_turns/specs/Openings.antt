-- How a house goes on from the records of a segment, the first record of a process and of a next
-- segment, and what a house says first.
use Rattle.std.specs.Prelude.{◌≡◌, ◌≢◌, ℕ, ◌+◌, ◌==◌, Bool, false, List, [], ◌∷◌, ◌++◌, length, take, if◌then◌else◌, Option, Some, None, Ok, codes, decimal}
use Rattle.std.specs.List.{before_first}
use Rattle.std.specs.Str.{bytes_eq}
use Rattle.hex.specs.Hex.{encode_lower}
use Rattle.clearinghouse.specs.declared.running.RunningSkulk.{RunningSkulk}
use Rattle.cds_records.specs.RecordOctets.{image_octets}
use Rattle.cds_records.specs.RecordRanges.{FitsImage}
use Rattle.script_answers.specs.Texts.{node_octets}
use Rattle.clearinghouse.specs.HouseImages.{image_of, skulks_of, start_of_octets, with_skulks}
use Rattle.clearinghouse.specs.LawfulHouses.{IsLawful}
use Rattle.clearinghouse.specs.declared.house.Clearinghouse.{Clearinghouse}
use Rattle.house_entries.specs.Bodies.{IsBody}
use Rattle.house_serving.specs.Turns.{Said}
use Rattle.cell_runs.specs.Entries.{Post}
use Rattle.house_turns.specs.declared.house.House.{House}
use Rattle.house_turns.specs.LineOutcomes.{HasNoEnd}
use Rattle.house_turns.specs.HouseReplies.{Responds, turn_lines, turn_text}
use Rattle.house_turns.specs.Records.{IsRecord}
use Rattle.house_turns.specs.RunningSkulks.{AllFit, SkulksFit, running_lines}

-- the house of a folder that has none
abbrev pub new_house : House
new_house = record { home = None; node = 0; clock = 0; entry = 0; last = []; more = [] }

-- ---- texts

-- octets begin with these
abbrev pub begins_with : (front : List ℕ) → List ℕ → Bool
begins_with front octets = bytes_eq (take (length front) octets) front

-- a text begins as the line of a skulk that runs
abbrev pub is_skulk : List ℕ → Bool
is_skulk = begins_with (codes "running ")

-- ---- the first record of a process, and of the next segment of one

-- the text of a start: a house says its last turn once more
abbrev pub start_text : Option Clearinghouse → (last : List ℕ) → List ℕ
start_text None last = codes "new" ++ 10 ∷ []
start_text (Some c) last = codes "start" ++ (10 ∷ last)

-- a start is an entry of its own, where there is a house
abbrev pub after_start : House → Option Clearinghouse → House
after_start h None = h
after_start h (Some c) = record h { entry = h.entry + 1 }

-- the line of the first record of the next segment
abbrev pub segment_line : (entry : ℕ) → List ℕ
segment_line entry = codes "segment " ++ (decimal entry ++ 10 ∷ [])

-- the text of that record: its line, those of the skulks that run, and the last turn
abbrev pub segment_text : House → Option Clearinghouse → List ℕ
segment_text h None = codes "new" ++ 10 ∷ []
segment_text h (Some c) = segment_line h.entry ++ (running_lines (skulks_of c) ++ h.last)

-- octets are the body of that record; the numbers of the skulks fit their fields
pub record IsSegmentRecord (h : House) (octets : List ℕ) : Type 0 where
  pub record_is : IsRecord h (segment_text h h.home) octets
  pub running : SkulksFit h.home

-- ---- the house of the records of a segment

-- a house with this clearinghouse, after so many entries, and with this last turn
abbrev pub house_with : Clearinghouse → (entry clock : ℕ) → (last : List ℕ) → House
house_with c entry clock last =
    record { home = Some c; node = c.node; clock = clock; entry = entry; last = last; more = [] }

-- a house is as it was at the first record of a segment: none was made yet; a process began, and
-- starts of the image; or one went on, with the skulks that ran (own, after C705, clearinghouses)
pub data Resumes (body : List ℕ) : House → Type 0 where
  Anew : (clock : ℕ) → IsBody body 0 clock (codes "new" ++ 10 ∷ []) None → Resumes body new_house
  Began : (entry clock : ℕ) (last image : List ℕ) (c : Clearinghouse)
      → IsBody body entry clock (codes "start" ++ (10 ∷ last)) (Some image)
      → start_of_octets image ≡ Ok c → Resumes body (house_with c entry clock last)
  WentOn : (entry clock : ℕ) (skulks : List RunningSkulk) (last image : List ℕ)
      (c : Clearinghouse)
      → IsBody body entry clock (segment_line entry ++ (running_lines skulks ++ last)) (Some image)
      → AllFit skulks → is_skulk last ≡ false
      → start_of_octets image ≡ Ok c
      → Resumes body (house_with (with_skulks skulks c) entry clock last)

-- the house does again what the record with this body says: at its clock it replies to its line,
-- and that gives the same body (own)
pub record Redoes (h : House) (body : List ℕ) (h' : House) : Type 0 where
  pub clock : ℕ
  pub line : List ℕ
  pub said : Said
  pub does : Responds (record h { clock = clock; more = [] }) 0 line said h'
  pub same : said.body ≡ Some body

-- it does not: octets are no body of a record; or it replies otherwise at its clock to the first
-- line of its text (own)
pub data Differs (h : House) (body : List ℕ) : Type 0 where
  NoRecord : ((number clock : ℕ) (text : List ℕ) (image : Option (List ℕ))
      → ¬ IsBody body number clock text image) → Differs h body
  Otherwise : (number clock : ℕ) (text : List ℕ) (image : Option (List ℕ)) (said : Said)
      (h' : House) → IsBody body number clock text image
      → Responds (record h { clock = clock; more = [] }) 0
      (before_first (λ b. b == 10) text) said h'
      → said.body ≢ Some body → Differs h body

-- from one house to another by the bodies of records, each done again (own)
abbrev pub RedoneBy : House → (bodies : List (List ℕ)) → House → Type 0
RedoneBy h [] at = at ≡ h
RedoneBy h (body ∷ bodies) at = (mid : House) × Redoes h body mid × RedoneBy mid bodies at

-- the house after a crash: there is none; or it starts of its own image, its skulks are over, its
-- clock is 0, and its last turn is said again (own, after C705, clearinghouses)
pub data EndsLife (h : House) : House → Type 0 where
  NoneMade : h.home ≡ None → EndsLife h new_house
  Restarts : (c c' : Clearinghouse) → h.home ≡ Some c → FitsImage (image_of c)
      → start_of_octets (image_octets (image_of c)) ≡ Ok c'
      → EndsLife h (house_with c' h.entry 0 h.last)

-- a house that was made is lawful, so that it starts of its own image
abbrev pub MayEnd : Option Clearinghouse → Type 0
MayEnd None = Unit {0}
MayEnd (Some c) = IsLawful c

-- a process goes on from the records of a segment, after its head: from the house of the first one
-- it does the others again, and then that one ends (own)
pub record OpensBy (bodies : List (List ℕ)) (opened : House) : Type 0 where
  pub first : List ℕ
  pub others : List (List ℕ)
  pub begun : House
  pub at : House
  pub split : bodies ≡ first ∷ others
  pub resumes : Resumes first begun
  pub redone : RedoneBy begun others at
  pub ends : EndsLife at opened

-- ---- what a house says first

-- the line of a turn as it is said again: of `take` the word alone
abbrev pub said_again : (line : List ℕ) → List ℕ
said_again line = if begins_with (codes "take ") line then codes "take" else line

-- a turn as it is said again: its line, its messages, and its answer
abbrev pub again_lines : (line : List ℕ) → List Post → (answer : List ℕ) → List (List ℕ)
again_lines line posts answer = (codes "last " ++ said_again line) ∷ turn_lines posts answer

-- who a house is
abbrev pub house_said : (house node : ℕ) → List ℕ
house_said house node = codes "house " ++ (decimal house ++ (32 ∷ encode_lower (node_octets node)))

-- a text is that of a turn whose line and whose answer are one line each, and it does not begin as
-- the line of a skulk that runs
pub record IsTurnText (text : List ℕ) : Type 0 where
  pub line : List ℕ
  pub posts : List Post
  pub answer : List ℕ
  pub is : text ≡ turn_text line posts answer
  pub line_ends_nowhere : HasNoEnd line
  pub answer_ends_nowhere : HasNoEnd answer
  pub no_skulk : is_skulk text ≡ false

-- a house that was made has a last turn
abbrev pub HasTurn : Option Clearinghouse → (last : List ℕ) → Type 0
HasTurn None last = Unit {0}
HasTurn (Some c) last = IsTurnText last

-- the first lines: that there is no house; or who it is, and its last turn again
abbrev pub first_lines : (h : House) → (home : Option Clearinghouse) → HasTurn home h.last
    → List (List ℕ)
first_lines h None turn = codes "new" ∷ []
first_lines h (Some c) turn =
    house_said c.house.0 h.node ∷ again_lines turn.line turn.posts turn.answer
