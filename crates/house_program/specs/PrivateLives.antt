-- Words of private contracts: what is done with one segment.
use Rattle.std.specs.Prelude.{◌≡◌, ◌≢◌, ◌⊎◌, ℕ, ◌+◌, ◌^◌, ◌<◌, List, [], ◌∷◌, ◌++◌, None, Result, Ok, Err, length}
use Rattle.std.specs.Io.KnownBytes.{Appends, IsAtEnd}
use Rattle.cds_base.specs.Lines.{fault_of_lines, lines_so_far, octets_ahead}
use Rattle.cds_base.specs.SourceReading.{GrowsByReading}
use Rattle.cds_base.specs.declared.lines.Lines.{Lines}
use Rattle.house_journal.specs.declared.disk.Disk.{Ghosts}
use Rattle.house_journal.specs.Journals.{LeavesOnly}
use Rattle.house_segments.specs.Chains.{last_digest}
use Rattle.house_segments.specs.Segments.{HasBodies, disk_of, size_with}
use Rattle.cds_base.specs.RunEnds.{Run}
use Rattle.house_serving.specs.Serving.{Course, HasAfter, HasFront, HasNoLine, IsOver, LacksRoom, LinesDone, Records}
use Rattle.house_serving.specs.Turns.{Dialogue, Turn, bodies_of, lines_text, texts_of}
use Rattle.house_serving.specs.declared.ending.Ending.{Ending}
use Rattle.house_serving.specs.declared.ending.Ending.TheVariants.{BadInput, Full, Grown, InputEnds}
use Rattle.house_turns.specs.HouseReplies.{Responds}
use Rattle.house_turns.specs.declared.house.House.{House}
use Rattle.house_program.specs.Beginnings.{first_bodies}
use Rattle.house_program.specs.Files.{Files, WithFile}
use Rattle.house_program.specs.Lives.{IsFrontSaid}
use Rattle.house_program.specs.declared.segments.Left.{Left}
use Rattle.house_program.specs.declared.segments.Next.{Next}
use Rattle.house_program.specs.declared.status.Status.{Status}
use Rattle.house_program.specs.declared.status.Status.TheVariants as statuses

-- a run ends with all that is due done: the segment has grown, or the input ended (own)
abbrev pub EndsWhole : Ending → Type 0
EndsWhole ending = (ending ≡ Grown) ⊎ (ending ≡ InputEnds)

-- what a crash leaves of a folder now, and what crashes may have left at any moment so far (own)
pub record Remains : Type 1 where
  pub kept : Files → Type 0
  pub ever : Files → Type 0

abbrev pub remains : (kept ever : Files → Type 0) → Remains
remains kept ever = record { kept = kept; ever = ever }

-- the house and the lines before a run and after it, and what its source and its sink tell (own)
pub record Passage : Type 0 where
  pub house : House
  pub house' : House
  pub lines : Lines
  pub lines' : Lines
  pub run : Run

abbrev pub passage : (house house' : House) → (lines lines' : Lines) → Run → Passage
passage house house' lines lines' run =
    record { house = house; house' = house'; lines = lines; lines' = lines'; run = run }

-- a run over a segment, without the segment (own)
abbrev pub passage_of : {D : Type 0} → Course House D → Passage
passage_of way = passage way.from.house way.to.house way.from.lines way.to.lines way.run

-- from the lines before a run to those after it, these octets were read (own)
abbrev pub WereRead : Passage → List ℕ → Type 0
WereRead way octets = GrowsByReading way.run.left way.run.left' (octets_ahead way.lines) octets

-- the number of the line after these (own)
abbrev pub number_next : Passage → List Turn → ℕ
number_next way turns = lines_so_far way.lines + 1 + length turns

-- all of the lines that were read were done and answered, and all their records are synced (own)
pub record IsDoneWhole {D : Type 0} (g : Ghosts D) (first : Records) (said : List ℕ)
    (way : Course House D) (done : LinesDone House) : Type 0 where
  pub here : done.at ≡ way.to.house
  pub none_over : done.over ≡ []
  pub all : done.text ≡ said ++ texts_of done.turns
  pub synced : HasAfter g way.to.segment first (bodies_of done.turns)
  pub read : WereRead (passage_of way) (lines_text done.turns ++ octets_ahead way.to.lines)

-- the next line is none, and all is answered, as well as that (own)
pub record IsStoppedAt (said : List ℕ) (way : Passage) (done : LinesDone House) : Type 0 where
  pub last : List ℕ
  pub one : List ℕ
  pub all : done.text ≡ said ++ (texts_of done.turns ++ last)
  pub read : WereRead way (lines_text done.turns ++ (one ++ octets_ahead way.lines'))
  pub faulty : HasNoLine (number_next way done.turns) one (octets_ahead way.lines') way.run.left'
      last

-- the record of the next line has no room after these bodies (own)
pub record IsCrowded (bodies : List (List ℕ)) (way : Passage)
    (done : LinesDone House) : Type 0 where
  pub one : List ℕ
  pub read : WereRead way (lines_text done.turns ++ (one ++ octets_ahead way.lines'))
  pub lacks : LacksRoom Responds (number_next way done.turns) done.at done.over one
      (bodies ++ bodies_of done.turns)

-- what an ending says besides (own)
pub record EndsDue (bodies : List (List ℕ)) (said : List ℕ) (way : Passage)
    (done : LinesDone House) (ending : Ending) : Type 0 where
  pub unbroken : ending ≡ Grown → fault_of_lines way.lines' ≡ None
  pub counted : ending ≡ Grown
      → lines_so_far way.lines' ≡ lines_so_far way.lines + length done.turns
  pub input : ending ≡ InputEnds → (octets_ahead way.lines' ≡ []) × IsAtEnd way.run.left'
  pub stopped : ending ≡ BadInput → IsStoppedAt said way done
  pub crowded : ending ≡ Full → IsCrowded bodies way done

-- what is said first, and then lines over a segment that has these records (own)
pub record Spoken {D : Type 0} (g : Ghosts D) (first : Records) (said : List ℕ)
    (way : Course House D) (ending : Ending) : Type 0 where
  pub done : LinesDone House
  pub talk : Dialogue Responds (lines_so_far way.from.lines + 1) way.from.house done.turns done.at
  pub over_one : IsOver Responds (number_next (passage_of way) done.turns) done.at done.over
  pub wrote : Appends way.run.written way.run.written' done.text
  pub crash : LeavesOnly g (disk_of way.from.segment) (disk_of way.to.segment)
      (HasFront first.before first.bodies (bodies_of done.turns ++ done.over))
  pub acknowledged : (c : List ℕ) → g.may_leave (disk_of way.to.segment) c
      → HasFront first.before (first.bodies ++ bodies_of done.turns) done.over c
  pub says : IsFrontSaid said done.turns done.text
  pub whole : EndsWhole ending → IsDoneWhole g first said way done
  pub due : EndsDue first.bodies said (passage_of way) done ending

-- the segment was made and named, and what was done with it was whole (own)
pub record IsPassed (kept kept' : Files → Type 0) (next : Next) (way : Passage)
    (done : LinesDone House) (left : Left) : Type 0 where
  pub here : done.at ≡ way.house'
  pub none_over : done.over ≡ []
  pub all : done.text ≡ next.said.items ++ texts_of done.turns
  pub digest : left.digest ≡ last_digest next.before (first_bodies next ++ bodies_of done.turns)
  pub leaves : (files : Files) → kept' files → WithFile kept next.number
      (HasBodies next.before (first_bodies next ++ bodies_of done.turns)) files
  pub read : WereRead way (lines_text done.turns ++ octets_ahead way.lines')

-- a process may end so if a segment is not made: it is full only if the first record has no room
-- (own)
pub record IsUnmade (next : Next) (turns : List Turn) (status : Status) : Type 0 where
  pub not_ok : status ≢ statuses.Ok
  pub not_faulty : status ≢ statuses.BadInput
  pub full : status ≡ statuses.Full → (turns ≡ []) × (2 ^ 40 < size_with (first_bodies next))

-- what was done with a segment that was to be made: without a name nothing was said (own)
pub record SegmentDone (old new : Remains) (next : Next) (way : Passage)
    (result : Result Left Status) : Type 0 where
  pub done : LinesDone House
  pub talk : Dialogue Responds (lines_so_far way.lines + 1) way.house done.turns done.at
  pub over_one : IsOver Responds (number_next way done.turns) done.at done.over
  pub wrote : Appends way.run.written way.run.written' done.text
  pub any_moment : (files : Files) → new.ever files → old.ever files
      ⊎ WithFile old.kept next.number
      (HasFront next.before (first_bodies next) (bodies_of done.turns ++ done.over)) files
  pub at_the_end : (files : Files) → new.kept files
      → (old.kept files × (done.text ≡ []) × (done.turns ≡ [])) ⊎ WithFile old.kept next.number
      (HasFront next.before (first_bodies next ++ bodies_of done.turns) done.over) files
  pub says : IsFrontSaid next.said.items done.turns done.text
  pub passed : (left : Left) → result ≡ Ok left → EndsWhole left.ending
      → IsPassed old.kept new.kept next way done left
  pub due : (left : Left) → result ≡ Ok left
      → EndsDue (first_bodies next) next.said.items way done left.ending
  pub unmade : (status : Status) → result ≡ Err status → IsUnmade next done.turns status
