-- How a run of a house ends: what it read, what it wrote, and what of it each crash keeps.
use Rattle.std.specs.Prelude.{◌≡◌, ◌⊎◌, ℕ, ◌+◌, ◌^◌, ◌<◌, List, [], ◌∷◌, ◌++◌, length, Option, None}
use Rattle.std.specs.Io.KnownBytes.{Appends, IsAtEnd}
use Rattle.cds_base.specs.LineFaults.{IsLine}
use Rattle.cds_base.specs.Lines.{HasFault, lines_so_far, octets_ahead, fault_of_lines}
use Rattle.cds_base.specs.RunEnds.{IsFront, Run}
use Rattle.cds_base.specs.SourceReading.{GrowsByReading}
use Rattle.cds_base.specs.declared.lines.Lines.{Lines}
use Rattle.cds_base.specs.declared.scan.LineFault.{LineFault}
use Rattle.house_journal.specs.declared.disk.Disk.{Ghosts}
use Rattle.house_journal.specs.Journals.{LeavesOnly}
use Rattle.house_segments.specs.Segments.{HasBodies, IsAt, disk_of, size_with}
use Rattle.house_segments.specs.declared.segment.Segment.{Segment}
use Rattle.house_serving.specs.Ending.{Failures, HasEndingCause, failures}
use Rattle.house_serving.specs.Faults.{fault_line_text, fault_of_house, too_long}
use Rattle.house_serving.specs.Turns.{Dialogue, Replying, Said, Turn, bodies_in, bodies_of, lines_text, texts_of}
use Rattle.house_serving.specs.declared.ending.Ending.{Ending}
use Rattle.house_serving.specs.declared.ending.Ending.TheVariants.{InputEnds, BadInput, ReadFault, WriteFault, OutOfMemory, Full, DiskFault, Grown}
use Rattle.house_serving.specs.declared.faults.TheConstants.{MOST_LINE}

-- the records that a segment has: the digest before them, and their bodies
pub record Records : Type 0 where
  pub before : List ℕ
  pub bodies : List (List ℕ)

abbrev pub first_records : (before : List ℕ) → (bodies : List (List ℕ)) → Records
first_records before bodies = record { before = before; bodies = bodies }

-- a segment has these records, and after them these bodies
abbrev pub HasAfter : {D : Type 0} → Ghosts D → Segment D → Records → List (List ℕ) → Type 0
HasAfter g segment first more = IsAt g segment first.before (first.bodies ++ more)

-- octets of a segment with these bodies, and with a front of these others
pub record HasFront (before : List ℕ) (bodies more : List (List ℕ)) (octets : List ℕ) : Type 0 where
  pub front : List (List ℕ)
  pub rest : List (List ℕ)
  pub split : more ≡ front ++ rest
  pub has : HasBodies before (bodies ++ front) octets

-- ---- what is done

-- what lines came to: those that were done, the bodies of the record of one more line, what was
-- written, and the house after them
pub record LinesDone (H : Type 0) : Type 0 where
  pub turns : List Turn
  pub over : List (List ℕ)
  pub text : List ℕ
  pub at : H

abbrev pub lines_done : {H : Type 0} → (turns : List Turn) → (over : List (List ℕ))
    → (text : List ℕ) → (at : H) → LinesDone H
lines_done turns over text at = record { turns = turns; over = over; text = text; at = at }

-- a line that was taken and not done, with its end, or nothing; and the line that was said last,
-- which is no answer, or nothing
pub record LastLine : Type 0 where
  pub taken : List ℕ
  pub said : List ℕ

-- a house before it does lines; and a disk, and what was written, before them and after them
pub record Deed (H D : Type 0) : Type 0 where
  pub house : H
  pub disk : D
  pub disk' : D
  pub written : Option (List ℕ)
  pub written' : Option (List ℕ)

abbrev pub deed : {H D : Type 0} → (house : H) → (disk disk' : D)
    → (written written' : Option (List ℕ)) → Deed H D
deed house disk disk' written written' =
    record { house = house; disk = disk; disk' = disk'; written = written; written' = written' }

-- What was done. The turns are the lines that were done, the first of which has this number, and
-- the text was written. A crash at any moment leaves the records of before and a front of those of
-- the turns and of one over; one after the last call leaves those of all turns: so all of which
-- anything was written
pub record Work {H D : Type 0} (responds : Replying H) (g : Ghosts D) (first : Records)
    (number : ℕ) (act : Deed H D) (done : LinesDone H) : Type 0 where
  pub talk : Dialogue responds number act.house done.turns done.at
  pub wrote : Appends act.written act.written' done.text
  pub crash : LeavesOnly g act.disk act.disk'
      (HasFront first.before first.bodies (bodies_of done.turns ++ done.over))
  pub acknowledged : (c : List ℕ) → g.may_leave act.disk' c
      → HasFront first.before (first.bodies ++ bodies_of done.turns) done.over c

-- the house is the one after the turns, all their records are synced, and all that is due was
-- written: the answers, and what was said last
pub record IsAllSaid {H D : Type 0} (g : Ghosts D) (first : Records) (house : H)
    (segment : Segment D) (done : LinesDone H) (said : List ℕ) : Type 0 where
  pub here : done.at ≡ house
  pub none_over : done.over ≡ []
  pub synced : HasAfter g segment first (bodies_of done.turns)
  pub all_written : done.text ≡ texts_of done.turns ++ said

-- why the line of this number is none, and the line that says so: of these octets and what the
-- source has left; or it is a whole line, taken already, that is too long
abbrev pub HasNoLine : (number : ℕ) → (one octets : List ℕ) → (left : Option (List ℕ))
    → (last : List ℕ) → Type 0
HasNoLine number one octets left last =
    ((fault : LineFault) × HasFault number octets left fault × (one ≡ [])
    × (last ≡ fault_line_text (fault_of_house fault)))
    ⊎ ((line : List ℕ) × IsLine number line × (MOST_LINE < length line) × (one ≡ line ++ 10 ∷ [])
    × (last ≡ fault_line_text (too_long number)))

-- ---- a run

-- a house, its segment and the lines that it reads, at one moment
pub record Moment (H D : Type 0) : Type 0 where
  pub house : H
  pub segment : Segment D
  pub lines : Lines

abbrev pub moment : {H D : Type 0} → (house : H) → (segment : Segment D) → (lines : Lines)
    → Moment H D
moment house segment lines = record { house = house; segment = segment; lines = lines }

-- a run of a house: what there was before it and is after it, and what its source and its sink tell
pub record Course (H D : Type 0) : Type 0 where
  pub from : Moment H D
  pub to : Moment H D
  pub run : Run

abbrev pub course : {H D : Type 0} → (from to : Moment H D) → Run → Course H D
course from to run = record { from = from; to = to; run = run }

-- the number of the line after these turns of a run
abbrev pub number_after : {H D : Type 0} → Course H D → List Turn → ℕ
number_after way turns = lines_so_far way.from.lines + length turns + 1

-- the line after these turns is none, and what was said last says why
abbrev pub IsNoLine : {H D : Type 0} → Course H D → List Turn → LastLine → Type 0
IsNoLine way turns last =
    HasNoLine (number_after way turns) last.taken (octets_ahead way.to.lines) way.run.left'
    last.said

-- the house and the segment of after a run are those of what was done, all of which was answered
abbrev pub AllAnswered : {H D : Type 0} → Ghosts D → Records → Course H D → LinesDone H
    → (said : List ℕ) → Type 0
AllAnswered g first way done said = IsAllSaid g first way.to.house way.to.segment done said

-- what an ending says of what was done and of the last line, besides which call failed
abbrev pub EndsSo : {H D : Type 0} → Ghosts D → Records → Course H D → LinesDone H → LastLine
    → Ending → Type 0
EndsSo g first way done last InputEnds =
    AllAnswered g first way done last.said × (last.said ≡ []) × (last.taken ≡ [])
    × (octets_ahead way.to.lines ≡ []) × IsAtEnd way.run.left'
EndsSo g first way done last BadInput =
    AllAnswered g first way done last.said × IsNoLine way done.turns last
EndsSo g first way done last ReadFault =
    AllAnswered g first way done last.said × (last.said ≡ []) × (last.taken ≡ [])
EndsSo g first way done last WriteFault =
    IsFront done.text (texts_of done.turns ++ last.said) × (done.over ≡ [])
    × ((last.said ≡ []) ⊎ IsNoLine way done.turns last)
EndsSo g first way done last OutOfMemory = done.text ≡ texts_of done.turns
EndsSo g first way done last Full =
    (done.text ≡ texts_of done.turns) × HasAfter g way.to.segment first (bodies_of done.turns)
EndsSo g first way done last DiskFault = done.text ≡ texts_of done.turns
EndsSo g first way done last Grown =
    AllAnswered g first way done last.said × (last.said ≡ []) × (last.taken ≡ [])
    × (fault_of_lines way.to.lines ≡ None)

-- the house makes a reply of one more line, of this number: the record of that has this body, or
-- there is none
pub record IsNextLine {H : Type 0} (responds : Replying H) (number : ℕ) (at : H)
    (over : List (List ℕ)) : Type 0 where
  pub line : List ℕ
  pub said : Said
  pub next : H
  pub does : responds at number line said next
  pub bodies : over ≡ bodies_in said.body

-- no body, or that of the record of one more line
abbrev pub IsOver : {H : Type 0} → (responds : Replying H) → (number : ℕ) → (at : H)
    → List (List ℕ) → Type 0
IsOver responds number at over = (over ≡ []) ⊎ IsNextLine responds number at over

-- the record of one more line, which was taken, has no room after these bodies (own)
pub record LacksRoom {H : Type 0} (responds : Replying H) (number : ℕ) (at : H)
    (over : List (List ℕ)) (one : List ℕ) (bodies : List (List ℕ)) : Type 0 where
  pub next : IsNextLine responds number at over
  pub line : one ≡ next.line ++ 10 ∷ []
  pub large : 2 ^ 40 < size_with (bodies ++ over)

-- how often calls had failed before a run, and have after it
abbrev pub failed_before : {H D : Type 0} → Ghosts D → Course H D → Failures
failed_before g way = failures way.run.reads way.run.writes (g.faults (disk_of way.from.segment))

abbrev pub failed_after : {H D : Type 0} → Ghosts D → Course H D → Failures
failed_after g way = failures way.run.reads' way.run.writes' (g.faults (disk_of way.to.segment))

-- what the disk and the sink of a run tell
abbrev pub deed_of : {H D : Type 0} → Course H D → Deed H D
deed_of way =
    deed way.from.house (disk_of way.from.segment) (disk_of way.to.segment) way.run.written
    way.run.written'

-- A run of a house over a segment that had these records. Of the octets that were read come first
-- the lines of the turns, then one line that was taken and not done, if there is one, and then
-- those that were not yet given as lines
pub record Served {H D : Type 0} (responds : Replying H) (g : Ghosts D) (first : Records)
    (way : Course H D) (ending : Ending) : Type 0 where
  pub done : LinesDone H
  pub last : LastLine
  pub over_one : IsOver responds (number_after way done.turns) done.at done.over
  pub work : Work responds g first (lines_so_far way.from.lines + 1) (deed_of way) done
  pub read : GrowsByReading way.run.left way.run.left' (octets_ahead way.from.lines)
      (lines_text done.turns ++ (last.taken ++ octets_ahead way.to.lines))
  pub ends : EndsSo g first way done last ending
  pub room : ending ≡ Full → LacksRoom responds (number_after way done.turns) done.at done.over
      last.taken (first.bodies ++ bodies_of done.turns)
  pub counted : ending ≡ Grown
      → lines_so_far way.to.lines ≡ lines_so_far way.from.lines + length done.turns
  pub cause : HasEndingCause (failed_before g way) (failed_after g way) ending
