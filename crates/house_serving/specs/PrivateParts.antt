-- Words of private contracts: what the parts of a run do.
use Rattle.std.specs.Prelude.{◌≡◌, ◌≢◌, ◌⊎◌, ℕ, ◌+◌, ◌^◌, ◌<◌, List, [], ◌∷◌, ◌++◌, length, take, Option, Result, Ok, Err, OnOk}
use Rattle.std.specs.Io.KnownBytes.{Appends}
use Rattle.cds_base.specs.Counts.{Rose}
use Rattle.cds_base.specs.declared.scan.LineFault.{LineFault}
use Rattle.cds_base.specs.declared.scan.LineFault.TheVariants as line
use Rattle.house_journal.specs.declared.disk.Disk.{Ghosts}
use Rattle.house_journal.specs.Journals.{LeavesOnly}
use Rattle.house_journal.specs.declared.journal.JournalFault.{JournalFault}
use Rattle.house_journal.specs.declared.journal.JournalFault.TheVariants as journal
use Rattle.house_segments.specs.Segments.{disk_of, size_with}
use Rattle.house_segments.specs.declared.segment.Segment.{Segment}
use Rattle.house_serving.specs.Ending.{HasAnswerCause}
use Rattle.house_serving.specs.Faults.{fault_line_text, fault_of_house, too_long}
use Rattle.cds_base.specs.RunEnds.{IsFront}
use Rattle.house_serving.specs.Serving.{Deed, HasAfter, HasFront, IsOver, IsAllSaid, LacksRoom, LastLine, LinesDone, Records, Work, deed}
use Rattle.house_serving.specs.Turns.{Replying, bodies_in, bodies_of, lines_text, texts_of}
use Rattle.house_serving.specs.declared.ending.Ending.{Ending}
use Rattle.house_serving.specs.declared.ending.Ending.TheVariants.{BadInput, ReadFault, WriteFault, OutOfMemory, Full, DiskFault}
use Rattle.house_serving.specs.declared.faults.TheConstants.{MOST_LINE}

-- how a run ends if a record is not put
abbrev pub ending_of_put : JournalFault → Ending
ending_of_put journal.Full = Full
ending_of_put journal.DiskFault = DiskFault
ending_of_put journal.Reopen = DiskFault

-- what keeps a record from being put: only a failure of the disk raises its count
abbrev pub HasKeepCause : (disks disks' : ℕ) → Result (Unit {0}) Ending → Type 0
HasKeepCause disks disks' (Ok x) = disks' ≡ disks
HasKeepCause disks disks' (Err DiskFault) = Rose disks disks'
HasKeepCause disks disks' (Err OutOfMemory) = disks' ≡ disks
HasKeepCause disks disks' (Err Full) = disks' ≡ disks
HasKeepCause disks disks' (Err ending) = ⊥

-- the record with this body is put, if there is one; a crash leaves the others, or those and this
-- one
pub record KeepsRecord {D : Type 0} (g : Ghosts D) (first : Records) (segment segment' : Segment D)
    (body : Option (List ℕ)) (result : Result (Unit {0}) Ending) : Type 0 where
  pub crash : LeavesOnly g (disk_of segment) (disk_of segment')
      (HasFront first.before first.bodies (bodies_in body))
  pub left : (c : List ℕ) → g.may_leave (disk_of segment') c
      → HasFront first.before first.bodies (bodies_in body) c
  pub ok : OnOk result (HasAfter g segment' first (bodies_in body))
  pub full : result ≡ Err Full
      → (segment' ≡ segment) × (2 ^ 40 < size_with (first.bodies ++ bodies_in body))
  pub cause : HasKeepCause (g.faults (disk_of segment)) (g.faults (disk_of segment')) result

-- a run stops at a fault of lines: its line is written, or a part of it; of a failed read nothing
-- is said
abbrev pub StopsAtFault : (written written' : Option (List ℕ)) → (writes writes' : ℕ) → LineFault
    → Ending → Type 0
StopsAtFault written written' writes writes' fault ReadFault =
    (fault ≡ line.ReadFault) × (written' ≡ written) × (writes' ≡ writes)
StopsAtFault written written' writes writes' fault BadInput =
    (fault ≢ line.ReadFault) × Appends written written' (fault_line_text (fault_of_house fault))
    × (writes' ≡ writes)
StopsAtFault written written' writes writes' fault WriteFault =
    (fault ≢ line.ReadFault)
    × ((k : ℕ) × Appends written written' (take k (fault_line_text (fault_of_house fault))))
    × Rose writes writes'
StopsAtFault written written' writes writes' fault OutOfMemory =
    (fault ≢ line.ReadFault) × (written' ≡ written) × (writes' ≡ writes)
StopsAtFault written written' writes writes' fault ending = ⊥

-- a house and its segment at one moment, and what its sink tells
pub record LineMoment (H D : Type 0) : Type 0 where
  pub house : H
  pub segment : Segment D
  pub written : Option (List ℕ)
  pub writes : ℕ

abbrev pub line_moment : {H D : Type 0} → (house : H) → (segment : Segment D)
    → (written : Option (List ℕ)) → (writes : ℕ) → LineMoment H D
line_moment house segment written writes =
    record { house = house; segment = segment; written = written; writes = writes }

-- a line and its number, and what there was before it was answered and is after it
pub record LineCourse (H D : Type 0) : Type 0 where
  pub number : ℕ
  pub line : List ℕ
  pub from : LineMoment H D
  pub to : LineMoment H D

abbrev pub line_course : {H D : Type 0} → (number : ℕ) → (line : List ℕ)
    → (from to : LineMoment H D) → LineCourse H D
line_course number line from to = record { number = number; line = line; from = from; to = to }

-- the house and the segment of after a line are those of what was done, all of which was answered
abbrev pub IsLineDone : {H D : Type 0} → Ghosts D → Records → LineCourse H D → LinesDone H
    → (said : List ℕ) → Type 0
IsLineDone g first way done said = IsAllSaid g first way.to.house way.to.segment done said

-- what the ending of a line says of what was done and of the last line, besides which call failed
abbrev pub LineEndsSo : {H D : Type 0} → Ghosts D → Records → LineCourse H D → LinesDone H
    → LastLine → Result (Unit {0}) Ending → Type 0
LineEndsSo g first way done last (Ok x) =
    IsLineDone g first way done last.said × (last.said ≡ []) × (last.taken ≡ [])
    × (length done.turns ≡ 1)
LineEndsSo g first way done last (Err BadInput) =
    IsLineDone g first way done last.said × (done.turns ≡ []) × (MOST_LINE < length way.line)
    × (last.said ≡ fault_line_text (too_long way.number))
LineEndsSo g first way done last (Err WriteFault) =
    IsFront done.text (texts_of done.turns ++ last.said) × (done.over ≡ [])
    × ((last.said ≡ []) ⊎ ((done.turns ≡ []) × (MOST_LINE < length way.line)
    × (last.said ≡ fault_line_text (too_long way.number))))
LineEndsSo g first way done last (Err OutOfMemory) = done.text ≡ texts_of done.turns
LineEndsSo g first way done last (Err Full) =
    (done.text ≡ texts_of done.turns) × HasAfter g way.to.segment first (bodies_of done.turns)
LineEndsSo g first way done last (Err DiskFault) = done.text ≡ texts_of done.turns
LineEndsSo g first way done last (Err ending) = ⊥

-- what the disk and the sink tell of a line
abbrev pub line_deed : {H D : Type 0} → LineCourse H D → Deed H D
line_deed way =
    deed way.from.house (disk_of way.from.segment) (disk_of way.to.segment) way.from.written
    way.to.written

-- one line, as a run is
pub record LineServed {H D : Type 0} (responds : Replying H) (g : Ghosts D) (first : Records)
    (way : LineCourse H D) (result : Result (Unit {0}) Ending) : Type 0 where
  pub done : LinesDone H
  pub last : LastLine
  pub over_one : IsOver responds (way.number + length done.turns) done.at done.over
  pub work : Work responds g first way.number (line_deed way) done
  pub takes : lines_text done.turns ++ last.taken ≡ way.line ++ 10 ∷ []
  pub ends : LineEndsSo g first way done last result
  pub room : result ≡ Err Full → LacksRoom responds (way.number + length done.turns) done.at
      done.over last.taken (first.bodies ++ bodies_of done.turns)
  pub cause : HasAnswerCause way.from.writes way.to.writes (g.faults (disk_of way.from.segment))
      (g.faults (disk_of way.to.segment)) result
