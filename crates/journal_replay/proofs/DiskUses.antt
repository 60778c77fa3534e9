-- A disk that was used, and no other.
use Rattle.std.proofs.Common.{◌≡◌, ℕ, get_or, ◌+◌, ◌<◌, List, length, refl, sym, ◌∙◌, subst, arith}
use Rattle.std.specs.Prelude.{Option, Some, Result, Ok, Err, OnOk, slice_set}
use Rattle.house_journal.specs.MemoryDisks.{MemState}
use Rattle.house_journal.specs.declared.leave.Leave.{Leave}
use Rattle.disk_journals.specs.KeptJournals.{IsKept, StopsAndOpens}
use Rattle.disk_journals.specs.declared.kept.KeptHouse.{KeptHouse}
use Rattle.disk_journals.specs.declared.faults.Unkept.{Unkept}
use Rattle.cds_stamps.specs.declared.numbers.HouseNo.{HouseNo}
use Rattle.cell_script.specs.declared.command.Command.{Command}
use Rattle.cell_script.specs.declared.fault.ParseFault.{ParseFault}
use Rattle.cds_cell.specs.CommandImages.{image_after}
use Rattle.cds_cell.specs.Scripted.{step_of}
use Rattle.journal_forms.specs.declared.journal_answer.JournalAnswer.{JournalAnswer}
use Rattle.journal_forms.specs.declared.journal_line.JournalLine.{JournalLine}
use Rattle.journal_forms.specs.declared.journal_line.JournalLine.TheVariants as line
use Rattle.reply_buffer.specs.LineEnds.{Faults}
use Rattle.reply_buffer.specs.declared.replies.LineEnd.{LineEnd}
use Rattle.reply_buffer.specs.declared.replies.LineEnd.TheVariants as end
use Rattle.journal_replay.specs.CellDisks.{disk_count}
use Rattle.journal_replay.specs.CellJournals.{JournaledCell}
use Rattle.journal_replay.specs.DiskCalls.{EndCalls, IsStopped, LineCalls, Uses, UsesDisk}
use Rattle.journal_replay.proofs.OneHouse.{get_is}

-- the disk at the place of a house
pub used_there : (Use : MemState → MemState → Type 0) (h at : ℕ) (disks : List MemState) (before after : MemState) → h ≡ at + 1
    → length disks ≡ disk_count → at < disk_count → before ≡ get_or disks at before → Use before after → UsesDisk Use h disks (slice_set disks at after)
used_there Use h at disks before after house count few disk used at' house' =
    let same : at ≡ at' = omega (arith, house, house') in
    let there : Uses Use at disks (slice_set disks at after) = record {
      before = before;
      after = after;
      was = get_is disks at before (omega (arith, few, count)) disk;
      others = refl;
      used = used;
    } in
    subst (λ n. Uses Use n disks (slice_set disks at after)) same there

-- the put of a house was stopped so, or it was given up
pub stopped_use : {A : Type 0} (r : Result A Unkept) (image : List ℕ) (call : ℕ) (leave : Leave) (h at : ℕ) (disks : List MemState) (k : KeptHouse)
    (before after : MemState) → h ≡ at + 1 → length disks ≡ disk_count → at < disk_count → before ≡ get_or disks at before → IsKept (Some k) before
    → OnOk r (StopsAndOpens k.journal.place image call leave before after) → OnOk r (UsesDisk (IsStopped image call leave) h disks (slice_set disks at after))
stopped_use (Err e) image call leave h at disks k before after house count few disk kept stops = tt
stopped_use (Ok x) image call leave h at disks k before after house count few disk kept stops =
    used_there (IsStopped image call leave) h at disks before after house count few disk (record { place = k.journal.place; rest = kept.0.rest; stops = stops })

-- the image that is put is the one that the command makes
pub stop_calls : (r : Result JournalAnswer Unkept) (s : JournaledCell) (house : HouseNo) (call : ℕ) (leave : Leave) (c : Command) (image : List ℕ)
    (old new : List MemState) → image_after s.cell house.0 (step_of c) ≡ Some image → OnOk r (UsesDisk (IsStopped image call leave) house.0 old new)
    → OnOk r (LineCalls s (line.Stop house call leave c) old new)
stop_calls (Err e) s house call leave c image old new some used = tt
stop_calls (Ok a) s house call leave c image old new some used = λ other allowed is.
    let same : image ≡ other = (let both = sym some ∙ is in cc) in
    subst (λ (i : List ℕ). UsesDisk (IsStopped i call leave) house.0 old new) same used

-- a line at fault has the disks do nothing
pub fault_calls : (e : LineEnd) (text waited waits : List ℕ) (s : JournaledCell) (said : Result (Option JournalLine) ParseFault) (old new : List MemState)
    → Faults e text waited waits → EndCalls e s said old new
fault_calls end.GoesOn text waited waits s said old new ends = absurd ends
fault_calls end.Stops text waited waits s said old new ends = tt
fault_calls end.NoMemory text waited waits s said old new ends = tt
fault_calls end.Full text waited waits s said old new ends = tt
