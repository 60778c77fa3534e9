use Rattle.std.proofs.Common.{◌≡◌, ◌-◌, List, ℕ, true}
use Rattle.house_runs.specs.Folders.{FolderSegment}
use Rattle.cds_base.specs.RunEnds.{run_of}
use Rattle.house_turns.specs.declared.house.House.{House}
use Rattle.house_program.specs.Beginnings.{FindsSo}
use Rattle.house_program.specs.Causes.{ProcessCounts, counts_of}
use Rattle.house_program.proofs.FolderLemmas.{found_of}
use Rattle.house_program.proofs.ProcessLemmas.{IsLiving}
use Rattle.house_program.proofs.running.serve_all.Given as goal

-- the process goes on, it has the folder, and no call failed
pub record IsServing (Living Locked : Type 0) (before now : ProcessCounts) : Type 0 where
  pub living : Living
  pub locked : Locked
  pub calm : now ≡ before

abbrev pub invariant-segments : goal.invariant-segments
invariant-segments g l =
    IsServing
    (IsLiving (g.F.Folder.kept l.fn.folder) (g.F.Folder.left_ever l.fn.folder) (g.F.Folder.kept l.folder) (g.F.Folder.left_ever l.folder)
    (run_of g.S.Source g.K.Sink l.fn.source l.source l.fn.sink l.sink) l.lines l.house l.next)
    (g.F.Folder.locked l.folder ≡ true)
    (counts_of g.S.Source.faults g.K.Sink.faults g.F.Folder.faults l.fn.source l.fn.sink l.fn.folder)
    (counts_of g.S.Source.faults g.K.Sink.faults g.F.Folder.faults l.source l.sink l.folder)

abbrev pub decreases-segments : goal.decreases-segments
decreases-segments g l = 18446744073709551616 - l.next.number
