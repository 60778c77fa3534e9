use Rattle.std.proofs.Common.{◌≡◌, List, ℕ}
use Rattle.std.specs.FinMap as map
use Rattle.cds_stamps.specs.Octets.{octets_cmp}
use Rattle.cds_stamps.specs.Undos.{back_at}
use Rattle.directory.specs.EntryUndoWords.{undo_entry}
use Rattle.directory.proofs.entry_map.EntryMap.take_back.Given as goal

abbrev pub invariant-loop-name : goal.invariant-loop-name
invariant-loop-name l = (q : List ℕ)
    → back_at octets_cmp undo_entry l.log.items q (map.get l.self q) ≡ back_at octets_cmp undo_entry l.fn.log.items q (map.get l.fn.self q)

abbrev pub decreases-loop-name : goal.decreases-loop-name
decreases-loop-name l = goal.left-loop-name l
