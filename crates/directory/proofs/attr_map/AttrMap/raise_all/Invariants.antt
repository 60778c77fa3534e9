use Rattle.std.proofs.Common.{◌≡◌, List, ℕ}
use Rattle.std.specs.FinMap as map
use Rattle.cds_stamps.specs.Octets.{octets_cmp}
use Rattle.attr_sets.specs.AttributeCells.{join_cells}
use Rattle.cds_stamps.specs.Semilattice.{maybe, join_of}
use Rattle.cds_stamps.specs.Undos.{LogsChange}
use Rattle.attr_sets.specs.CellUndoWords.{undo_cell}
use Rattle.std.specs.List.{AllByRecursion}
use Rattle.directory.specs.Entries.{IsHeldCell}
use Rattle.cds_stamps.specs.Joins.{EachValue}
use Rattle.cds_stamps.proofs.TreeViews.{entry_at}
use Rattle.directory.proofs.attr_map.AttrMap.raise_all.Given as goal

abbrev pub invariant-loop-name : goal.invariant-loop-name
invariant-loop-name l =
    (EachValue IsHeldCell l.fn.self → EachValue IsHeldCell l.fn.other
    → EachValue IsHeldCell l.self × AllByRecursion (λ e. IsHeldCell e.1) l.name-iterator
    × ((q : List ℕ) → maybe join_cells (map.get l.self q) (join_of join_cells
    (entry_at octets_cmp q) l.name-iterator) ≡ maybe join_cells (map.get l.fn.self q) (map.get l.fn.other q)))
    × LogsChange undo_cell l.fn.self l.self l.fn.log.items l.log.items
