use Rattle.std.proofs.Common.{◌≡◌, List, ℕ}
use Rattle.std.specs.FinMap as map
use Rattle.std.specs.List.{AllByRecursion}
use Rattle.cds_stamps.specs.Octets.{octets_cmp}
use Rattle.cds_stamps.specs.Semilattice.{maybe, join_of}
use Rattle.cds_stamps.specs.Joins.{EachValue}
use Rattle.cds_stamps.proofs.TreeViews.{entry_at}
use Rattle.attr_sets.specs.AttributeCells.{join_cells}
use Rattle.directory.specs.Entries.{IsHeldCell}
use Rattle.directory.proofs.attr_map.AttrMap.outdates_all.Given as goal

abbrev pub invariant-loop-name : goal.invariant-loop-name
invariant-loop-name l =
    EachValue IsHeldCell l.fn.self → EachValue IsHeldCell l.fn.other
    → EachValue IsHeldCell l.fn.self × AllByRecursion (λ e. IsHeldCell e.1) l.name-iterator
    × ((q : List ℕ) → maybe join_cells (map.get l.fn.self q) (join_of join_cells
    (entry_at octets_cmp q) l.name-iterator) ≡ maybe join_cells (map.get l.fn.self q) (map.get l.fn.other q))
