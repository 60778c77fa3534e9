use Rattle.std.proofs.Common.{◌≡◌, List, ℕ}
use Rattle.std.specs.FinMap as map
use Rattle.cds_stamps.specs.Octets.{octets_cmp}
use Rattle.cds_stamps.specs.Semilattice.{maybe, join_of}
use Rattle.cds_stamps.proofs.TreeViews.{entry_at}
use Rattle.attr_sets.specs.Marks.{later, mark_after_clear}
use Rattle.attr_sets.proofs.value_map.ValueMap.outdates_all.Given as goal

abbrev pub invariant-loop-value : goal.invariant-loop-value
invariant-loop-value l =
    (q : List ℕ)
    → maybe later (map.get l.fn.self q) (join_of later (λ e. mark_after_clear l.fn.clear (entry_at octets_cmp q e)) l.value-iterator)
    ≡ maybe later (map.get l.fn.self q) (mark_after_clear l.fn.clear (map.get l.fn.other q))
