use Rattle.std.proofs.Common.{◌≡◌, List, ℕ}
use Rattle.std.specs.FinMap as map
use Rattle.cds_stamps.specs.Octets.{octets_cmp}
use Rattle.cds_stamps.specs.Undos.{put_back, back_at}
use Rattle.attr_sets.proofs.value_map.ValueMap.take_changes_back.Given as goal

abbrev pub invariant-loop-value : goal.invariant-loop-value
invariant-loop-value l = (q : List ℕ)
    → back_at octets_cmp put_back l.changes.items q (map.get l.self q) ≡ back_at octets_cmp put_back l.fn.changes.items q (map.get l.fn.self q)

abbrev pub decreases-loop-value : goal.decreases-loop-value
decreases-loop-value l = goal.left-loop-value l
