use Rattle.std.proofs.Common.{◌≡◌, ◌≤◌, ◌++◌, vec_len, vec_capacity}
use Rattle.compact_map.proofs.sorted_vec.move_to.Given as goal

abbrev pub invariant-loop-key : goal.invariant-loop-key
invariant-loop-key g l =
    (l.entries.items ++ l.tree.entries ≡ l.fn.entries.items ++ l.fn.tree.entries) × (vec_capacity l.fn.entries ≤ vec_capacity l.entries)

abbrev pub decreases-loop-key : goal.decreases-loop-key
decreases-loop-key g l = vec_len l.entries
