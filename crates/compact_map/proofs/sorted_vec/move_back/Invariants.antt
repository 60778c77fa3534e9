use Rattle.std.proofs.Common.{◌≡◌, ◌+◌, ◌≤◌, ◌++◌, length, vec_len, vec_capacity}
use Rattle.compact_map.proofs.sorted_vec.move_back.Given as goal

abbrev pub invariant-loop-entry : goal.invariant-loop-entry
invariant-loop-entry g l =
    (l.entries.items ++ l.tree.entries ≡ l.fn.entries.items ++ l.fn.tree.entries) × (vec_len l.entries + length l.tree.entries ≤ vec_capacity l.entries)

abbrev pub decreases-loop-entry : goal.decreases-loop-entry
decreases-loop-entry g l = length l.tree.entries
