use Rattle.std.proofs.Common.{◌≡◌}
use Rattle.ns_import.proofs.waiting.Waiting.all_own.Given as goal

abbrev pub invariant-loop-name : goal.invariant-loop-name
invariant-loop-name l =
    (goal.iterator-loop-name).can_next l.name-iterator × (goal.iterator-loop-name).is_finite l.name-iterator × (l.all.items ≡ l.yielded)
