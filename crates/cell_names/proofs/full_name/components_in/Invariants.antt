use Rattle.std.proofs.Common.{◌≡◌, map}
use Rattle.cell_names.proofs.full_name.components_in.Given as goal

abbrev pub invariant-loop-component : goal.invariant-loop-component
invariant-loop-component l =
    (goal.iterator-loop-component).can_next l.component-iterator × (goal.iterator-loop-component).is_finite l.component-iterator
    × (l.components.items ≡ map (λ c. c.now) l.yielded)
