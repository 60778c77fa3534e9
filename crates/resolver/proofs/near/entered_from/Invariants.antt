use Rattle.std.proofs.Common.{◌≡◌, drop, Some}
use Rattle.cell_names.specs.ChildPointers.{pointer_in}
use Rattle.resolver.specs.Nears.{children}
use Rattle.resolver.proofs.near.entered_from.Given as goal

-- the components at hand lead from the present directory where all lead from the first
abbrev pub invariant-loop-component : goal.invariant-loop-component
invariant-loop-component g l =
    let tells = g.R.EntryReader.tells l.reader in
    children tells (drop l.component-index l.components) (Some (pointer_in l.at)) ≡ children tells l.components (Some (pointer_in l.fn.from))
