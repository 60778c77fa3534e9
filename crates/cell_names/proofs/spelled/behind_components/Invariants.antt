use Rattle.std.proofs.Common.{◌≡◌, ◌++◌, take}
use Rattle.cell_names.specs.FullNames.{behind_slashes}
use Rattle.cell_names.proofs.spelled.behind_components.Given as goal

abbrev pub invariant-loop-component : goal.invariant-loop-component
invariant-loop-component l = l.octets ≡ behind_slashes (take l.component-index l.components) ++ l.rest
