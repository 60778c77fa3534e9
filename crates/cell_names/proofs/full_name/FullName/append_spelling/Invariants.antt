use Rattle.std.proofs.Common.{◌≡◌, ◌++◌, take}
use Rattle.cell_names.specs.FullNames.{full_name_octets}
use Rattle.cell_names.proofs.full_name.FullName.append_spelling.Given as goal

abbrev pub invariant-loop-component : goal.invariant-loop-component
invariant-loop-component l = l.octets.items ≡ l.fn.octets.items ++ full_name_octets (take l.component-index l.components)
