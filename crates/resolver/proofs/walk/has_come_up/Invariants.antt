use Rattle.std.proofs.Common.{◌≡◌, ◌++◌, false, take}
use Rattle.std.specs.List.{list_any}
use Rattle.cell_names.specs.FullNames.{is_name}
use Rattle.resolver.proofs.walk.has_come_up.Given as goal

-- none so far is the name
abbrev pub invariant-loop-name : goal.invariant-loop-name
invariant-loop-name l = list_any (λ earlier. is_name earlier (l.target ++ l.rest)) (take l.name-index l.later) ≡ false
