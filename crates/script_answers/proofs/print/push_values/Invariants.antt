use Rattle.std.proofs.Common.{◌≡◌, ◌++◌, ◌∷◌, take, length}
use Rattle.std.specs.Fmt.{decimal}
use Rattle.std.specs.List.{flat_map}
use Rattle.hex.specs.Hex.{encode_lower}
use Rattle.script_answers.proofs.print.push_values.Given as goal

abbrev pub invariant-loop-value : goal.invariant-loop-value
invariant-loop-value l = l.line.items ≡ l.fn.line.items ++ ((32 ∷ decimal (length l.values)) ++ flat_map (λ v. 32 ∷ encode_lower v) (take l.value-index l.values))
