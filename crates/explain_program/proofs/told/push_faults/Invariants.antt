use Rattle.std.proofs.Common.{◌≡◌, ◌++◌, take}
use Rattle.explain_program.specs.Texts.{fault_lines}
use Rattle.explain_program.proofs.told.push_faults.Given as goal

abbrev pub invariant-loop-placed : goal.invariant-loop-placed
invariant-loop-placed l = l.text.items ≡ l.fn.text.items ++ fault_lines (take l.placed-index l.faults)
