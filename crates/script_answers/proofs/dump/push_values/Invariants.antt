use Rattle.std.specs.FinMap.{entries}
use Rattle.script_answers.specs.Texts.{value_lines}
use Rattle.script_answers.proofs.DumpLoops.{Written}
use Rattle.script_answers.proofs.dump.push_values.Given as goal

abbrev pub invariant-loop-value : goal.invariant-loop-value
invariant-loop-value l = Written value_lines l.number (entries l.values) l.value-iterator l.fn.text.items l.text.items
