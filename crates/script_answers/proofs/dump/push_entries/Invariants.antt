use Rattle.std.specs.FinMap.{entries}
use Rattle.script_answers.specs.Texts.{entry_lines}
use Rattle.script_answers.proofs.DumpLoops.{Written}
use Rattle.script_answers.proofs.dump.push_entries.Given as goal

abbrev pub invariant-loop-name : goal.invariant-loop-name
invariant-loop-name l = Written entry_lines l.number (entries l.table) l.name-iterator l.fn.text.items l.text.items
