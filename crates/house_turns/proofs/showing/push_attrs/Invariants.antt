use Rattle.std.specs.FinMap.{entries}
use Rattle.attr_sets.specs.AttributeCells.{cell_values}
use Rattle.script_answers.proofs.DumpLoops.{Written}
use Rattle.house_turns.specs.Showings.{attr_shown}
use Rattle.house_turns.proofs.showing.push_attrs.Given as goal

abbrev pub invariant-loop-name : goal.invariant-loop-name
invariant-loop-name l =
    Written (λ n c. attr_shown n (cell_values c)) l.number (entries l.attrs) l.name-iterator l.fn.text.items l.text.items
