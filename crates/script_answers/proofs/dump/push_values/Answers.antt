use Rattle.std.proofs.Common.{◌++◌, ◌∙◌, sym, ap}
use Rattle.std.specs.FinMap.{entries}
use Rattle.script_answers.specs.Texts.{value_line, value_lines}
use Rattle.script_answers.proofs.Printing.{one_line}
use Rattle.script_answers.proofs.DumpLoops.{writing_begins, writing_goes_on, writing_ends}
use Rattle.script_answers.proofs.dump.push_values.Goals as goal

pub loop-value-init : goal.loop-value-init
loop-value-init c =
    writing_begins value_lines c.args.number (entries c.args.values.now) _ c.args.text.now.items
    (c.into_iter-value-iterator.ensures.into_iter_gives ∙ c.iter-value-items.ensures)

pub loop-value-preserved : goal.loop-value-preserved
loop-value-preserved c =
    writing_goes_on value_lines c.args.number (entries c.args.values.now) c.loop-value.value-iterator c.next.new.self c.in-Some.value.now c.in-Some.mark.now
    c.args.text.now.items c.loop-value.text.items c.push_value_line.new.text.items c.in-Some.ensures.steps c.loop-value.invariant
    (c.in_ok-push_value_line.ensures
    ∙ ap (λ t. c.loop-value.text.items ++ t) (sym (one_line c.args.number (value_line c.in-Some.value.now c.in-Some.mark.now))))

pub returns : goal.returns
returns c =
    writing_ends value_lines c.args.number (entries c.args.values.now) c.loop-value.value-iterator c.args.text.now.items c.loop-value.text.items
    c.in-None.ensures.steps.0 c.loop-value.invariant
