use Rattle.std.proofs.Common.{◌∙◌, List, ℕ}
use Rattle.std.specs.FinMap.{entries}
use Rattle.attr_sets.specs.AttributeCells.{cell_values}
use Rattle.attr_sets.specs.declared.cell.AttrCell.{AttrCell}
use Rattle.script_answers.proofs.DumpLoops.{writing_begins, writing_goes_on, writing_ends}
use Rattle.house_turns.specs.Showings.{attr_shown}
use Rattle.house_turns.proofs.showing.push_attrs.Goals as goal

abbrev lines : List ℕ → AttrCell → List (List ℕ)
lines n c = attr_shown n (cell_values c)

pub loop-name-init : goal.loop-name-init
loop-name-init c =
    writing_begins lines c.args.number (entries c.args.attrs.now) _ c.args.text.now.items
    (c.into_iter-name-iterator.ensures.into_iter_gives ∙ c.iter-name-items.ensures)

pub loop-name-preserved : goal.loop-name-preserved
loop-name-preserved c =
    writing_goes_on lines c.args.number (entries c.args.attrs.now) c.loop-name.name-iterator c.next.new.self c.in-Some.name.now c.in-Some.cell.now
    c.args.text.now.items c.loop-name.text.items c.push_attr.new.text.items c.in-Some.ensures.steps c.loop-name.invariant c.in_ok-push_attr.ensures

pub returns : goal.returns
returns c =
    writing_ends lines c.args.number (entries c.args.attrs.now) c.loop-name.name-iterator c.args.text.now.items c.loop-name.text.items
    c.in-None.ensures.steps.0 c.loop-name.invariant
