use Rattle.std.proofs.Common.{◌∙◌}
use Rattle.std.specs.FinMap.{entries, len-entries}
use Rattle.house_turns.proofs.Shows.{directories_begin, directories_end, directory_next}
use Rattle.house_turns.proofs.showing.push_directories.Goals as goal

pub loop-dir-init : goal.loop-dir-init
loop-dir-init c =
    directories_begin c.args.number (entries c.args.states.now) _ c.args.text.now.items
    (c.into_iter-dir-iterator.ensures.into_iter_gives ∙ c.iter-dir-items.ensures)

pub loop-dir-preserved : goal.loop-dir-preserved
loop-dir-preserved c =
    directory_next c.args.number (entries c.args.states.now) c.loop-dir.dir-iterator c.next.new.self (c.in-Some.dir.now, c.in-Some.state.now)
    c.args.text.now.items c.loop-dir.text.items c.push_directory.new.text.items c.in-Some.ensures.steps c.in_ok-push_directory.ensures c.loop-dir.invariant

pub returns : goal.returns
returns c =
    directories_end c.args.number c.len.result (entries c.args.states.now) c.loop-dir.dir-iterator c.args.text.now.items c.loop-dir.text.items
    c.push_end.new.text.items c.in-None.ensures.steps.0 (c.len.ensures ∙ len-entries c.args.states.now) c.loop-dir.invariant c.in_ok-push_end.ensures
