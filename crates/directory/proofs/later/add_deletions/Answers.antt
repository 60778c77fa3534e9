use Rattle.std.proofs.Common.{refl, ◌∙◌}
use Rattle.directory.proofs.LaterLaws.{rest_starts, rest_step, rest_ends}
use Rattle.directory.proofs.later.add_deletions.Goals as goal

pub loop-name-init : goal.loop-name-init
loop-name-init c = record {
  keeps = λ d known. known;
  knows = rest_starts c.args.deletions.now c.args.entries.now _ (c.into_iter-name-iterator.ensures.into_iter_gives ∙ c.iter-name-items.ensures);
  room = refl;
}

pub loop-name-preserved : goal.loop-name-preserved
loop-name-preserved c = record {
  keeps = λ d known. c.in_ok-add_entry.ensures.adds.0 d (c.loop-name.invariant.keeps d known);
  knows = rest_step c.loop-name.deletions c.add_entry.new.self c.args.entries.now c.in-Some.name.now c.in-Some.entry.now
      c.loop-name.name-iterator c.next.new.self c.in-Some.ensures.steps c.in_ok-add_entry.ensures.adds.0 c.in_ok-add_entry.ensures.ok
      c.loop-name.invariant.knows;
  room = c.add_entry.ensures.room ∙ c.loop-name.invariant.room;
}

pub returns-clause-ok : goal.returns-clause-ok
returns-clause-ok c =
    rest_ends c.loop-name.deletions c.args.entries.now c.loop-name.name-iterator c.in-None.ensures.steps.0 c.loop-name.invariant.knows
