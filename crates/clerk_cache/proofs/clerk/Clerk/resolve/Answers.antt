use Rattle.std.proofs.Common.{ap, sym, refl, ◌∙◌, inl}
use Rattle.std.specs.Prelude.{Some}
use Rattle.std.specs.Option.{option_map}
use Rattle.cell_names.specs.ChildPointers.{pointer_in}
use Rattle.resolver.specs.Walks.{start}
use Rattle.resolver.specs.ChangingReaders.{begins}
use Rattle.resolver.specs.ChangingEnds.{found_at}
use Rattle.resolver.specs.PassWords.{walker_of}
use Rattle.clerk_cache.specs.Clerks.{clerk_reader}
use Rattle.clerk_cache.proofs.ClerkLaws.{empty_resolved, rootless_resolved, resolved, ran_out, some_length}
use Rattle.clerk_cache.proofs.clerk.Clerk.resolve.Goals as goal

pub returns-then-len-eq0-clause-answer : goal.returns-then-len-eq0-clause-answer
returns-then-len-eq0-clause-answer g c = empty_resolved (clerk_reader c.args.now (g.R.EntryReader.tells c.args.reader.now)) c.args.self.now c.args.name.now
    (sym c.len.ensures ∙ c.if-len-eq0.true)

pub returns-in-Err-clause-answer : goal.returns-in-Err-clause-answer
returns-in-Err-clause-answer g c = record {
  state = c.args.self.now;
  walker = start (g.R.EntryReader.tells c.args.reader.now) c.args.name.now;
  comes = begins;
  within = some_length c.args.name.now (λ empty. c.if-len-eq0.false (c.len.ensures ∙ empty));
  is = inl refl;
}

pub returns-in-None-clause-answer : goal.returns-in-None-clause-answer
returns-in-None-clause-answer g c = rootless_resolved (clerk_reader c.args.now (g.R.EntryReader.tells c.args.reader.now)) c.args.self.now c.args.name.now
    (λ empty. c.if-len-eq0.false (c.len.ensures ∙ empty)) (sym c.in-Ok.ensures ∙ ap (option_map pointer_in) c.in-None.is)

pub returns-in-Err-walk_on-clause-answer : goal.returns-in-Err-walk_on-clause-answer
returns-in-Err-walk_on-clause-answer g c = ran_out (clerk_reader c.args.now (g.R.EntryReader.tells c.args.reader.now)) c.args.self.now c.walk_on.new.self c.args.name.now
    (pointer_in c.in-Some.root) (walker_of c.new-walk.result) (sym c.in-Ok.ensures ∙ ap (option_map pointer_in) c.in-Some.is) c.new-walk.ensures.walker
    c.in-Err-walk_on.ensures.memory

pub returns-in-Found-clause-answer : goal.returns-in-Found-clause-answer
returns-in-Found-clause-answer g c = resolved (clerk_reader c.args.now (g.R.EntryReader.tells c.args.reader.now)) c.args.self.now c.walk_on.new.self c.args.name.now
    (pointer_in c.in-Some.root) (walker_of c.new-walk.result) c.in-Ok-walk_on.ended.0 (Some (pointer_in c.in-Ok-walk_on.ended.1))
    (sym c.in-Ok.ensures ∙ ap (option_map pointer_in) c.in-Some.is) c.new-walk.ensures.walker c.in-Ok-walk_on.ensures.ends
    ∙ ap (λ e. (found_at (Some (pointer_in c.in-Ok-walk_on.ended.1)) e, c.walk_on.new.self)) c.in-Found.is

pub returns-in-Missing-clause-answer : goal.returns-in-Missing-clause-answer
returns-in-Missing-clause-answer g c = resolved (clerk_reader c.args.now (g.R.EntryReader.tells c.args.reader.now)) c.args.self.now c.walk_on.new.self c.args.name.now
    (pointer_in c.in-Some.root) (walker_of c.new-walk.result) c.in-Ok-walk_on.ended.0 (Some (pointer_in c.in-Ok-walk_on.ended.1))
    (sym c.in-Ok.ensures ∙ ap (option_map pointer_in) c.in-Some.is) c.new-walk.ensures.walker c.in-Ok-walk_on.ensures.ends
    ∙ ap (λ e. (found_at (Some (pointer_in c.in-Ok-walk_on.ended.1)) e, c.walk_on.new.self)) c.in-Missing.is

pub returns-clause-answer : goal.returns-clause-answer
returns-clause-answer g c = resolved (clerk_reader c.args.now (g.R.EntryReader.tells c.args.reader.now)) c.args.self.now c.walk_on.new.self c.args.name.now
    (pointer_in c.in-Some.root) (walker_of c.new-walk.result) c.in-Ok-walk_on.ended.0 (Some (pointer_in c.in-Ok-walk_on.ended.1))
    (sym c.in-Ok.ensures ∙ ap (option_map pointer_in) c.in-Some.is) c.new-walk.ensures.walker c.in-Ok-walk_on.ensures.ends
    ∙ ap (λ e. (found_at (Some (pointer_in c.in-Ok-walk_on.ended.1)) e, c.walk_on.new.self)) c.in-Refused.is
