use Rattle.std.proofs.Common.{◌∙◌, ap, subst, refl}
use Rattle.std.specs.Prelude.{max, MatchOption}
use Rattle.std.specs.FinMap as map
use Rattle.clearinghouse.specs.declared.house.Clearinghouse.{Clearinghouse}
use Rattle.house_directory.specs.declared.states.DirState.TheVariants as state
use Rattle.house_directory.specs.declared.taking.Taken.TheVariants as answers
use Rattle.house_directory.specs.DirectoryTakes.{Answers}
use Rattle.clearinghouse.specs.HouseTakes.{TakesAt}
use Rattle.clearinghouse.proofs.Houses.{same_house}
use Rattle.clearinghouse.proofs.Takings.{on_err_of}
use Rattle.clearinghouse.proofs.house.Clearinghouse.take_other.Goals as goal

pub returns-in_err-turn-in-Some-clause-err : goal.returns-in_err-turn-in-Some-clause-err
returns-in_err-turn-in-Some-clause-err c =
    on_err_of c.from_residual.result _
    (same_house c.args.self.now c.args.message.now.dir c.in-Some.held.now c.take_here.new.self c.args.self.now.floor c.in-Some.ensures.value
    c.in_err-turn-in-Some.ensures.err refl)

pub returns-in_ok-turn-in-Some-clause-ok : goal.returns-in_ok-turn-in-Some-clause-ok
returns-in_ok-turn-in-Some-clause-ok c =
    let new : Clearinghouse =
    record c.args.self.now {
      floor = c.raise.new.self;
      dirs = map.insert c.args.self.now.dirs c.args.message.now.dir (state.Held c.take_here.new.self);
    } in
    subst (λ p. MatchOption p (Answers c.args.self.now new answers.NoReplica c.in_ok-turn-in-Some.turn.answer c.in_ok-turn-in-Some.turn.outgoing)
    (λ h. TakesAt c.args.message.now c.args.self.now new h c.in_ok-turn-in-Some.turn.answer c.in_ok-turn-in-Some.turn.outgoing)) c.in-Some.ensures.value
    (record {
      held = c.take_here.new.self;
      takes = c.in_ok-turn-in-Some.ensures.ok;
      after = ap (λ t. record c.args.self.now {
        floor = record { time = t };
        dirs = map.insert c.args.self.now.dirs c.args.message.now.dir (state.Held c.take_here.new.self);
      }) (c.raise.ensures ∙ ap (max c.args.self.now.floor.time) c.time_taken.ensures);
    })
