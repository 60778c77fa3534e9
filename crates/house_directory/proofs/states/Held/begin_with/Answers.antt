use Rattle.std.proofs.Common.{ap, refl, subst}
use Rattle.skulk_core.specs.MasterRounds.{IsGathering, IsPhaseOf, only}
use Rattle.house_directory.specs.DirectoryTakes.{place_in}
use Rattle.house_directory.proofs.Beginning.{begun_idle, begun_round, row_begins, completed_step, completed_lawful, begun_answer, begun_step, begun_lawful}
use Rattle.house_directory.proofs.states.Held.begin_with.Goals as goal

pub returns-in-Complete-clause-kept : goal.returns-in-Complete-clause-kept
returns-in-Complete-clause-kept c =
    completed_lawful c.args.by c.args.t.now c.args.self.now c.begin.new.self c.begin.result
    (row_begins c.args.by.house c.args.self.now.members c.args.t.now c.begin.new.self c.begin.result _ _ c.count-count.ensures.lawful
    c.requires.master c.count-count.ensures.count c.own_place-me.ensures.place c.begin.ensures.does)
    c.advance.new.self c.in-Complete.field-0 c.in-Complete.is
    (record {
      merged = c.advance.ensures.merged;
      up_to = c.advance.ensures.all_up_to;
      dropped = λ _. c.advance.ensures.dropped;
      valid = c.advance.ensures.valid;
      below = λ n _. c.advance.ensures.times n;
    })

pub returns-in-Complete-clause-step : goal.returns-in-Complete-clause-step
returns-in-Complete-clause-step c =
    completed_step c.args.by c.args.t.now c.args.self.now c.begin.new.self c.begin.result
    (row_begins c.args.by.house c.args.self.now.members c.args.t.now c.begin.new.self c.begin.result _ _ c.count-count.ensures.lawful
    c.requires.master c.count-count.ensures.count c.own_place-me.ensures.place c.begin.ensures.does)
    c.advance.new.self c.in-Complete.field-0 c.in-Complete.is
    (record {
      merged = c.advance.ensures.merged;
      up_to = c.advance.ensures.all_up_to;
      dropped = λ _. c.advance.ensures.dropped;
      valid = c.advance.ensures.valid;
      below = λ n _. c.advance.ensures.times n;
    })

pub returns-in-Complete-clause-begins : goal.returns-in-Complete-clause-begins
returns-in-Complete-clause-begins c = (
  (
    record {
      merged = c.advance.ensures.merged;
      up_to = c.advance.ensures.all_up_to;
      dropped = λ _. c.advance.ensures.dropped;
      valid = c.advance.ensures.valid;
      below = λ n _. c.advance.ensures.times n;
    },
    ap (λ k. record c.args.self.now { replica = c.advance.new.self; skulk = k })
        (begun_idle _ c.args.t.now _ c.begin.new.self c.begin.result c.in-Complete.field-0 c.begin.ensures.does c.in-Complete.is),
  ),
  refl,
)

pub returns-in_default : goal.returns-in_default
returns-in_default c =
    let row = row_begins c.args.by.house c.args.self.now.members c.args.t.now c.begin.new.self c.begin.result _ _ c.count-count.ensures.lawful
    c.requires.master c.count-count.ensures.count c.own_place-me.ensures.place c.begin.ensures.does in
    record {
      answer =
          begun_answer c.args.t.now c.args.self.now.members _ _ c.begin.new.self c.begin.result c.count-count.ensures.count c.begin.ensures.does
          c.in_default.not-Complete;
      posts = refl;
      begins = (
        (
          subst (λ p. IsGathering c.args.t.now (only p) c.begin.new.self) c.own_place-me.ensures.place
              (begun_round _ c.args.t.now _ c.begin.new.self c.begin.result c.begin.ensures.does c.in_default.not-Complete),
          refl,
        ),
        refl,
      );
      kept = begun_lawful c.args.by c.args.t.now c.args.self.now c.begin.new.self c.begin.result row c.in_default.not-Complete
          (subst (λ n. IsPhaseOf n (place_in c.args.by.house c.args.self.now.members) c.begin.new.self) c.count-count.ensures.count
          (subst (λ n. IsPhaseOf c.count-count.result n c.begin.new.self) c.own_place-me.ensures.place c.begin.ensures.phase));
      step = begun_step c.args.by c.args.t.now c.args.self.now c.begin.new.self c.begin.result row c.in_default.not-Complete;
    }
