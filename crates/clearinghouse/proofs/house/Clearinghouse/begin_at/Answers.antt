use Rattle.std.proofs.Common.{ap, sym, subst}
use Rattle.std.specs.FinMap as map
use Rattle.std.proofs.lemmas.Result.{on_err_weaker}
use Rattle.cell_model.specs.Cells as model
use Rattle.cell_model.specs.Turns.{skulk_in}
use Rattle.house_directory.specs.LawfulDirectories.{IsLawfulHeld}
use Rattle.house_directory.specs.DirectoryTurns.{HeldStep, IssuesAt}
use Rattle.house_directory.specs.DirectorySteps.{IsBegunAnswer}
use Rattle.house_directory.specs.declared.updates.Issuer.{Issuer}
use Rattle.house_directory.specs.declared.states.DirState.TheVariants as state
use Rattle.house_directory.specs.DirectoryUpdates.{HeldBegins}
use Rattle.house_directory.proofs.Maps.{if_ok_map}
use Rattle.clearinghouse.proofs.Houses.{at_held_always, have_held, kept_at, same_house}
use Rattle.clearinghouse.proofs.house.Clearinghouse.begin_at.Goals as goal

pub returns-in-Some-clause-kept : goal.returns-in-Some-clause-kept
returns-in-Some-clause-kept c =
    kept_at c.args.self.now c.args.dir c.in-Some.held.now c.begin_skulk.new.self c.begin_skulk.new.floor c.in-Some.ensures.value c.begin_skulk.ensures.rises
    (subst (λ (b : Issuer). IsLawfulHeld b.house.0 c.args.self.now.floor.time c.in-Some.held.now
    → IsLawfulHeld b.house.0 c.begin_skulk.new.floor.time c.begin_skulk.new.self) c.issuer-by.ensures c.begin_skulk.ensures.kept)

pub returns-in-Some-clause-refused : goal.returns-in-Some-clause-refused
returns-in-Some-clause-refused c =
    on_err_weaker c.begin_skulk.result.answer
    (λ same. (
      same_house c.args.self.now c.args.dir c.in-Some.held.now c.begin_skulk.new.self c.begin_skulk.new.floor
          c.in-Some.ensures.value same.0 same.1,
      same.2,
    ))
    c.begin_skulk.ensures.refused

pub returns-in-Some-clause-step : goal.returns-in-Some-clause-step
returns-in-Some-clause-step c = λ now stands ticks.
    let who = c.issuer-by.ensures in
    at_held_always (IsBegunAnswer c.begin_skulk.result.answer) c.begin_skulk.result.outgoing (skulk_in c.args.self.now.house.0 now c.args.dir.0)
    c.args.self.now now c.args.dir c.in-Some.held.now c.begin_skulk.new.self c.begin_skulk.new.floor c.in-Some.ensures.value c.begin_skulk.ensures.rises stands
    (λ q here holds.
    let at : IssuesAt now c.issuer-by.result c.args.self.now.floor.time c.args.dir c.in-Some.held.now q =
    subst (λ (b : Issuer). IssuesAt now b c.args.self.now.floor.time c.args.dir c.in-Some.held.now q) (sym who)
    (record { node = stands.node; clock = ticks; floor = stands.floor; here = here; stands = holds }) in
    subst (λ (b : Issuer). HeldStep (IsBegunAnswer c.begin_skulk.result.answer) (skulk_in b.house.0 now c.args.dir.0 (model.Held q)) now b.house c.args.dir
    c.in-Some.held.now c.begin_skulk.new.self c.begin_skulk.new.floor.time c.begin_skulk.result.outgoing) who
    (c.begin_skulk.ensures.step now c.args.dir q at))

pub returns-in-Some-clause-begins : goal.returns-in-Some-clause-begins
returns-in-Some-clause-begins c =
    if_ok_map _ _ c.begin_skulk.result.answer
    (λ b z. record {
      before = c.in-Some.held.now;
      holds = have_held (map.get c.args.self.now.dirs c.args.dir) c.in-Some.held.now c.in-Some.ensures.value;
      held = c.begin_skulk.new.self;
      begins = subst (λ (i : Issuer). HeldBegins i.house b c.in-Some.held.now c.begin_skulk.new.self) c.issuer-by.ensures z.0;
      after = ap (λ t. record c.args.self.now {
        floor = record { time = t };
        dirs = map.insert c.args.self.now.dirs c.args.dir (state.Held c.begin_skulk.new.self);
      }) z.1;
    })
    c.begin_skulk.ensures.begins
