use Rattle.std.proofs.Common.{sym, ap, subst}
use Rattle.std.specs.Prelude.{IfOk, OnOk}
use Rattle.std.specs.FinMap as map
use Rattle.std.proofs.lemmas.Result.{on_err_weaker}
use Rattle.cds_stamps.specs.declared.stamp.Floor.{Floor}
use Rattle.directory.specs.Updates.{change_of}
use Rattle.cell_model.specs.Turns.{accept_in}
use Rattle.cell_model.specs.Cells as model
use Rattle.house_directory.specs.LawfulDirectories.{IsLawfulHeld}
use Rattle.house_directory.specs.declared.states.DirState.TheVariants as state
use Rattle.house_directory.specs.DirectoryUpdates.{HeldTakes}
use Rattle.house_directory.specs.DirectoryTurns.{HeldStep, IssuesAt}
use Rattle.house_directory.specs.DirectorySteps.{IsStampAnswer}
use Rattle.house_directory.specs.declared.updates.Issuer.{Issuer}
use Rattle.clearinghouse.proofs.Houses.{at_held, have_held, kept_at, kept_by, same_house}
use Rattle.house_directory.proofs.Maps.{if_ok_map}
use Rattle.clearinghouse.proofs.house.Clearinghouse.accept_at.Goals as goal

pub returns-in-Some-clause-kept : goal.returns-in-Some-clause-kept
returns-in-Some-clause-kept c =
    let kept = subst (λ (b : Issuer). OnOk c.accept.result (IsLawfulHeld b.house.0 c.args.self.now.floor.time c.in-Some.held.now
    → IsLawfulHeld b.house.0 c.accept.new.floor.time c.accept.new.self)) c.issuer-by.ensures c.accept.ensures.kept in
    kept_at c.args.self.now c.args.dir c.in-Some.held.now c.accept.new.self c.accept.new.floor c.in-Some.ensures.value c.accept.ensures.rises
    (kept_by c.accept.result _ _ _ _ _ kept c.accept.ensures.err
    (on_err_weaker c.accept.result (λ e. ap (λ (f : Floor). f.time) e) c.accept.ensures.err_floor))

pub returns-in-Some-clause-refused : goal.returns-in-Some-clause-refused
returns-in-Some-clause-refused c =
    if_ok_map _ _ c.accept.result
    (λ turn refused. on_err_weaker turn.answer
    (λ same. (
      same_house c.args.self.now c.args.dir c.in-Some.held.now c.accept.new.self c.accept.new.floor
          c.in-Some.ensures.value same.0 same.1,
      same.2,
    )) refused)
    c.accept.ensures.refused

pub returns-in-Some-clause-step : goal.returns-in-Some-clause-step
returns-in-Some-clause-step c = λ now stands ticks.
    let who = c.issuer-by.ensures in
    at_held (λ turn. IsStampAnswer turn.answer) (λ turn. turn.outgoing) (accept_in c.args.self.now.house.0 now c.args.dir.0 (change_of c.args.update.now))
    c.args.self.now now c.args.dir c.in-Some.held.now c.accept.new.self c.accept.new.floor c.accept.result c.in-Some.ensures.value c.accept.ensures.rises stands
    (λ q here holds.
    let at : IssuesAt now c.issuer-by.result c.args.self.now.floor.time c.args.dir c.in-Some.held.now q =
    subst (λ (b : Issuer). IssuesAt now b c.args.self.now.floor.time c.args.dir c.in-Some.held.now q) (sym who)
    (record { node = stands.node; clock = ticks; floor = stands.floor; here = here; stands = holds }) in
    subst (λ (b : Issuer). IfOk c.accept.result (λ x. HeldStep (IsStampAnswer x.answer)
    (accept_in b.house.0 now c.args.dir.0 (change_of c.args.update.now) (model.Held q)) now b.house c.args.dir c.in-Some.held.now c.accept.new.self
    c.accept.new.floor.time x.outgoing)) who
    (c.accept.ensures.step now c.args.dir q at))

pub returns-in-Some-clause-takes : goal.returns-in-Some-clause-takes
returns-in-Some-clause-takes c =
    if_ok_map _ _ c.accept.result
    (λ turn takes. if_ok_map _ _ turn.answer
    (λ s took. record {
      before = c.in-Some.held.now;
      holds = have_held (map.get c.args.self.now.dirs c.args.dir) c.in-Some.held.now c.in-Some.ensures.value;
      held = c.accept.new.self;
      takes = subst (λ (b : Issuer). HeldTakes b.house (change_of c.args.update.now) s c.in-Some.held.now c.accept.new.self turn.outgoing)
          c.issuer-by.ensures took.0;
      after = ap (λ t. record c.args.self.now {
        floor = record { time = t };
        dirs = map.insert c.args.self.now.dirs c.args.dir (state.Held c.accept.new.self);
      }) took.1;
    }) takes)
    c.accept.ensures.takes
