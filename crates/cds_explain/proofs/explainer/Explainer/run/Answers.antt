use Rattle.std.proofs.Common.{◌≡◌, sym, subst}
use Rattle.cell_model.specs.Sets.{In}
use Rattle.cds_explain.specs.PrivateExplainers.{MakesOnly}
use Rattle.cds_explain.proofs.AddingLemmas.{both_faults, fault_passed}
use Rattle.cds_explain.proofs.MakingLemmas.{begun_explained, makes_up_to}
use Rattle.cds_explain.proofs.explainer.Explainer.run.Goals as goal

pub returns-in_err-make_houses-clause-stopped : goal.returns-in_err-make_houses-clause-stopped
returns-in_err-make_houses-clause-stopped c =
    let text = c.make_houses.new.replay.text.items in
    let now = c.in_err-make_houses.ensures in
    fault_passed c.from_residual-in_err-make_houses.result _ c.from_residual-in_err-make_houses.ensures
    (λ reason q. makes_up_to text c.args.logs.now reason q.0 q.1)
    (both_faults (λ reason. MakesOnly text) (λ reason. reason.entry ≡ 1) _ now.stopped now.entry)

pub returns-in_err-make_others-clause-stopped : goal.returns-in_err-make_others-clause-stopped
returns-in_err-make_others-clause-stopped c =
    let text = c.make_others.new.replay.text.items in
    let now = c.in_err-make_others.ensures in
    fault_passed c.from_residual-in_err-make_others.result _ c.from_residual-in_err-make_others.ensures
    (λ reason q. makes_up_to text c.args.logs.now reason q.0 q.1)
    (both_faults (λ reason. MakesOnly text) (λ reason. reason.entry ≡ 1) _ (now.stopped _ c.in_ok-make_houses.ensures.done) now.entry)

pub go_rounds-requires-clause-explained : goal.go_rounds-requires-clause-explained
go_rounds-requires-clause-explained c =
    begun_explained _ c.args.logs.now _
    (record {
      made = c.in_ok-make_others.ensures.done _ c.in_ok-make_houses.ensures.done;
      done = c.requires.done;
      clocks = c.requires.clocks;
      count = c.requires.count;
      clock_count = c.requires.clock_count;
    })
    (λ i lt. subst (In i) (sym c.deref.ensures.value) (c.in_ok-order.ensures i lt))

pub go_rounds-requires-clause-each : goal.go_rounds-requires-clause-each
go_rounds-requires-clause-each c = λ i lt. subst (In i) (sym c.deref-2.ensures.value) (c.in_ok-order.ensures i lt)
