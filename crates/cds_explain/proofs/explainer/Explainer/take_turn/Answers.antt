use Rattle.cell_model.specs.Steps.{replay}
use Rattle.cds_explain.proofs.AddingLemmas.{fault_passed, ready_timed, stops_after, stops_here, timed_entry, timed_goes}
use Rattle.cds_explain.proofs.explainer.Explainer.take_turn.Goals as goal

pub returns-in_err-set_clock-clause-stopped : goal.returns-in_err-set_clock-clause-stopped
returns-in_err-set_clock-clause-stopped c = λ cs has clock.
    fault_passed c.from_residual.result _ c.from_residual.ensures
    (λ f kept. stops_here cs c.args.self.now.replay c.set_clock.new.self.replay has kept) c.in_err-set_clock.ensures.kept

pub returns-in_err-turn-clause-stopped : goal.returns-in_err-turn-clause-stopped
returns-in_err-turn-clause-stopped c = λ cs has clock.
    let x = c.args.log.now.house.0 in
    let time = c.args.turn.now.clock in
    let mid = c.set_clock.new.self.replay in
    let goes = timed_goes cs x time mid (c.in_ok-set_clock.ensures.timed cs has clock) in
    fault_passed c.from_residual-in_err-turn.result _ c.from_residual-in_err-turn.ensures
    (λ f kept. stops_after cs x time mid c.turn.new.self goes kept) c.in_err-turn.ensures.kept

pub returns-clause-taken : goal.returns-clause-taken
returns-clause-taken c = λ cs has clock.
    let x = c.args.log.now.house.0 in
    let time = c.args.turn.now.clock in
    let mid = c.set_clock.new.self.replay in
    let timed = c.in_ok-set_clock.ensures.timed cs has clock in
    let goes = timed_goes cs x time mid timed in
    let ready = ready_timed cs x time c.args.turn.now.order _ mid (c.in-Ok.ensures (replay cs) has.stands) timed in
    timed_entry cs x time _ _ mid c.turn.new.self goes c.in_ok-set_clock.ensures.clock
    (c.in_ok-turn.ensures.done goes.new goes.has_done ready goes.adds.clock)
