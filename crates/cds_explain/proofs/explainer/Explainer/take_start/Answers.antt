use Rattle.cds_explain.proofs.AddingLemmas.{clock_of_crash, crash_timed, fault_passed, stops_after, stops_crashed, timed_entry}
use Rattle.cds_explain.proofs.explainer.Explainer.take_start.Goals as goal

pub returns-in_err-set_clock-clause-stopped : goal.returns-in_err-set_clock-clause-stopped
returns-in_err-set_clock-clause-stopped c = λ cs has clock.
    let x = c.args.log.now.house.0 in
    let crash = c.in_ok-crash.ensures.done cs has in
    fault_passed c.from_residual-in_err-set_clock.result _ c.from_residual-in_err-set_clock.ensures
    (λ f kept. stops_crashed cs x c.crash.new.self c.set_clock.new.self.replay crash kept) c.in_err-set_clock.ensures.kept

pub returns-in_err-start-clause-stopped : goal.returns-in_err-start-clause-stopped
returns-in_err-start-clause-stopped c = λ cs has clock.
    let x = c.args.log.now.house.0 in
    let crash = c.in_ok-crash.ensures.done cs has in
    let timed = c.in_ok-set_clock.ensures.timed _ crash.has_done (clock_of_crash cs x _ clock) in
    let goes = crash_timed cs x 0 c.crash.new.self c.set_clock.new.self.replay crash timed in
    fault_passed c.from_residual-in_err-start.result _ c.from_residual-in_err-start.ensures
    (λ f kept. stops_after cs x 0 c.set_clock.new.self.replay c.start.new.self goes kept) c.in_err-start.ensures.kept

pub returns-clause-taken : goal.returns-clause-taken
returns-clause-taken c = λ cs has clock.
    let x = c.args.log.now.house.0 in
    let crash = c.in_ok-crash.ensures.done cs has in
    let timed = c.in_ok-set_clock.ensures.timed _ crash.has_done (clock_of_crash cs x _ clock) in
    let goes = crash_timed cs x 0 c.crash.new.self c.set_clock.new.self.replay crash timed in
    timed_entry cs x 0 _ _ c.set_clock.new.self.replay c.start.new.self goes c.in_ok-set_clock.ensures.clock
    (c.in_ok-start.ensures.done goes.new goes.has_done)
