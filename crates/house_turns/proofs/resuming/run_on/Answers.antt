use Rattle.std.proofs.Common.{arith}
use Rattle.clearinghouse.specs.HouseImages.{with_skulks}
use Rattle.house_turns.proofs.SkulkWords.{run_next}
use Rattle.house_turns.proofs.resuming.run_on.Goals as goal

pub loop-skulk-preserved : goal.loop-skulk-preserved
loop-skulk-preserved c =
    run_next c.args.skulks.now c.loop-skulk.skulk-index c.skulk-item.result (with_skulks c.args.skulks.now c.args.home.now) c.loop-skulk.home c.run_on.new.self
    (omega (arith, c.loop-skulk-test.true)) c.skulk-item.is c.loop-skulk.invariant c.run_on.ensures
