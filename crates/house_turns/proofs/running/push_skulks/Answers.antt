use Rattle.std.proofs.Common.{arith}
use Rattle.house_turns.proofs.SkulkWords.{fit_next, lines_next}
use Rattle.house_turns.proofs.running.push_skulks.Goals as goal

pub loop-skulk-preserved : goal.loop-skulk-preserved
loop-skulk-preserved c = (
  lines_next c.args.skulks.now c.loop-skulk.skulk-index c.skulk-item.result c.args.text.now.items c.loop-skulk.text.items c.push_line.new.text.items
      c.push.new.self.items (omega (arith, c.loop-skulk-test.true)) c.skulk-item.is c.loop-skulk.invariant.0 c.in_ok-push_line.ensures.line
      c.in_ok-push.ensures.items,
  fit_next c.args.skulks.now c.loop-skulk.skulk-index c.skulk-item.result (omega (arith, c.loop-skulk-test.true)) c.skulk-item.is
      c.loop-skulk.invariant.1 c.in_ok-push_line.ensures.fits,
)
