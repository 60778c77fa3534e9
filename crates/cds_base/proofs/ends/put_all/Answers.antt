use Rattle.std.proofs.Common.{arith, length-drop}
use Rattle.std.proofs.lemmas.List.{take_rest}
use Rattle.cds_base.proofs.KnownOctets.{appends_part}
use Rattle.cds_base.proofs.ends.put_all.Goals as goal

pub loop-sent-preserved : goal.loop-sent-preserved
loop-sent-preserved g c =
    let part = rw take_rest at c.in-Ok.ensures.bytes in
    let bound = rw take_rest at c.in-Ok.ensures.bound in record {
      within = omega (arith, bound, length-drop c.loop-sent.sent c.args.piece.now);
      sent = appends_part _ _ _ c.args.piece.now c.loop-sent.sent c.in-Ok.n c.loop-sent.invariant.sent part;
      same = omega (arith, c.in-Ok.ensures.cause.answered, c.loop-sent.invariant.same);
    }
