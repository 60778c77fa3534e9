use Rattle.std.proofs.Common.{◌*◌, arith}
use Rattle.std.proofs.lemmas.Result.{err_from_is_err_and}
use Rattle.cell_replay.proofs.WholeReads.{stops_after}
use Rattle.cell_replay.proofs.whole.read_whole.Goals as goal

pub returns-in_err-read_part-clause-err : goal.returns-in_err-read_part-clause-err
returns-in_err-read_part-clause-err g c =
    let p = err_from_is_err_and c.from_residual-in_err-read_part.result c.from_residual-in_err-read_part.ensures.1 in
    let before = c.loop.invariant in
    rw (p.1, p.2) (stops_after (24929 * c.loop.counter) c.loop.window.room 16777217 _ _ _ _ _ _ _ _ c.in_err-read_part.field-0.0 before.part before.calm
    (omega (arith, before.room, c.loop-test.true)) c.in_err-read_part.ensures.err)
