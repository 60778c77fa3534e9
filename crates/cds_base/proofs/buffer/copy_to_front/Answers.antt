use Rattle.std.proofs.Common.{◌≡◌, ◌<◌, ℕ, ◌+◌, get_or, arith}
use Rattle.cds_base.proofs.Buffers.{copied}
use Rattle.cds_base.proofs.buffer.copy_to_front.Goals as goal

pub returns : goal.returns
returns c =
    let each : (k : ℕ) → k < c.args.len → get_or c.loop-i.octets k 0 ≡ get_or c.args.octets.now
    (c.args.start + k) 0 = λ k lt. c.loop-i.invariant.copied k (omega arith) in
    copied c.args.octets.now c.loop-i.octets c.args.start c.args.len (omega arith) (omega arith) each
