use Rattle.std.proofs.Common.{◌≡◌, ◌∙◌, ◌+◌, List, ℕ, take, drop, ap, arith}
use Rattle.std.specs.Int.{w64, from_be_bytes}
use Rattle.house_journal.proofs.Readings.{head_opens, reads_over}
use Rattle.house_journal.proofs.list_end.open_len.Goals as goal

pub returns-then-len-size-clause-len : goal.returns-then-len-size-clause-len
returns-then-len-size-clause-len g c =
    let file = g.D.Disk.reads c.args.disk.now in
    let says : c.from_be_bytes-len.result ≡ from_be_bytes w64 c.read_at-2.new.buf = c.from_be_bytes-len.ensures in
    let it = head_opens file c.args.at c.read_at.new.buf c.read_at-2.new.buf c.in_ok-read_at.ensures.octets
    (c.in_ok-read_at-2.ensures.octets ∙ ap (λ (l : List ℕ). take 8 (drop (c.args.at + 1) l)) c.read_at.ensures.quiet.same)
    (omega (arith, c.if-size-at-lt10.false, c.requires.size)) c.if-gate-eq1.true (omega (arith, says, c.if-len-size.true, c.requires.size)) in
    (it.0, says ∙ it.1, omega (arith, says, it.2, c.requires.size))

pub returns-then-len-size-clause-quiet : goal.returns-then-len-size-clause-quiet
returns-then-len-size-clause-quiet g c =
    reads_over g.D.Disk g.met.D.Disk.counts_now c.args.disk.now c.read_at.new.self c.read_at-2.new.self c.read_at.ensures.quiet c.read_at-2.ensures.quiet

pub returns-else-gate-eq1-clause-quiet : goal.returns-else-gate-eq1-clause-quiet
returns-else-gate-eq1-clause-quiet g c =
    reads_over g.D.Disk g.met.D.Disk.counts_now c.args.disk.now c.read_at.new.self c.read_at-2.new.self c.read_at.ensures.quiet c.read_at-2.ensures.quiet
