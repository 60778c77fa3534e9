use Rattle.std.proofs.Common.{arith}
use Rattle.house_journal.proofs.Endings.{got_one, got_none}
use Rattle.house_journal.proofs.close.gate_at.Goals as goal

pub returns-then-place-size-clause-gate : goal.returns-then-place-size-clause-gate
returns-then-place-size-clause-gate g c =
    got_one c.args.place (g.D.Disk.reads c.args.disk.now) c.read_at.new.buf (omega (arith, c.if-place-size.true, c.requires)) c.in_ok-read_at.ensures.octets

pub returns-clause-gate : goal.returns-clause-gate
returns-clause-gate g c = got_none c.args.place (g.D.Disk.reads c.args.disk.now) (omega (arith, c.if-place-size.false, c.requires))
