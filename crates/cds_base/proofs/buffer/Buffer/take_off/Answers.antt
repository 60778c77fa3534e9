use Rattle.cds_base.proofs.Buffers.{between_behind}
use Rattle.cds_base.proofs.buffer.Buffer.take_off.Goals as goal

pub returns-clause-octets : goal.returns-clause-octets
returns-clause-octets c = let s = c.args.self.now in between_behind s.octets.items s.start s.end c.args.n
