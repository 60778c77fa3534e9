use Rattle.cds_base.proofs.KnownOctets.{grows_more}
use Rattle.cds_base.proofs.buffer.Buffer.fill.Goals as goal

pub returns-in-Err-clause-reads : goal.returns-in-Err-clause-reads
returns-in-Err-clause-reads g c = grows_more _ _ _ _ _ _ c.reads.invariant.reads c.in-Err.ensures.reads
