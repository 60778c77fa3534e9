use Rattle.cds_base.proofs.KnownOctets.{grows_more}
use Rattle.cds_base.proofs.LineAnswers.{has_fault, fault_cause, no_read_fault}
use Rattle.cds_base.proofs.lines.Lines.find_line.Goals as goal

pub returns-in-Fault-clause-found : goal.returns-in-Fault-clause-found
returns-in-Fault-clause-found g c = has_fault _ _ _ _ (rw c.reads.invariant.lines at c.in-Fault.ensures)

pub returns-in-Fault-clause-cause : goal.returns-in-Fault-clause-cause
returns-in-Fault-clause-cause g c = fault_cause _ _ _ _ _ (rw c.reads.invariant.lines at c.in-Fault.ensures) c.reads.invariant.faults

pub returns-in-Fault-clause-ready : goal.returns-in-Fault-clause-ready
returns-in-Fault-clause-ready g c ready = ((c.reads.invariant.untouched ready).0, no_read_fault _ _ _ (rw c.reads.invariant.lines at c.in-Fault.ensures))

pub returns-in-Err-clause-reads : goal.returns-in-Err-clause-reads
returns-in-Err-clause-reads g c = grows_more _ _ _ _ _ _ c.reads.invariant.reads c.in-Err.ensures.reads
