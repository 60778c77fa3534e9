use Rattle.std.proofs.Common.{length}
use Rattle.house_program.proofs.ReadLemmas.{IsRedoing}
use Rattle.house_program.proofs.reading.redo_all.Given as goal

abbrev pub invariant-records : goal.invariant-records
invariant-records l = IsRedoing l.octets l.rest l.fn.house l.house

abbrev pub decreases-records : goal.decreases-records
decreases-records l = length l.rest
