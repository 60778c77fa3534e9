use Rattle.std.proofs.Common.{length}
use Rattle.house_segments.proofs.ReadLemmas.{IsReading}
use Rattle.house_segments.proofs.reading.last_record.Given as goal

abbrev pub invariant-records : goal.invariant-records
invariant-records l = IsReading l.title l.octets l.rest l.last.body.now l.last.digest

abbrev pub decreases-records : goal.decreases-records
decreases-records l = length l.rest
