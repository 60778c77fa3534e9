use Rattle.std.proofs.Common.{◌≡◌, ◌+◌, ◌≤◌, List, ℕ, length}
use Rattle.house_logs.specs.Reads.{HasRead}
use Rattle.house_logs.proofs.SegmentLemmas.{HasChained}
use Rattle.house_logs.proofs.reader.LogReader.read_chain.Given as goal

abbrev pub invariant-records : goal.invariant-records
invariant-records l = record {
  digest : l.self.digest ≡ l.fn.self.digest;
  segments : l.self.segments ≡ l.fn.self.segments;
  read : (bodies : List (List ℕ)) → HasRead l.fn.self bodies → HasChained l.fn.before l.octets l.rest l.digest bodies l.place l.self;
  few : l.place + length l.rest ≤ length l.octets + 2;
}

abbrev pub decreases-records : goal.decreases-records
decreases-records l = length l.rest
