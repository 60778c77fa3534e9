use Rattle.std.proofs.Common.{◌≡◌, ℕ, ◌+◌, ◌<◌, ◌≤◌, get_or}
use Rattle.cds_base.proofs.buffer.copy_to_front.Given as goal

-- the octets below i are copied, and the others stand as they did
abbrev pub invariant-loop-i : goal.invariant-loop-i
invariant-loop-i l = record {
  copied : (k : ℕ) → k < l.i → get_or l.octets k 0 ≡ get_or l.fn.octets (l.start + k) 0;
  others : (k : ℕ) → l.i ≤ k → get_or l.octets k 0 ≡ get_or l.fn.octets k 0;
}
