use Rattle.std.proofs.Common.{ℕ, ◌≤◌, take, reverse, length}
use Rattle.house_journal.specs.Unwindings.{AreFrom}
use Rattle.house_journal.proofs.restart.first_changed.Given as goal

abbrev pub invariant-back : goal.invariant-back
invariant-back l = record {
  within : l.left ≤ length l.steps;
  few : l.low ≤ l.len;
  least : (n : ℕ) → n ≤ l.low → AreFrom n (reverse (take l.left l.steps)) → AreFrom n (reverse l.steps);
}

abbrev pub decreases-back : goal.decreases-back
decreases-back l = l.left
