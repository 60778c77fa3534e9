use Rattle.std.proofs.Common.{◌≡◌, true}
use Rattle.resolver.specs.ChangingReaders.{ComesTo}
use Rattle.resolver.specs.PassWords.{walker_of, steps_ahead}
use Rattle.clerk_cache.specs.Clerks.{clerk_reader}
use Rattle.clerk_cache.proofs.clerk.Clerk.walk_on.Given as goal

-- so far the walk came here, and the clerk is as its answers left it
abbrev pub invariant-steps : goal.invariant-steps
invariant-steps g l = record {
  comes : ComesTo (clerk_reader l.now (g.R.EntryReader.tells l.reader)) true l.initial.self (walker_of l.initial.walk) l.self (walker_of l.walk);
  root : l.walk.root ≡ l.initial.walk.root;
  last : l.walk.follow_last ≡ true;
}

abbrev pub decreases-steps : goal.decreases-steps
decreases-steps g l = steps_ahead l.walk
