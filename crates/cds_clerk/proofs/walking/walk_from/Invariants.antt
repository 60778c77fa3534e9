use Rattle.std.proofs.Common.{◌≡◌}
use Rattle.resolver.specs.declared.walk.End.{End}
use Rattle.resolver.specs.Readers.{Reader}
use Rattle.resolver.specs.Walks.{EndsFrom}
use Rattle.resolver.specs.PassWords.{walker_of, steps_ahead}
use Rattle.cds_clerk.specs.Agreements.{Agrees}
use Rattle.cds_clerk.proofs.walking.walk_from.Given as goal

-- the walk ends from here on as it does from its beginning
abbrev pub invariant-steps : goal.invariant-steps
invariant-steps l = record {
  ends : (r : Reader) → Agrees r l.heard → (e : End) → EndsFrom r l.initial.walk.follow_last (walker_of l.walk) e
      → EndsFrom r l.initial.walk.follow_last (walker_of l.initial.walk) e;
  root : l.walk.root ≡ l.initial.walk.root;
  last : l.walk.follow_last ≡ l.initial.walk.follow_last;
}

abbrev pub decreases-steps : goal.decreases-steps
decreases-steps l = steps_ahead l.walk
