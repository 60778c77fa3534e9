use Rattle.std.proofs.Common.{◌≡◌, map, take}
use Rattle.cds_clerk.proofs.reaching.dirs_of.Given as goal

abbrev pub invariant-loop-number : goal.invariant-loop-number
invariant-loop-number l = map (λ d. d.0) l.dirs.items ≡ take l.number-index l.numbers
