use Rattle.std.proofs.Common.{length}
use Rattle.house_lines.proofs.ListingLemmas.{IsReading}
use Rattle.house_lines.proofs.listing.members.Given as goal

abbrev pub invariant-loop-word : goal.invariant-loop-word
invariant-loop-word l = IsReading l.fn.first l.fn.words l.members l.words

abbrev pub decreases-loop-word : goal.decreases-loop-word
decreases-loop-word l = length l.words.rest
