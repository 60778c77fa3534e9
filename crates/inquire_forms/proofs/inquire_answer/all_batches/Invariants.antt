use Rattle.std.proofs.Common.{◌≡◌, map}
use Rattle.inquire_forms.proofs.InquireBatches.{Given, left_over}
use Rattle.inquire_forms.proofs.inquire_answer.all_batches.Given as goal

-- the batches that came are the first ones, and the others are those of what is left
abbrev pub invariant-batches : goal.invariant-batches
invariant-batches g l = record {
  came : Given l.initial.lookup.most l.initial.lookup.left l.lookup.left (map (λ batch. batch.items) l.list.items);
  most : l.lookup.most ≡ l.initial.lookup.most;
}

abbrev pub decreases-batches : goal.decreases-batches
decreases-batches g l = left_over l.lookup.left
