use Rattle.std.proofs.Common.{◌≡◌, map, take}
use Rattle.inquire_forms.specs.InquireTexts.{total}
use Rattle.inquire_forms.proofs.inquire_text.total.Given as goal

abbrev pub invariant-loop-batch : goal.invariant-loop-batch
invariant-loop-batch l = l.count ≡ total (map (λ batch. batch.items) (take l.batch-index l.batches))
