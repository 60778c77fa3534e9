use Rattle.std.proofs.Common.{◌≡◌, ◌++◌, map, take}
use Rattle.std.specs.List.{flat_map}
use Rattle.inquire_forms.specs.InquireTexts.{batch_lines, lines_after}
use Rattle.inquire_forms.proofs.inquire_text.push_batches.Given as goal

abbrev pub invariant-loop-batch : goal.invariant-loop-batch
invariant-loop-batch l =
    l.text.items ≡ l.fn.text.items ++ lines_after l.front (flat_map batch_lines (map (λ batch. batch.items) (take l.batch-index l.batches)))
