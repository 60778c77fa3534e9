use Rattle.std.proofs.Common.{arith}
use Rattle.inquire_forms.proofs.InquireTexts.{total_more}
use Rattle.inquire_forms.proofs.inquire_text.total.Goals as goal

pub loop-batch-preserved : goal.loop-batch-preserved
loop-batch-preserved c =
    let more = total_more (λ batch. batch.items) c.args.batches.now c.loop-batch.batch-index c.batch-item.result c.loop-batch-test.true c.batch-item.is in
    omega (arith, more, c.loop-batch.invariant, c.in-Some.ensures.1, c.len.ensures)
