use Rattle.std.proofs.Common.{arith}
use Rattle.cell_script.proofs.Splitting.{begun_at_end}
use Rattle.cell_script.proofs.words.word_count.Goals as goal

pub returns-clause-counted : goal.returns-clause-counted
returns-clause-counted c =
    let last = c.words_begun-begun-2 in
    let all = begun_at_end c.strides.rest.now last.result.0 c.strides.count _ c.strides.in_word last.result.1 last.ensures.begun c.strides.invariant.counted in
    omega (arith, all, c.from.ensures)
