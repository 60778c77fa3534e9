use Rattle.std.proofs.Common.{◌<◌, ℕ, List, length, take, ap, sym, ◌∙◌, subst, arith}
use Rattle.cell_script.proofs.Splitting.{first_word}
use Rattle.cell_script.proofs.words.Words.next.Goals as goal

pub returns-clause-some : goal.returns-clause-some
returns-clause-some c =
    let front = c.split_at.ensures.front in
    let some : 0 < length (take c.word_len-len.result c.skip_spaces-rest.result.now) =
    let size = c.split_at.ensures.front_len in let none = c.if-len-eq0.false in subst (λ (w : List ℕ). 0 < length w) front (grind arith) in
    let split = first_word c.skip_spaces-rest.result.now c.word_len-len.result c.word_len-len.ensures.len some in
    rw (front, c.split_at.ensures.back) (ap (λ s. s.rest) (sym c.self.view_is) ∙ sym c.skip_spaces-rest.ensures.words ∙ split)
