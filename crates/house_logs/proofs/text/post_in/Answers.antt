use Rattle.std.proofs.Common.{List, ℕ, drop, subst, sym}
use Rattle.cell_script.specs.Words.{words_of}
use Rattle.house_logs.specs.TurnTexts.{AreWordsOf}
use Rattle.house_logs.proofs.text.post_in.Goals as goal

pub returns-in_default-clause-none : goal.returns-in_default-clause-none
returns-in_default-clause-none c = λ p is same.
    (rw c.in_default.is at c.in_ok-post.ensures) p (subst (λ (l : List ℕ). AreWordsOf (drop 1 (words_of l)) p) (sym same) is.words)
