use Rattle.std.proofs.Common.{List, ℕ, ap, drop, subst, sym, ◌∙◌}
use Rattle.cell_script.specs.WordForms.{Words}
use Rattle.house_logs.specs.TurnTexts.{AreWordsOf}
use Rattle.house_logs.proofs.TextLemmas.{behind_first}
use Rattle.house_logs.proofs.text.said_post.Goals as goal

pub returns-in-Err-Fault : goal.returns-in-Err-Fault
returns-in-Err-Fault c = λ p is.
    (rw c.in-Err-Fault.field-0-is at c.in-Err-Fault.ensures.none) p
    (subst (λ (ws : List (List ℕ)). AreWordsOf ws p)
    (ap (λ (s : Words). drop 1 s.rest) (sym c.of-words.ensures)
    ∙ behind_first _ _ c.next-word.result c.next-word.ensures.some c.next-word.ensures.none c.next-word.ensures.same) is)
