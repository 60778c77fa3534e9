use Rattle.std.proofs.Common.{sym, ◌∙◌}
use Rattle.std.proofs.lemmas.Bool.Decides.{Decides-like}
use Rattle.std.proofs.lemmas.Slice.Eq.{slice_eq-Decides}
use Rattle.entry_lines.proofs.SameLists.{listed_is}
use Rattle.entry_lines.proofs.meaning.are_same.Goals as goal

pub returns : goal.returns
returns c =
    Decides-like c.eq.result (λ same. sym c.list.ensures ∙ same ∙ c.list-2.ensures) (λ same. c.list.ensures ∙ same ∙ sym c.list-2.ensures)
    (slice_eq-Decides listed_is _ _ _ c.eq.ensures)
