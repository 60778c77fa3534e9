-- What a cell answers to an inquiry is what the model's does.
use Rattle.std.proofs.Common.{◌≡◌, ◌∙◌, ap, sym, ℕ, Bool, true, if◌then◌else◌}
use Rattle.std.specs.Prelude.{Some, Result, IfOk}
use Rattle.std.specs.declared.alloc.AllocError.{AllocError}
use Rattle.std.proofs.lemmas.Result.{IfOk-weaker}
use Rattle.cell_model.specs.Cells as model
use Rattle.cell_model.specs.Sets.{has}
use Rattle.cds_cell.specs.declared.cell.Cell.{Cell}
use Rattle.cds_cell.specs.Readings.{cell_reader}
use Rattle.cds_cell.specs.Telling.{program_reader}
use Rattle.resolver.specs.Readers.{Reader}
use Rattle.inquire_forms.specs.declared.inquire_answer.InquireAnswer.{InquireAnswer}
use Rattle.inquire_forms.specs.Inquired.{Inquired, inquired_answer}
use Rattle.inquire_replay.specs.Inquiring.{asked_at, no_house}

-- where the house is there, what is listed by the cell is listed by the model's
pub listed_there : (c : Cell) (g : model.Cell) (h : ℕ) (high : Bool) (list : Reader → Inquired) (r : Result InquireAnswer AllocError)
    → program_reader c (Some h) high ≡ cell_reader g (Some h) high → has h g.made ≡ true → IfOk r (λ a. inquired_answer a ≡ list (program_reader c (Some h) high))
    → IfOk r (λ a. inquired_answer a ≡ asked_at g h (list (cell_reader g (Some h) high)))
listed_there c g h high list r same made is =
    IfOk-weaker r (λ a. inquired_answer a ≡ list (program_reader c (Some h) high)) (λ a. inquired_answer a ≡ asked_at g h (list (cell_reader g (Some h) high)))
    (λ a e. e ∙ (ap list same ∙ ap (λ (b : Bool). if b then list (cell_reader g (Some h) high) else no_house) (sym made))) is
