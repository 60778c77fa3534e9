-- Words of private contracts: what an inquiry is answered, and the reply to a line beside the cell
-- after it.
use Rattle.std.specs.Prelude.{◌≡◌, Some}
use Rattle.cell_model.specs.Cells as model
use Rattle.cds_cell.specs.declared.cell.Cell.{Cell}
use Rattle.cds_cell.specs.ModelCells.{Stands}
use Rattle.cds_cell.specs.Readings.{cell_reader}
use Rattle.resolver.specs.Readers.{Reader}
use Rattle.inquire_forms.specs.declared.inquire_answer.InquireAnswer.{InquireAnswer}
use Rattle.inquire_forms.specs.declared.inquire_line.InquireLine.{InquireLine}
use Rattle.inquire_forms.specs.Inquired.{Inquired, inquired_answer}
use Rattle.inquire_replay.specs.Inquiring.{asked_at, cell_after_inquiry, inquiry_reply}
use Rattle.inquire_replay.specs.declared.inquiries.AskedAt.{AskedAt}

-- what is answered of what a reader lists, where an inquiry is asked
abbrev pub answered_at : model.Cell → AskedAt → (Reader → Inquired) → Inquired
answered_at g at list = asked_at g at.house.0 (list (cell_reader g (Some at.house.0) at.high))

-- an answer and a cell are those of the model after a line
pub record IsReply (a : InquireAnswer) (c : Cell) (g : model.Cell) (l : InquireLine) : Type 0 where
  pub answer : inquiry_reply g l ≡ Some (inquired_answer a)
  pub stands : Stands c (cell_after_inquiry g l)
