-- A step hands its words on: the houses of a command, as a slice of them is told.
use Rattle.std.proofs.Common.{◌≡◌, ℕ, List, subst}
use Rattle.std.specs.Prelude.{Result, None}
use Rattle.std.specs.declared.alloc.AllocError.{AllocError}
use Rattle.cds_stamps.specs.declared.numbers.HouseNo.{HouseNo}
use Rattle.cell_model.specs.Cells as model
use Rattle.cell_model.specs.Commands.{Command}
use Rattle.cell_model.specs.Steps.{effect, first_refusal, refusals_of}
use Rattle.script_answers.specs.declared.answer.Answer.{Answer}
use Rattle.house_directory.specs.HouseMessages.{numbers_of}
use Rattle.cds_cell.specs.declared.cell.Cell.{Cell}
use Rattle.cds_cell.specs.PrivateSteps.{ComesTo}

-- what comes of a command over a slice of its houses comes of the command
pub handed_on : (f : List ℕ → Command) (given said : List HouseNo) (result : Result Answer AllocError) (c : Cell) (g : model.Cell) → given ≡ said
    → (first_refusal (refusals_of g (f (numbers_of given))) ≡ None → ComesTo result c (effect g (f (numbers_of given))))
    → first_refusal (refusals_of g (f (numbers_of said))) ≡ None → ComesTo result c (effect g (f (numbers_of said)))
handed_on f given said result c g same comes =
    subst (λ (hs : List HouseNo). first_refusal (refusals_of g (f (numbers_of hs))) ≡ None → ComesTo result c (effect g (f (numbers_of hs)))) same comes

-- and what comes of the command that a step means comes of the step
pub meant : (k said : Command) (result : Result Answer AllocError) (c : Cell) (g : model.Cell) → k ≡ said
    → (first_refusal (refusals_of g said) ≡ None → ComesTo result c (effect g said)) → first_refusal (refusals_of g k) ≡ None → ComesTo result c (effect g k)
meant k said result c g is =
    subst (λ (j : Command). (first_refusal (refusals_of g j) ≡ None → ComesTo result c (effect g j)) → first_refusal (refusals_of g k) ≡ None
    → ComesTo result c (effect g k)) is (λ comes. comes)
