-- Words of private functions alone: steps of a cell, and what acts leave of it.
use Rattle.std.specs.Prelude.{◌≡◌, ◌≢◌, ℕ, zero, suc, Bool, List, [], ◌∷◌, Some, None, Result, IfOk, OnOk}
use Rattle.std.specs.Option.{option_map}
use Rattle.std.specs.Result.{result_err}
use Rattle.std.specs.declared.alloc.AllocError.{AllocError}
use Rattle.directory.specs.Updates.{change_of}
use Rattle.cell_model.specs.Cells as model
use Rattle.cell_model.specs.Commands as command
use Rattle.cell_model.specs.Steps.{Outcome, effect, first_refusal, refusals_of}
use Rattle.cell_script.specs.Listings.{houses_in, secondaries_in}
use Rattle.script_answers.specs.declared.answer.Answer.{Answer}
use Rattle.script_answers.specs.declared.answer.ScriptRefusal.{ScriptRefusal}
use Rattle.house_directory.specs.HouseMessages.{numbers_of}
use Rattle.cds_cell.specs.declared.cell.Cell.{Cell}
use Rattle.cds_cell.specs.declared.house.CellHouse.{CellHouse}
use Rattle.cds_cell.specs.Scripted.{answer_of, refusal_of}
use Rattle.cds_cell.specs.ModelCells.{GrowsBy, Stands, StandsAs, UnlessDone}

-- the house of a number is at this place, and none before it
abbrev pub IsPlaceOf : List CellHouse → ℕ → ℕ → Type 0
IsPlaceOf [] x i = ⊥
IsPlaceOf (h ∷ hs) x zero = h.house.0 ≡ x
IsPlaceOf (h ∷ hs) x (suc i) = (h.house.0 ≢ x) × IsPlaceOf hs x i

-- a step is allowed by these tests, or the first refusal is told whose test holds
abbrev pub IsAllowed : {T : Type 0} → Result T ScriptRefusal → List (Bool × command.Refusal) → Type 0
IsAllowed result tests = result_err result ≡ option_map refusal_of (first_refusal tests)

-- a command is allowed as by the model, or its first refusal is answered
abbrev pub AllowsCommand : {T : Type 0} → command.Command → Cell → Result T ScriptRefusal → Type 0
AllowsCommand c m result = (g : model.Cell) → Stands m g → IsAllowed result (refusals_of g c)

-- an answer and a cell are those of a step of the model; it is not said that a list of commands
-- leads there
pub record IsStepAs (a : Answer) (c : Cell) (o : Outcome) : Type 0 where
  pub answer : answer_of o.answer ≡ Some a
  pub stands : StandsAs c o.cell

-- what an act leaves, whichever cell it stands for: it spends nothing, grows the cell by a step at
-- most, and changes nothing where its answer says so
pub record Leaves (old new : Cell) (result : Result Answer AllocError) : Type 0 where
  pub spent : new.spent ≡ old.spent
  pub grows : OnOk result (GrowsBy old new)
  pub same : IfOk result (λ a. UnlessDone a (new ≡ old))

-- what comes of an act is this outcome, or memory ran out
abbrev pub ComesTo : Result Answer AllocError → Cell → Outcome → Type 0
ComesTo result c o = IfOk result (λ a. IsStepAs a c o)

-- a command that the model does not refuse is done as by the model, or memory ran out
abbrev pub DoesCommand : command.Command → Cell → Cell → Result Answer AllocError → Type 0
DoesCommand c old new result =
    (g : model.Cell) → Stands old g → first_refusal (refusals_of g c) ≡ None
    → ComesTo result new (effect g c)
