-- What comes of a step, of what comes of its act.
use Rattle.std.proofs.Common.{◌≡◌, ap, refl, subst, sym, ◌∙◌}
use Rattle.std.specs.Prelude.{Option, Some, None, Result, Ok, Err, IfOk, OnOk, is_err}
use Rattle.std.specs.Option.{option_map}
use Rattle.std.specs.declared.alloc.AllocError.{AllocError}
use Rattle.cell_model.specs.Cells as model
use Rattle.cell_model.specs.Commands as command
use Rattle.cell_model.specs.Reached.{IsReached}
use Rattle.cell_model.specs.Steps.{Outcome, effect, first_refusal, outcome, refusals_of}
use Rattle.cell_model.proofs.Standing.{reached_lem}
use Rattle.script_answers.specs.declared.answer.Answer.{Answer}
use Rattle.script_answers.specs.declared.answer.Answer.TheVariants as answer
use Rattle.script_answers.specs.declared.answer.ScriptRefusal.{ScriptRefusal}
use Rattle.cds_cell.specs.declared.cell.Cell.{Cell}
use Rattle.cds_cell.specs.PrivateSteps.{ComesTo, IsStepAs}
use Rattle.cds_cell.specs.Scripted as script
use Rattle.cds_cell.specs.ModelCells.{IsStep, Stands, StandsAs}

-- what is mapped to none is none
pub unrefused : (o : Option command.Refusal) (r : Option ScriptRefusal) → r ≡ option_map script.refusal_of o → r ≡ None → o ≡ None
unrefused None r is none = refl
unrefused (Some q) r is none = absurd (no (script.refusal_of q) (sym is ∙ none))
  where
    no : (q : ScriptRefusal) → Some q ≡ None → ⊥
    no q is = absurd (cc)

-- an act that nothing was said against is the step
pub acted_step : (d : Cell) (g : model.Cell) (k : command.Command) (r : Result Answer AllocError) → IsReached g → first_refusal (refusals_of g k) ≡ None
    → ComesTo r d (effect g k) → IfOk r (λ a. IsStep a d (outcome g k))
acted_step d g k (Err e) reached none comes = tt
acted_step d g k (Ok a) reached none comes =
    let is : outcome g k ≡ effect g k = rw none refl in
    record {
      answer = ap (λ (o : Outcome). script.answer_of o.answer) is ∙ comes.answer;
      stands = record {
        reached = reached_lem.after g k reached;
        stands = subst (λ (o : Outcome). StandsAs d o.cell) (sym is) comes.stands;
      };
    }

-- the cell after it stands for the model's
pub acted_stands : (d : Cell) (g : model.Cell) (k : command.Command) (a : Answer) → IsReached g → first_refusal (refusals_of g k) ≡ None
    → IsStepAs a d (effect g k) → Stands d (outcome g k).cell
acted_stands d g k a reached none comes = (acted_step d g k (Ok a) reached none comes).stands

-- so does a cell that stays, where the command is refused
pub refused_stands : (c : Cell) (g : model.Cell) (k : command.Command) (r : ScriptRefusal) → Stands c g
    → Some r ≡ option_map script.refusal_of (first_refusal (refusals_of g k)) → Stands c (outcome g k).cell
refused_stands c g k r s told = by (first_refusal (refusals_of g k)) refl told
  where
    by : (o : Option command.Refusal) → first_refusal (refusals_of g k) ≡ o → Some r ≡ option_map script.refusal_of o → Stands c (outcome g k).cell
    by None is told = absurd (cc (told))
    by (Some q) is told = rw is s

-- a command that is refused is a step of its own
pub refused_step : (c : Cell) (g : model.Cell) (k : command.Command) (r : ScriptRefusal) → Stands c g
    → Some r ≡ option_map script.refusal_of (first_refusal (refusals_of g k)) → IsStep (answer.Refused r) c (outcome g k)
refused_step c g k r s told = record {
  answer = by (first_refusal (refusals_of g k)) refl told;
  stands = refused_stands c g k r s told;
}
  where
    by : (o : Option command.Refusal) → first_refusal (refusals_of g k) ≡ o → Some r ≡ option_map script.refusal_of o
        → script.answer_of (outcome g k).answer ≡ Some (answer.Refused r)
    by None is told = absurd (cc (told))
    by (Some q) is told = rw is (ap (option_map answer.Refused) (sym told))

-- a cell that notes whether memory ran out stands for the same
pub unspent_stands : {T : Type 0} (d : Cell) (g : model.Cell) (r : Result T AllocError) → OnOk r (Stands d g) → OnOk r (Stands (record d { spent = is_err r }) g)
unspent_stands d g (Ok t) s = subst (λ b. Stands (record d { spent = b }) g) s.stands.usable s
unspent_stands d g (Err e) s = tt
