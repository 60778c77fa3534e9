-- A run in two parts, of which the first one grows by a command.
use Rattle.std.proofs.Common.{◌≡◌, List, [], ◌∷◌, ◌++◌, ap, ◌∙◌, sym, append_assoc}
use Rattle.cell_model.specs.Cells.{empty_cell}
use Rattle.cell_model.specs.Commands.{Command}
use Rattle.cell_model.specs.Steps.{outcome, replay}
use Rattle.cell_model.proofs.Runs.{replay-append}

-- a command goes over to the first part
pub one_more : (past left late : List Command) (c : Command) → past ++ c ∷ left ≡ late → (past ++ c ∷ []) ++ left ≡ late
one_more past left late c e = append_assoc past (c ∷ []) left ∙ e

-- both parts, after a start
pub parts_of : (start past left late : List Command) → past ++ left ≡ late → (start ++ past) ++ left ≡ start ++ late
parts_of start past left late e = append_assoc start past left ∙ ap (λ (l : List Command). start ++ l) e

-- the cell after one command more
pub cell_next : (start past : List Command) (c : Command) → replay (start ++ (past ++ c ∷ [])) ≡ (outcome (replay (start ++ past)) c).cell
cell_next start past c = ap replay (sym (append_assoc start past (c ∷ []))) ∙ replay-append (start ++ past) (c ∷ []) empty_cell
