use Rattle.std.proofs.Common.{refl, sym}
use Rattle.std.specs.FinMap.{empty}
use Rattle.attr_sets.proofs.CellUndoing.{is_empty_cell-is, empty_cell-is_empty, new_cell}
use Rattle.attr_sets.proofs.laws.empty_cells_are_one.Goals as goal

pub returns-clause-one : goal.returns-clause-one
returns-clause-one c = λ a. (is_empty_cell-is a, empty_cell-is_empty a)

pub returns-clause-of_nothing : goal.returns-clause-of_nothing
returns-clause-of_nothing c = sym (new_cell empty refl)
