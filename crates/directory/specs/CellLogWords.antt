-- Words of a private model: values that tell two ways back apart, which a log of changed cells is
-- told apart by.
use Rattle.std.specs.Prelude.{◌≡◌, ℕ, ◌⊎◌, List, Option, refl}
use Rattle.std.proofs.Common.{inl, inr}
use Rattle.std.specs.Coded.{Coded, code_by, coded×, coded⊎, coded_list, coded_option}
use Rattle.cds_stamps.specs.Octets.{octets_code}
use Rattle.attr_sets.specs.declared.mark.ValueMark.{ValueMark}
use Rattle.attr_sets.specs.declared.cell.AttrCell.{AttrCell}
use Rattle.attr_sets.specs.declared.undo.CellUndo.{CellUndo}
use Rattle.attr_sets.specs.declared.undo.CellUndo.TheVariants.{Whole, Marks}
use Rattle.attr_sets.specs.Marks.{mark_code}
use Rattle.attr_sets.specs.AttributeCells.{cell_code}

-- a way back is a cell or a log of marks
abbrev pub parts : CellUndo → AttrCell ⊎ List (List ℕ × Option ValueMark)
parts (Whole cell) = inl cell
parts (Marks log) = inr log

-- the way back of its parts
abbrev pub of_parts : AttrCell ⊎ List (List ℕ × Option ValueMark) → CellUndo
of_parts (inl cell) = Whole cell
of_parts (inr log) = Marks log

-- parts that are put together again
pub parts_back : (u : CellUndo) → of_parts (parts u) ≡ u
parts_back (Whole cell) = refl
parts_back (Marks log) = refl

-- ways back are told apart by their parts
abbrev pub cell_undo_code : Coded CellUndo
cell_undo_code =
    code_by (AttrCell ⊎ List (List ℕ × Option ValueMark)) (coded⊎ cell_code (coded_list (coded× octets_code
    (coded_option mark_code)))) parts of_parts parts_back
