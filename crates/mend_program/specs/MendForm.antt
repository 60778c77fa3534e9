-- The form of `cdsmend`.
use Rattle.std.specs.Prelude.{ℕ, List}
use Rattle.cell_model.specs.Cells.{empty_cell}
use Rattle.line_forms.specs.Readings.{Reading, by_lines}
use Rattle.mend_replay.specs.MendRules.{mend_rule, mend_state}

-- it replays a script on a cell without houses, and writes what mends the directory d after it,
-- without the houses hs
abbrev pub mend_form : (d : ℕ) → (hs : List ℕ) → Reading
mend_form d hs = by_lines mend_rule (mend_state d hs empty_cell)
