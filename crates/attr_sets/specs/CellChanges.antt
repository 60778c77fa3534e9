-- What one update does to an attribute (own, after C705, updates of attributes).
use Rattle.std.specs.Prelude.{◌≡◌, List, [], ◌∷◌}
use Rattle.cds_stamps.specs.declared.stamp.Stamp.{Stamp}
use Rattle.attr_sets.specs.declared.cell.AttrCell.{AttrCell}
use Rattle.attr_sets.specs.declared.change.CellChange.{CellChange}
use Rattle.attr_sets.specs.declared.change.CellChange.TheVariants.{Add, Remove, Put, Clear}
use Rattle.attr_sets.specs.Marks.{present_at, absent_at, RaisesKept}
use Rattle.attr_sets.specs.AttributeCells.{AttrMark, Cleared, Marked, cell_of, join_cells}

-- the marks of a change with this stamp (own)
abbrev pub change_marks : CellChange → Stamp → List AttrMark
change_marks (Add v) s = Marked v.now (present_at s) ∷ []
change_marks (Remove v) s = Marked v.now (absent_at s) ∷ []
change_marks (Put v) s = Cleared s ∷ Marked v.now (present_at s) ∷ []
change_marks Clear s = Cleared s ∷ []

-- n is a, valid or not, with a change of this stamp: one mark more, unless it is earlier than the
-- clear; or the join with a clear (own)
abbrev pub ChangesCell : CellChange → Stamp → AttrCell → AttrCell → Type 0
ChangesCell (Add v) s a n = (n.cleared ≡ a.cleared) × RaisesKept a.cleared a.values n.values v.now (present_at s)
ChangesCell (Remove v) s a n = (n.cleared ≡ a.cleared) × RaisesKept a.cleared a.values n.values v.now (absent_at s)
ChangesCell (Put v) s a n = n ≡ join_cells a (cell_of (change_marks (Put v) s))
ChangesCell Clear s a n = n ≡ join_cells a (cell_of (change_marks Clear s))
