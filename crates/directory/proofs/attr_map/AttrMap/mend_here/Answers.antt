use Rattle.std.proofs.Common.{refl}
use Rattle.std.specs.Cmp.Lexicographic.{nat_list_cmp_total}
use Rattle.cds_stamps.specs.Octets.{octets_exact}
use Rattle.attr_sets.specs.AttributeCells.{join_cells}
use Rattle.attr_sets.specs.CellUndoWords.{undo_cell}
use Rattle.cds_stamps.proofs.Undoing.{mended_here, mended_none}
use Rattle.directory.proofs.attr_map.AttrMap.mend_here.Goals.{in-Some, in_default+in-Whole-1, in_default+in-Marks-1}
use Rattle.directory.proofs.attr_map.AttrMap.mend_here.Goals as goal

pub returns : goal.returns
returns c = elim c.match-get_mut.branch [
  | in-Some w ↦ rw w.self-inside-is
      (mended_here nat_list_cmp_total octets_exact join_cells undo_cell c.args.self.now c.self.inside.cells
      (c.get_mut.follows.lender w.take_back.new.self) c.args.name.now w.in-Some.own.now c.args.undo c.self.view_is
      w.in-Some.ensures.value (rw (← w.take_back.ensures) (((c.get_mut.follows.holds w.take_back.new.self).3 (rw (← w.in-Some.ensures.value) refl)).0)))
  | in_default+in-Whole-1 w ↦ rw w.self-inside-is
      (mended_none nat_list_cmp_total octets_exact join_cells undo_cell c.args.self.now c.self.inside.cells
      c.get_mut.follows.lender-at-none c.args.name.now c.args.undo c.self.view_is w.in_default.ensures.value
      c.get_mut.follows.holds-at-none)
  | in_default+in-Marks-1 w ↦ rw w.self-inside-is
      (mended_none nat_list_cmp_total octets_exact join_cells undo_cell c.args.self.now c.self.inside.cells
      c.get_mut.follows.lender-at-none c.args.name.now c.args.undo c.self.view_is w.in_default.ensures.value
      c.get_mut.follows.holds-at-none)
]
