use Rattle.std.specs.Cmp.Lexicographic.{nat_list_cmp_total}
use Rattle.cds_stamps.specs.Octets.{octets_exact}
use Rattle.attr_sets.specs.AttributeCells.{join_cells}
use Rattle.attr_sets.specs.CellUndoWords.{undo_cell}
use Rattle.cds_stamps.proofs.Undoing.{mended_new}
use Rattle.directory.proofs.attr_map.AttrMap.remove.Goals as goal

pub returns : goal.returns
returns c =
    mended_new nat_list_cmp_total octets_exact join_cells undo_cell c.args.self.now c.self.inside.cells c.remove.new.self
    c.args.name.now c.self.view_is c.remove.ensures.updates.0
