use Rattle.attr_sets.specs.CellChanges.{change_marks}
use Rattle.attr_sets.proofs.CellUndoing.{first_marks}
use Rattle.attr_sets.proofs.cell.AttrCell.changed.Goals as goal

pub returns : goal.returns
returns c = first_marks (change_marks c.args.change.now c.args.stamp) c.new-cell.result c.change.new.self c.new-cell.ensures c.in_ok-change.ensures.ok
