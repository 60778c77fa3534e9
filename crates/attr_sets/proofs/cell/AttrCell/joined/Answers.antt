use Rattle.attr_sets.proofs.CellUndoing.{both_kept}
use Rattle.attr_sets.proofs.cell.AttrCell.joined.Goals as goal

pub returns : goal.returns
returns c =
    both_kept c.args.self.now c.args.other.now c.new-values.result c.raise_all.new.self c.raise_all-2.new.self c.later_of-cleared.result
    c.new-values.ensures c.later_of-cleared.ensures c.in_ok-raise_all.ensures c.in_ok-raise_all-2.ensures
