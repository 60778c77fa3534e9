use Rattle.attr_sets.specs.CellLawProofs.{clear_joined}
use Rattle.attr_sets.proofs.cell.AttrCell.clear.Goals as goal

pub returns : goal.returns
returns c = clear_joined c.args.self.now c.join_clear.new.self c.args.stamp c.join_clear.ensures.cleared c.join_clear.ensures.values
