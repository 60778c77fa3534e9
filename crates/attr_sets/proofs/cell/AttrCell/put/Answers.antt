use Rattle.std.proofs.Common.{◌∙◌}
use Rattle.attr_sets.specs.Marks.{present_at}
use Rattle.attr_sets.specs.CellLawProofs.{put_joined}
use Rattle.attr_sets.proofs.cell.AttrCell.put.Goals as goal

pub returns-clause-ok : goal.returns-clause-ok
returns-clause-ok c = c.clear.ensures
    ∙ put_joined c.args.self.now c.add.new.self c.args.value.now (present_at c.args.stamp) c.args.stamp c.add.ensures.cleared c.in_ok-add.ensures.values
