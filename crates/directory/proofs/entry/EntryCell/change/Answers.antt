use Rattle.attr_sets.specs.CellChanges.{change_marks}
use Rattle.directory.proofs.Applying.{changed_joins}
use Rattle.directory.proofs.entry.EntryCell.change.Goals as goal

pub returns-clause-ok : goal.returns-clause-ok
returns-clause-ok c =
    λ valid. changed_joins c.args.self.now c.args.attr.now (change_marks c.args.change.now c.args.stamp) c.change.new.self (c.in_ok-change.ensures.ok
    (valid c.args.attr.now))
