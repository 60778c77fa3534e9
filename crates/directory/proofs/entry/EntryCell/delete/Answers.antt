use Rattle.directory.proofs.Applying.{deleted_joins}
use Rattle.directory.proofs.entry.EntryCell.delete.Goals as goal

pub returns : goal.returns
returns c = deleted_joins c.args.self.now c.args.stamp c.earlier_of-self.result c.earlier_of-self.ensures
