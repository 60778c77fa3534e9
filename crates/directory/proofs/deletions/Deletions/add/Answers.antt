use Rattle.directory.proofs.DeletionSets.{updated}
use Rattle.std.proofs.Common.{true}
use Rattle.directory.proofs.deletions.Deletions.add.Goals as goal

pub returns-clause-ok : goal.returns-clause-ok
returns-clause-ok c = updated c.args.self.now.known c.insert.new.self c.args.deletion true c.in_ok-insert.ensures.updates
