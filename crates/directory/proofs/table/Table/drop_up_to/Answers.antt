use Rattle.std.proofs.Common.{ap, ◌∙◌}
use Rattle.directory.specs.Purges.{purged_table}
use Rattle.directory.proofs.PurgeLaws.{dropped-again}
use Rattle.directory.proofs.table.Table.drop_up_to.Goals as goal

pub returns-clause-histories : goal.returns-clause-histories
returns-clause-histories c = λ h a later is.
    dropped-again h a c.args.t c.args.self.now c.drop_deletions_up_to.new.entries
    (c.drop_deletions_up_to.ensures.dropped c.self.invariant ∙ ap (purged_table c.args.t) c.self.view_is) later is
