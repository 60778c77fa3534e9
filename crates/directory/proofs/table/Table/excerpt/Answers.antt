use Rattle.std.proofs.Common.{sym, subst}
use Rattle.directory.specs.Entries.{IsValidTable}
use Rattle.directory.proofs.table.Table.excerpt.Goals as goal

pub invariant_of-result : goal.invariant_of-result
invariant_of-result c = subst IsValidTable (sym c.in_ok-clone.ensures.cases) c.self.invariant.valid
