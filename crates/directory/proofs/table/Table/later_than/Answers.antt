use Rattle.std.proofs.Common.{sym, subst}
use Rattle.std.specs.Prelude.{Some}
use Rattle.directory.specs.Entries.{IsValidTable}
use Rattle.directory.proofs.DeltaLaws.{delta_table-valid}
use Rattle.directory.proofs.table.Table.later_than.Goals as goal

pub invariant_of-result : goal.invariant_of-result
invariant_of-result c =
    subst IsValidTable (sym c.in_ok-entries.ensures) (delta_table-valid (Some c.args.t) c.self.inside.entries c.self.invariant.valid)
