use Rattle.cds_stamps.specs.Octets.{octets_exact}
use Rattle.attr_sets.specs.AttributeCells.{join_cells}
use Rattle.attr_sets.proofs.Unchanged.{unchanged_valid}
use Rattle.directory.specs.Entries.{IsHeldCell}
use Rattle.directory.proofs.attr_map.AttrMap.outdates.Goals as goal

pub returns-in-Some : goal.returns-in-Some
returns-in-Some c = λ outdated.
    unchanged_valid octets_exact IsHeldCell join_cells c.args.self.now c.args.name.now c.in-Some.own.now c.args.cell.now c.in-Some.ensures
    (λ own _. c.outdates.ensures outdated own.0)
