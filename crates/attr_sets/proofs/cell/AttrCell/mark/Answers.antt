use Rattle.std.proofs.Common.{refl}
use Rattle.attr_sets.specs.declared.cell.AttrCell.{AttrCell}
use Rattle.attr_sets.specs.CellLawProofs.{mark_given}
use Rattle.attr_sets.proofs.cell.AttrCell.mark.Goals as goal

pub returns-clause-ok : goal.returns-clause-ok
returns-clause-ok c = λ valid.
    let new : AttrCell = record { cleared = c.args.self.now.cleared; values = c.raise_uncovered.new.self } in
    mark_given c.args.self.now new c.args.value.now c.args.mark valid refl c.in_ok-raise_uncovered.ensures.ok
