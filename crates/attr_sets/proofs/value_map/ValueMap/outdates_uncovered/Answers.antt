use Rattle.attr_sets.proofs.CellUndoing.{raised_none}
use Rattle.attr_sets.proofs.Unchanged.{raises_kept}
use Rattle.attr_sets.proofs.value_map.ValueMap.outdates_uncovered.Goals as goal

pub returns : goal.returns
returns c = λ outdated.
    raises_kept c.args.clear.now c.args.self.now c.args.self.now c.args.value.now c.args.mark.now (rw c.if-covers.false at c.covers.ensures)
    (raised_none c.args.self.now c.args.value.now c.args.mark.now (c.outdates.ensures outdated))
