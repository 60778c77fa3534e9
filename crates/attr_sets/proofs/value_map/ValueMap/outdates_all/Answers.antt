use Rattle.std.proofs.Common.{ap, arith}
use Rattle.std.specs.FinMap as map
use Rattle.attr_sets.specs.Marks.{later, mark_after_clear}
use Rattle.attr_sets.specs.CellLawProofs.{marks}
use Rattle.cds_stamps.specs.Octets.{octets_cmp}
use Rattle.cds_stamps.specs.Semilattice.{maybe}
use Rattle.cds_stamps.proofs.TreeViews.{entry_at, item_joined}
use Rattle.attr_sets.proofs.CellUndoing.{all_kept}
use Rattle.attr_sets.proofs.value_map.ValueMap.outdates_all.Goals as goal

pub loop-value-init : goal.loop-value-init
loop-value-init c = λ q.
    ap (maybe later (map.get c.args.self.now q))
    (all_kept c.args.clear.now c.args.other.now c.other.inside.marks _ c.other.view_is c.iter-value-items.ensures.ordered
    c.iter-value-items.ensures.rest c.into_iter-value-iterator.ensures.into_iter_gives q)

pub loop-value-preserved : goal.loop-value-preserved
loop-value-preserved c = λ q.
    item_joined later marks.assoc (λ e. mark_after_clear c.args.clear.now
    (entry_at octets_cmp q e)) (map.get c.args.self.now q) (map.get c.args.self.now q) _ (c.in-Some.value.now, c.in-Some.mark.now)
    c.loop-value.value-iterator c.next.new.self
    c.in-Some.ensures.steps (c.outdates_uncovered-outdated.ensures (grind (arith, c.if-not-outdated.false)) q) (c.loop-value.invariant q)
