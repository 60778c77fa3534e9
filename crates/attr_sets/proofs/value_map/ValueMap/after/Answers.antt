use Rattle.std.proofs.Common.{◌≡◌, Some, ap, sym, ◌∙◌, rules}
use Rattle.std.specs.FinMap as map
use Rattle.std.specs.Cmp.Lexicographic.{nat_list_cmp_total}
use Rattle.cds_stamps.specs.Keyed.{map_some, get-map_some}
use Rattle.cds_stamps.specs.Octets.{octets_exact}
use Rattle.attr_sets.specs.CellPurges.{mark_after}
use Rattle.attr_sets.proofs.PartLoops.{part_starts, part_put, part_done}
use Rattle.attr_sets.proofs.value_map.ValueMap.after.Goals as goal

pub loop-value-init : goal.loop-value-init
loop-value-init c =
    part_starts nat_list_cmp_total octets_exact (λ _. mark_after c.args.t) c.args.self.now c.new-later.result c.self.inside.marks _ c.self.view_is
    c.iter-value-items.ensures.ordered (c.into_iter-value-iterator.ensures.into_iter_gives ∙ c.iter-value-items.ensures.rest) c.new-later.ensures

pub loop-value-preserved-in_ok-insert : goal.loop-value-preserved-in_ok-insert
loop-value-preserved-in_ok-insert c =
    let gives : mark_after c.args.t c.in-Some.mark.now ≡ Some c.in-Some.mark.now = search rules in
    part_put nat_list_cmp_total octets_exact (λ _. mark_after c.args.t) c.args.self.now c.loop-value.later c.insert.new.self c.in-Some.value.now
    c.in-Some.mark.now c.in-Some.mark.now c.loop-value.value-iterator c.next.new.self c.in-Some.ensures.steps gives
    (c.in_ok-insert.ensures.ok ∙ ap (λ k. map.insert c.loop-value.later k c.in-Some.mark.now) c.in_ok-copy.ensures) c.loop-value.invariant

pub returns : goal.returns
returns c = map.same_map nat_list_cmp_total octets_exact c.loop-value.later (map_some (mark_after c.args.t) c.args.self.now) (λ q.
    part_done nat_list_cmp_total octets_exact (λ _. mark_after c.args.t) c.args.self.now c.loop-value.later c.loop-value.value-iterator
    c.in-None.ensures.steps.0 c.loop-value.invariant q
    ∙ sym (get-map_some nat_list_cmp_total octets_exact (mark_after c.args.t) c.args.self.now q))
