use Rattle.std.proofs.Common.{sym, ◌∙◌}
use Rattle.std.specs.FinMap as map
use Rattle.std.specs.Cmp.Lexicographic.{nat_list_cmp_total}
use Rattle.cds_stamps.specs.Keyed.{map_some, get-map_some}
use Rattle.cds_stamps.specs.Octets.{octets_exact}
use Rattle.attr_sets.specs.CellPurges.{cell_after}
use Rattle.attr_sets.proofs.PartLoops.{part_starts, part_done}
use Rattle.directory.proofs.PurgeLaws.{cell_put}
use Rattle.directory.proofs.attr_map.AttrMap.after.Goals as goal

pub loop-name-init : goal.loop-name-init
loop-name-init c =
    part_starts nat_list_cmp_total octets_exact (λ _. cell_after c.args.t) c.args.self.now c.new-later.result c.self.inside.cells _ c.self.view_is
    c.iter-name-items.ensures.ordered (c.into_iter-name-iterator.ensures.into_iter_gives ∙ c.iter-name-items.ensures.rest) c.new-later.ensures

pub loop-name-preserved : goal.loop-name-preserved
loop-name-preserved c =
    cell_put c.args.t c.args.self.now c.loop-name.later c.insert_some.new.self c.in-Some.name.now c.in-Some.cell.now _ c.loop-name.name-iterator
    c.next.new.self c.in-Some.ensures.steps c.in_ok-part.ensures c.in_ok-insert_some.ensures c.loop-name.invariant

pub returns : goal.returns
returns c = map.same_map nat_list_cmp_total octets_exact c.loop-name.later (map_some (cell_after c.args.t) c.args.self.now) (λ q.
    part_done nat_list_cmp_total octets_exact (λ _. cell_after c.args.t) c.args.self.now c.loop-name.later c.loop-name.name-iterator
    c.in-None.ensures.steps.0 c.loop-name.invariant q
    ∙ sym (get-map_some nat_list_cmp_total octets_exact (cell_after c.args.t) c.args.self.now q))
