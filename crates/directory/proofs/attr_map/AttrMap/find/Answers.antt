use Rattle.std.proofs.Common.{◌∙◌, sym, ap}
use Rattle.std.specs.BTreeMap.{is_at}
use Rattle.std.specs.Map.{lookup}
use Rattle.std.specs.FinMap as map
use Rattle.std.specs.Cmp.Lexicographic.{nat_list_cmp_total}
use Rattle.cds_stamps.specs.Octets.{octets_cmp}
use Rattle.cds_stamps.proofs.TreeViews.{get-view}
use Rattle.directory.proofs.Lookups.{tested_octets, passed_by, found_first}
use Rattle.directory.proofs.attr_map.AttrMap.find.Goals as goal

pub loop-name-init : goal.loop-name-init
loop-name-init c =
    ap (lookup (is_at (octets_cmp c.args.octets.now))) (c.into_iter-name-iterator.ensures.into_iter_gives ∙ c.iter-name-items.ensures.rest)
    ∙ sym (get-view nat_list_cmp_total c.self.inside.cells c.args.octets.now) ∙ ap (λ m. map.get m c.args.octets.now) c.self.view_is

pub loop-name-preserved : goal.loop-name-preserved
loop-name-preserved c =
    passed_by c.args.octets.now c.in-Some.name.now c.in-Some.cell.now c.loop-name.name-iterator c.next.new.self
    (map.get c.args.self.now c.args.octets.now) c.in-Some.ensures.steps
    (tested_octets c.in-Some.name.now c.octets.result.now c.args.octets.now c.eq.result _
    (sym c.octets.ensures.value) c.eq.ensures c.if-eq.false) c.loop-name.invariant

pub returns-then-eq : goal.returns-then-eq
returns-then-eq c =
    found_first c.args.octets.now c.in-Some.name.now c.in-Some.cell.now c.loop-name.name-iterator c.next.new.self
    (map.get c.args.self.now c.args.octets.now) c.in-Some.ensures.steps
    (tested_octets c.in-Some.name.now c.octets.result.now c.args.octets.now c.eq.result _
    (sym c.octets.ensures.value) c.eq.ensures c.if-eq.true) c.loop-name.invariant
