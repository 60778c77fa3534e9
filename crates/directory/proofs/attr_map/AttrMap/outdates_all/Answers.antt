use Rattle.std.proofs.Common.{ap, sym, ◌∙◌, subst, arith}
use Rattle.std.specs.FinMap as map
use Rattle.std.specs.List.{AllByRecursion}
use Rattle.std.specs.Cmp.Lexicographic.{nat_list_cmp_total}
use Rattle.cds_stamps.specs.Octets.{octets_cmp, octets_exact}
use Rattle.cds_stamps.specs.Semilattice.{maybe, join_of}
use Rattle.attr_sets.specs.AttributeCells.{join_cells}
use Rattle.directory.specs.Entries.{IsHeldCell}
use Rattle.directory.specs.EntryLawProofs.{cell_join}
use Rattle.cds_stamps.proofs.TreeViews.{entry_at, join_of-entries, get-view, all_joined}
use Rattle.cds_stamps.proofs.ValidJoins.{each_of_map, valid_step}
use Rattle.directory.proofs.attr_map.AttrMap.outdates_all.Goals as goal

pub loop-name-init : goal.loop-name-init
loop-name-init c = λ old other.
    let items = c.into_iter-name-iterator.ensures.into_iter_gives ∙ c.iter-name-items.ensures.rest in (
      old,
      subst (AllByRecursion
          (λ e. IsHeldCell e.1)) (sym items) (each_of_map nat_list_cmp_total IsHeldCell c.args.other.now c.other.inside.cells
          c.other.view_is c.iter-name-items.ensures.ordered other),
      λ q. ap (maybe join_cells (map.get c.args.self.now q))
          (ap (join_of join_cells (entry_at octets_cmp q)) items
          ∙ join_of-entries nat_list_cmp_total join_cells q c.other.inside.cells c.iter-name-items.ensures.ordered
          ∙ sym (get-view nat_list_cmp_total c.other.inside.cells q) ∙ ap (λ m. map.get m q) c.other.view_is),
    )

pub loop-name-preserved : goal.loop-name-preserved
loop-name-preserved c = λ old other.
    valid_step nat_list_cmp_total IsHeldCell cell_join c.args.self.now c.args.self.now c.in-Some.name.now c.in-Some.cell.now
    c.loop-name.name-iterator c.next.new.self
    (λ q. maybe join_cells (map.get c.args.self.now q) (map.get c.args.other.now q)) c.in-Some.ensures.steps
    (c.outdates-outdated.ensures (grind (arith, c.if-not-outdated.false))) (c.loop-name.invariant old other)

pub returns : goal.returns
returns c = λ _ old other.
    sym (all_joined nat_list_cmp_total octets_exact join_cells c.args.self.now c.args.other.now c.args.self.now c.loop-name.name-iterator
    (c.loop-name.invariant old other).2 c.in-None.ensures.steps.0)
