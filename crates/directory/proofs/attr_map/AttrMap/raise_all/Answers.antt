use Rattle.std.proofs.Common.{ap, sym, ◌∙◌, refl, subst}
use Rattle.std.specs.FinMap as map
use Rattle.std.specs.List.{AllByRecursion}
use Rattle.std.specs.Cmp.Lexicographic.{nat_list_cmp_total}
use Rattle.cds_stamps.specs.Octets.{octets_cmp, octets_exact}
use Rattle.cds_stamps.specs.Semilattice.{maybe, join_of}
use Rattle.attr_sets.specs.AttributeCells.{join_cells}
use Rattle.directory.specs.Entries.{IsHeldCell}
use Rattle.directory.specs.EntryLawProofs.{cell_join}
use Rattle.cds_stamps.proofs.TreeViews.{entry_at, join_of-entries, get-view, all_joined}
use Rattle.cds_stamps.proofs.ValidJoins.{each_of_map, valid_step}
use Rattle.directory.proofs.attr_map.AttrMap.raise_all.Goals as goal

pub loop-name-init : goal.loop-name-init
loop-name-init c =
    let items = c.into_iter-name-iterator.ensures.into_iter_gives ∙ c.iter-name-items.ensures.rest in (
      (λ old other. (
        old,
        subst (AllByRecursion
            (λ e. IsHeldCell e.1)) (sym items) (each_of_map nat_list_cmp_total IsHeldCell c.args.other.now c.other.inside.cells
            c.other.view_is c.iter-name-items.ensures.ordered other),
        λ q. ap (maybe join_cells (map.get c.args.self.now q))
            (ap (join_of join_cells (entry_at octets_cmp q)) items
            ∙ join_of-entries nat_list_cmp_total join_cells q c.other.inside.cells c.iter-name-items.ensures.ordered
            ∙ sym (get-view nat_list_cmp_total c.other.inside.cells q) ∙ ap (λ m. map.get m q) c.other.view_is),
      )),
      λ q. refl,
    )

pub loop-name-preserved : goal.loop-name-preserved
loop-name-preserved c = (
  (λ old other.
      valid_step nat_list_cmp_total IsHeldCell cell_join c.loop-name.self c.raise_logged.new.self c.in-Some.name.now c.in-Some.cell.now
      c.loop-name.name-iterator c.next.new.self
      (λ q. maybe join_cells (map.get c.args.self.now q) (map.get c.args.other.now q)) c.in-Some.ensures.steps c.in_ok-raise_logged.ensures.ok
      (c.loop-name.invariant.0 old other)),
  λ q. c.in_ok-raise_logged.ensures.back q ∙ c.loop-name.invariant.1 q,
)

pub returns-clause-ok : goal.returns-clause-ok
returns-clause-ok c = λ old other.
    all_joined nat_list_cmp_total octets_exact join_cells c.args.self.now c.args.other.now c.loop-name.self c.loop-name.name-iterator
    (c.loop-name.invariant.0 old other).2 c.in-None.ensures.steps.0
