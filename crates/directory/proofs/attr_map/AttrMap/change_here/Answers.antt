use Rattle.std.proofs.Common.{ap, ◌∙◌, sym, refl, Some}
use Rattle.std.specs.FinMap as map
use Rattle.std.specs.BTreeMap.{is_at}
use Rattle.std.specs.Cmp.Lexicographic.{nat_list_cmp_total}
use Rattle.std.proofs.lemmas.Map.Steps.{set_value_same}
use Rattle.cds_stamps.specs.Octets.{octets_exact, octets_cmp}
use Rattle.attr_sets.specs.AttributeCells.{cell_of, join_cells}
use Rattle.attr_sets.specs.CellChanges.{change_marks}
use Rattle.cds_stamps.proofs.Undoing.{not_here, on_err}
use Rattle.directory.specs.Entries.{IsHeldCell}
use Rattle.directory.proofs.Applying.{changed_here}
use Rattle.directory.proofs.attr_map.AttrMap.change_here.Goals.{in-Some+in_ok-change-in-Some, in-None}
use Rattle.directory.proofs.attr_map.AttrMap.change_here.Goals as goal

pub returns-in_err-change-in-Some-clause-err : goal.returns-in_err-change-in-Some-clause-err
returns-in_err-change-in-Some-clause-err c =
    on_err c.from_residual.result
    (ap map.from_entries ((c.get_mut.follows.holds c.change.new.self).0 ∙ set_value_same (is_at
    (octets_cmp c.args.name.now)) c.self.inside.cells c.change.new.self (sym c.in-Some.ensures.value
    ∙ ap Some (sym c.in_err-change-in-Some.ensures.err)))
    ∙ c.self.view_is)

pub returns-clause-ok : goal.returns-clause-ok
returns-clause-ok c = elim c.match-get_mut.branch [
  | in-Some+in_ok-change-in-Some w ↦ rw (w.result-is, w.self-inside-is)
      (changed_here nat_list_cmp_total octets_exact IsHeldCell join_cells c.args.self.now c.self.inside.cells
      (c.get_mut.follows.lender w.change.new.self) c.args.name.now w.in-Some.own.now
      (cell_of (change_marks c.args.change.now c.args.stamp)) w.change.new.self c.self.view_is w.in-Some.ensures.value
      (λ own. w.in_ok-change-in-Some.ensures.ok own.0)
      ((c.get_mut.follows.holds w.change.new.self).3 (rw (← w.in-Some.ensures.value) refl)).0)
  | in-None w ↦ rw (w.result-is, w.self-inside-is)
      (not_here nat_list_cmp_total octets_exact c.args.self.now c.self.inside.cells c.get_mut.follows.lender-at-none c.args.name.now
      c.self.view_is w.in-None.ensures.value
      c.get_mut.follows.holds-at-none)
]
