use Rattle.std.proofs.Common.{ap, ◌∙◌, sym, refl, Some}
use Rattle.std.specs.FinMap as map
use Rattle.std.specs.Cmp.Lexicographic.{nat_list_cmp_total}
use Rattle.cds_stamps.specs.Octets.{octets_exact}
use Rattle.attr_sets.specs.AttributeCells.{join_cells}
use Rattle.attr_sets.specs.CellUndoWords.{undo_cell}
use Rattle.cds_stamps.proofs.TreeViews.{get-view}
use Rattle.cds_stamps.proofs.Undoing.{on_err}
use Rattle.cds_stamps.proofs.ValidJoins.{raised_valid}
use Rattle.directory.specs.Entries.{IsHeldCell}
use Rattle.directory.proofs.attr_map.AttrMap.raise_here.Goals.{in-Some+in_ok-undo-in-Some, in-None}
use Rattle.directory.proofs.attr_map.AttrMap.raise_here.Goals as goal
use Rattle.std.proofs.lemmas.Map.Steps.{set_value_same}
use Rattle.std.specs.BTreeMap.{is_at}
use Rattle.cds_stamps.specs.Octets.{octets_cmp}

pub returns-in_err-undo-in-Some-clause-err : goal.returns-in_err-undo-in-Some-clause-err
returns-in_err-undo-in-Some-clause-err c =
    on_err c.from_residual.result
    (ap map.from_entries ((c.get_mut.follows.holds c.join_logged.new.self).0 ∙ set_value_same (is_at
    (octets_cmp c.args.name.now)) c.self.inside.cells c.join_logged.new.self (sym c.in-Some.ensures.value
    ∙ ap Some (sym c.in_err-undo-in-Some.ensures.err)))
    ∙ c.self.view_is)

pub returns-clause-ok : goal.returns-clause-ok
returns-clause-ok c = elim c.match-get_mut.branch [
  | in-Some+in_ok-undo-in-Some w ↦ rw (w.result-is, w.self-inside-is)
      (raised_valid nat_list_cmp_total IsHeldCell octets_exact join_cells undo_cell c.args.self.now c.self.inside.cells
      (c.get_mut.follows.lender w.join_logged.new.self) c.args.name.now w.in-Some.own.now c.args.cell.now w.join_logged.new.self
      w.in_ok-undo-in-Some.undo
      c.self.view_is w.in-Some.ensures.value (λ held _. sym (w.in_ok-undo-in-Some.ensures.ok held.0)) w.in_ok-undo-in-Some.ensures.back
      ((c.get_mut.follows.holds w.join_logged.new.self).3 (rw (← w.in-Some.ensures.value) refl)).0)
  | in-None w ↦ rw (w.result-is, w.self-inside-is) (
    ap (λ m. map.get m c.args.name.now) (sym c.self.view_is) ∙ get-view nat_list_cmp_total c.self.inside.cells c.args.name.now
        ∙ sym w.in-None.ensures.value,
    ap (λ m. map.from_entries m) c.get_mut.follows.holds-at-none ∙ c.self.view_is,
  )
]
