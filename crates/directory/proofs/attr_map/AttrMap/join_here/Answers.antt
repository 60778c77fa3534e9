use Rattle.std.proofs.Common.{ap, ◌∙◌, sym, refl, Some}
use Rattle.std.specs.FinMap as map
use Rattle.std.specs.BTreeMap.{is_at}
use Rattle.std.specs.Cmp.Lexicographic.{nat_list_cmp_total}
use Rattle.std.proofs.lemmas.Map.Steps.{set_value_same}
use Rattle.cds_stamps.specs.Octets.{octets_exact, octets_cmp}
use Rattle.attr_sets.specs.AttributeCells.{join_cells}
use Rattle.cds_stamps.proofs.Undoing.{not_here, on_err}
use Rattle.cds_stamps.proofs.ValidJoins.{joined_valid}
use Rattle.directory.specs.Entries.{IsHeldCell}
use Rattle.directory.proofs.attr_map.AttrMap.join_here.Goals.{in-Some+in_ok-join-in-Some, in-None}
use Rattle.directory.proofs.attr_map.AttrMap.join_here.Goals as goal

pub returns-in_err-join-in-Some-clause-err : goal.returns-in_err-join-in-Some-clause-err
returns-in_err-join-in-Some-clause-err c =
    on_err c.from_residual.result
    (ap map.from_entries ((c.get_mut.follows.holds c.join.new.self).0 ∙ set_value_same (is_at
    (octets_cmp c.args.name.now)) c.self.inside.cells c.join.new.self (sym c.in-Some.ensures.value
    ∙ ap Some (sym c.in_err-join-in-Some.ensures.err)))
    ∙ c.self.view_is)

pub returns-clause-ok : goal.returns-clause-ok
returns-clause-ok c = elim c.match-get_mut.branch [
  | in-Some+in_ok-join-in-Some w ↦ rw (w.result-is, w.self-inside-is)
      (joined_valid nat_list_cmp_total IsHeldCell octets_exact join_cells c.args.self.now c.self.inside.cells
      (c.get_mut.follows.lender w.join.new.self) c.args.name.now w.in-Some.own.now c.args.cell.now w.join.new.self
      c.self.view_is w.in-Some.ensures.value (λ own other. sym (w.in_ok-join-in-Some.ensures.ok own.0 other.0))
      ((c.get_mut.follows.holds w.join.new.self).3 (rw (← w.in-Some.ensures.value) refl)).0)
  | in-None w ↦ rw (w.result-is, w.self-inside-is)
      (not_here nat_list_cmp_total octets_exact c.args.self.now c.self.inside.cells c.get_mut.follows.lender-at-none c.args.name.now
      c.self.view_is w.in-None.ensures.value
      c.get_mut.follows.holds-at-none)
]
