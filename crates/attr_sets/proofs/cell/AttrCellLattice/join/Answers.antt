use Rattle.std.proofs.Common.{refl, ◌≡◌}
use Rattle.attr_sets.specs.declared.cell.AttrCell.{AttrCell}
use Rattle.attr_sets.specs.AttributeCells.{join_cells}
use Rattle.attr_sets.proofs.CellUndoing.{kept_joined, later_joined, kept_agrees, joined_agrees}
use Rattle.attr_sets.proofs.cell.AttrCellLattice.join.Goals as goal

pub returns-clause-ok : goal.returns-clause-ok
returns-clause-ok c = λ _ _.
    later_joined c.args.self.now c.args.other.now c.join_clear.new.self c.join-2.new.self c.join_clear.ensures.cleared c.in_ok-join-2.ensures.ok
    c.join_clear.ensures.values

pub returns-clause-own : goal.returns-clause-own
returns-clause-own c = λ _.
    later_joined c.args.self.now c.args.other.now c.join_clear.new.self c.join-2.new.self c.join_clear.ensures.cleared c.in_ok-join-2.ensures.ok
    c.join_clear.ensures.values

pub returns-clause-any : goal.returns-clause-any
returns-clause-any c = (
  λ same. absurd ((rw c.if-covers_clear.false at c.covers_clear.ensures) same),
  λ _.
      later_joined c.args.self.now c.args.other.now c.join_clear.new.self c.join-2.new.self c.join_clear.ensures.cleared c.in_ok-join-2.ensures.ok
      c.join_clear.ensures.values,
)

pub returns-clause-values : goal.returns-clause-values
returns-clause-values c =
    let is : c.join_clear.new.self ≡ join_cells c.args.self.now c.args.other.now =
    later_joined c.args.self.now c.args.other.now c.join_clear.new.self c.join-2.new.self c.join_clear.ensures.cleared c.in_ok-join-2.ensures.ok
    c.join_clear.ensures.values in
    joined_agrees c.args.self.now c.args.other.now c.join_clear.new.self is

pub returns-then-covers_clear-clause-ok : goal.returns-then-covers_clear-clause-ok
returns-then-covers_clear-clause-ok c = λ own _.
    let new : AttrCell = record { cleared = c.args.self.now.cleared; values = c.join.new.self } in
    kept_joined c.args.self.now c.args.other.now new refl (rw c.if-covers_clear.true at c.covers_clear.ensures) c.in_ok-join.ensures.ok own

pub returns-then-covers_clear-clause-own : goal.returns-then-covers_clear-clause-own
returns-then-covers_clear-clause-own c =
    let new : AttrCell = record { cleared = c.args.self.now.cleared; values = c.join.new.self } in
    kept_joined c.args.self.now c.args.other.now new refl (rw c.if-covers_clear.true at c.covers_clear.ensures) c.in_ok-join.ensures.ok

pub returns-then-covers_clear-clause-values : goal.returns-then-covers_clear-clause-values
returns-then-covers_clear-clause-values c =
    kept_agrees c.args.self.now.cleared c.args.self.now.values c.join.new.self c.args.other.now.values c.in_ok-join.ensures.ok
