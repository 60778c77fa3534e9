use Rattle.std.proofs.Common.{◌∙◌, Some, None, ap, sym, refl}
use Rattle.std.specs.Prelude.{if◌then◌else◌}
use Rattle.attr_sets.specs.declared.cell.AttrCell.{AttrCell}
use Rattle.attr_sets.specs.CellPurges.{some_cell}
use Rattle.directory.specs.Deletions.{cell_without}
use Rattle.directory.specs.declared.deletions.What.TheVariants.{Absent}
use Rattle.directory.proofs.Dropping.{set_here, gone_here, none_here}
use Rattle.directory.proofs.attr_map.AttrMap.drop_value.Goals.{in-Some-1, in-None-1}
use Rattle.directory.proofs.attr_map.AttrMap.drop_value.Goals as goal

pub returns-then-is_empty : goal.returns-then-is_empty
returns-then-is_empty c =
    let next : AttrCell = record { cleared = c.in-Some.cell.now.cleared; values = c.remove.new.self } in
    let gone = gone_here c.args.self.now c.self.inside.cells c.args.name.now (cell_without (Absent c.args.name.now c.args.value.now)) c.self.view_is
    (c.get_mut.follows.lender next) c.remove-then-is_empty.new.self c.in-Some.cell.now next c.in-Some.ensures.value
    ((c.get_mut.follows.holds next).3 (rw (← c.in-Some.ensures.value) refl)).0 c.remove-then-is_empty.ensures.updates.0
    (ap (λ values. some_cell (record { cleared = c.in-Some.cell.now.cleared; values = values })) (sym c.remove.ensures.after)
    ∙ ap (λ b. if b then None else Some next) (sym c.is_empty.ensures ∙ c.if-is_empty.true)) in
    elim c.match-remove.branch [ in-Some-1 w ↦ w.self-is ∙ gone | in-None-1 w ↦ w.self-is ∙ gone ]

pub returns-else-is_empty : goal.returns-else-is_empty
returns-else-is_empty c =
    let next : AttrCell = record { cleared = c.in-Some.cell.now.cleared; values = c.remove.new.self } in
    set_here c.args.self.now c.self.inside.cells c.args.name.now (cell_without (Absent c.args.name.now c.args.value.now)) c.self.view_is
    (c.get_mut.follows.lender next) c.in-Some.cell.now next c.in-Some.ensures.value
    ((c.get_mut.follows.holds next).3 (rw (← c.in-Some.ensures.value) refl)).0
    (ap (λ values. some_cell (record { cleared = c.in-Some.cell.now.cleared; values = values })) (sym c.remove.ensures.after)
    ∙ ap (λ b. if b then None else Some next) (sym c.is_empty.ensures ∙ c.if-is_empty.false))

pub returns-in_default : goal.returns-in_default
returns-in_default c =
    none_here c.args.self.now c.self.inside.cells c.args.name.now (cell_without (Absent c.args.name.now c.args.value.now)) c.self.view_is
    c.get_mut.follows.lender-at-none c.in_default.ensures.value c.get_mut.follows.holds-at-none
