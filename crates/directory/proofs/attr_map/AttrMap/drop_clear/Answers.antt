use Rattle.std.proofs.Common.{◌∙◌, Some, None, ap, sym, refl}
use Rattle.std.specs.Prelude.{if◌then◌else◌}
use Rattle.attr_sets.specs.declared.cell.AttrCell.{AttrCell}
use Rattle.directory.specs.Deletions.{cell_without}
use Rattle.directory.specs.declared.deletions.What.TheVariants.{Clear}
use Rattle.directory.proofs.Dropping.{set_here, gone_here, none_here}
use Rattle.directory.proofs.attr_map.AttrMap.drop_clear.Goals.{in-Some-1, in-None-1}
use Rattle.directory.proofs.attr_map.AttrMap.drop_clear.Goals as goal

pub returns-then-is_empty : goal.returns-then-is_empty
returns-then-is_empty c =
    let next : AttrCell = record { cleared = None; values = c.in-Some.cell.now.values } in
    let gone = gone_here c.args.self.now c.self.inside.cells c.args.name.now (cell_without (Clear c.args.name.now)) c.self.view_is
    (c.get_mut.follows.lender next) c.remove.new.self c.in-Some.cell.now next c.in-Some.ensures.value
    ((c.get_mut.follows.holds next).3 (rw (← c.in-Some.ensures.value) refl)).0 c.remove.ensures.updates.0
    (ap (λ b. if b then None else Some next) (sym c.is_empty.ensures ∙ c.if-is_empty.true)) in
    elim c.match-remove.branch [ in-Some-1 w ↦ w.self-is ∙ gone | in-None-1 w ↦ w.self-is ∙ gone ]

pub returns-else-is_empty : goal.returns-else-is_empty
returns-else-is_empty c =
    let next : AttrCell = record { cleared = None; values = c.in-Some.cell.now.values } in
    set_here c.args.self.now c.self.inside.cells c.args.name.now (cell_without (Clear c.args.name.now)) c.self.view_is
    (c.get_mut.follows.lender next) c.in-Some.cell.now next c.in-Some.ensures.value
    ((c.get_mut.follows.holds next).3 (rw (← c.in-Some.ensures.value) refl)).0
    (ap (λ b. if b then None else Some next) (sym c.is_empty.ensures ∙ c.if-is_empty.false))

pub returns-in_default : goal.returns-in_default
returns-in_default c =
    none_here c.args.self.now c.self.inside.cells c.args.name.now (cell_without (Clear c.args.name.now)) c.self.view_is
    c.get_mut.follows.lender-at-none c.in_default.ensures.value c.get_mut.follows.holds-at-none
