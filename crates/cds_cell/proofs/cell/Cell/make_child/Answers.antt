use Rattle.std.proofs.Common.{◌≡◌, ◌∙◌, ◌+◌, ◌≤◌, ap, arith, sym}
use Rattle.std.specs.Prelude.{length}
use Rattle.cds_stamps.specs.Members.{master_of, members_of}
use Rattle.directory.specs.Updates.{change_of}
use Rattle.cell_model.specs.Steps.{at_house}
use Rattle.cell_model.specs.Turns.{accept}
use Rattle.cds_cell.proofs.Children.{child_acted, child_made, child_refused, founds_after}
use Rattle.cds_cell.proofs.cell.Cell.make_child.Goals as goal

pub returns-in_ok-found-in-Ok-clause-step : goal.returns-in_ok-found-in-Ok-clause-step
returns-in_ok-found-in-Ok-clause-step c g x s place up apart next can =
    let u = change_of c.args.update.now in
    let acted = child_acted c.args.self.now c.accept_at.new.self g x c.args.at c.args.dir.0 (change_of c.args.update.now) c.args.child
    (members_of c.args.members)
    c.new-serials.result c.accept_at.new.serials c.in_ok-stamp.field-0 s place up c.new-serials.ensures (c.in_ok-stamp.ensures.acts (g.house x)) in
    let low : 1 ≤ c.args.child.0 = omega (arith, next) in
    let count : c.args.child.0 ≡ length c.accept_at.new.self.directories.items + 1 =
    next ∙ ap (λ v. length v.items + 1) (sym c.in_ok-stamp.ensures.rest.directories) in
    child_made c.args.self.now c.accept_at.new.self g x c.args.at c.args.dir.0 (change_of c.args.update.now) c.args.child
    (members_of c.args.members)
    c.new-serials.result c.accept_at.new.serials c.in_ok-stamp.field-0 s place up c.new-serials.ensures (c.in_ok-stamp.ensures.acts (g.house x))
    c.found.new.self c.in-Ok.stamp c.found.new.serials c.in-Ok.is low
    (c.in_ok-found-in-Ok.ensures.founds (at_house g x (accept x (g.house x) c.args.dir.0 u)).cell acted.stands
    (founds_after g x c.args.dir.0 c.args.child.0 (master_of (members_of c.args.members)) u apart can) count)

pub returns-in-Err-clause-step : goal.returns-in-Err-clause-step
returns-in-Err-clause-step c g x s place up apart next can =
    child_refused c.args.self.now c.accept_at.new.self g x c.args.at c.args.dir.0 (change_of c.args.update.now) c.args.child
    (members_of c.args.members)
    c.new-serials.result c.accept_at.new.serials c.in_ok-stamp.field-0 s place up c.new-serials.ensures (c.in_ok-stamp.ensures.acts (g.house x))
    c.in-Err.refusal c.refusal_in_script.result c.in-Err.is c.refusal_in_script.ensures
