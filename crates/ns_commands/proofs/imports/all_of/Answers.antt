use Rattle.std.proofs.Common.{◌≡◌, List, [], ◌++◌, ap, sym, subst, ◌∙◌}
use Rattle.tower_codec.specs.declared.binding.StringBinding.{StringBinding}
use Rattle.ns_commands.proofs.Bindings.{Given, Gives, all_given, fewer_left, given_more}
use Rattle.ns_commands.proofs.imports.all_of.Goals as goal

pub loop-bindings-init : goal.loop-bindings-init
loop-bindings-init g c = λ all is. (all, is, ap (λ (given : List StringBinding). given ++ all) c.new-bindings.ensures)

pub loop-bindings-smaller : goal.loop-bindings-smaller
loop-bindings-smaller g c =
    fewer_left c.loop-bindings.importer c.next.new.self c.in-Some.binding c.in_ok-binding.ensures.call.usable
    (subst (Gives c.loop-bindings.importer c.next.new.self) c.in-Some.is c.in_ok-binding.ensures.next)

pub loop-bindings-preserved : goal.loop-bindings-preserved
loop-bindings-preserved g c =
    subst (Given c.args.importer.now c.next.new.self) (sym c.in_ok-push.ensures.ok)
    (given_more c.args.importer.now c.loop-bindings.importer c.next.new.self c.loop-bindings.bindings c.in-Some.binding c.loop-bindings.invariant
    (subst (Gives c.loop-bindings.importer c.next.new.self) c.in-Some.is c.in_ok-binding.ensures.next))

pub returns : goal.returns
returns g c = λ left is.
    all_given c.args.importer.now c.loop-bindings.importer c.next.new.self c.loop-bindings.bindings left c.loop-bindings.invariant
    (subst (Gives c.loop-bindings.importer c.next.new.self) c.in_default.is c.in_ok-binding.ensures.next) is
