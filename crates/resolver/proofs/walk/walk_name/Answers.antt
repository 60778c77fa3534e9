use Rattle.std.proofs.Common.{ap, sym, ◌∙◌}
use Rattle.std.specs.Option.{option_map}
use Rattle.cell_names.specs.ChildPointers.{pointer_in}
use Rattle.resolver.proofs.PassLaws.{empty_walk, rootless_walk}
use Rattle.resolver.proofs.walk.walk_name.Goals as goal

pub returns-then-len-eq0-clause-ends : goal.returns-then-len-eq0-clause-ends
returns-then-len-eq0-clause-ends g c = empty_walk c.args.name.now (sym c.len.ensures ∙ c.if-len-eq0.true)

pub returns-in-None-clause-ends : goal.returns-in-None-clause-ends
returns-in-None-clause-ends g c = rootless_walk c.args.name.now (λ empty. c.if-len-eq0.false (c.len.ensures ∙ empty)) (sym c.in_ok-root.ensures
    ∙ ap (option_map pointer_in) c.in-None.is)
