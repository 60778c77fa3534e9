use Rattle.std.proofs.Common.{ap, ◌∙◌}
use Rattle.resolver.proofs.PassLaws.{if_ok}
use Rattle.inquire_forms.specs.Inquired.{in_batches}
use Rattle.cds_clerk.specs.HeardProofs.{least_shows_only, told_objects}
use Rattle.cds_clerk.proofs.ClosedLaws.{imports_listed}
use Rattle.cds_clerk.proofs.inquiring.look_up_closed.Goals as goal

pub returns : goal.returns
returns c =
    let h = c.args.heard.now in
    let mine = told_objects h.answers in
    if_ok c.look_up.result (λ a is r objects agrees shows. is
    ∙ ap (in_batches c.args.most) (imports_listed h c.args.wanted c.args.name.now c.requires.closed.0 c.requires.closed.1 r agrees objects mine shows (least_shows_only h)))
    (c.look_up.ensures mine (least_shows_only h))
