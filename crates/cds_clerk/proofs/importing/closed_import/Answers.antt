use Rattle.std.proofs.Common.{◌∙◌}
use Rattle.resolver.proofs.PassLaws.{if_ok}
use Rattle.cds_clerk.specs.HeardProofs.{least_shows_only, told_objects}
use Rattle.cds_clerk.proofs.ClosedLaws.{answers_alike}
use Rattle.cds_clerk.proofs.importing.closed_import.Goals as goal

pub returns : goal.returns
returns c =
    let h = c.args.heard.now in
    let mine = told_objects h.answers in
    if_ok c.import.result (λ a is r objects agrees shows. is
    ∙ answers_alike h c.args.wanted c.args.name.now c.requires.0 c.requires.1 r agrees objects mine shows (least_shows_only h)) (c.import.ensures mine (least_shows_only h))
