use Rattle.std.proofs.Common.{true, ◌∙◌}
use Rattle.resolver.proofs.PassLaws.{if_ok}
use Rattle.cds_clerk.specs.Readings.{least_reader}
use Rattle.cds_clerk.proofs.HeardLaws.{least_agrees}
use Rattle.cds_clerk.proofs.InquiryLaws.{listed_alike}
use Rattle.cds_clerk.proofs.inquiring.list_at.Goals as goal

pub returns : goal.returns
returns c =
    let h = c.args.heard.now in
    let name = c.args.name.now in
    let mine = least_reader h in
    let seen = c.ends_are_seen.ensures mine true name c.requires.end (c.requires.walked mine (least_agrees h)) in
    if_ok c.answer.result (λ a is r agrees. is ∙ listed_alike h name c.requires seen r agrees c.args.listing.now) c.answer.ensures
