use Rattle.std.proofs.Common.{false}
use Rattle.resolver.specs.Readers.{Reader}
use Rattle.resolver.specs.Walks.{Ends}
use Rattle.cds_clerk.specs.Agreements.{Agrees}
use Rattle.cds_clerk.specs.Readings.{least_reader}
use Rattle.cds_clerk.proofs.HeardLaws.{if_ended, least_agrees}
use Rattle.cds_clerk.proofs.LinkLaws.{ended_led, link_so}
use Rattle.cds_clerk.proofs.linking.read_link.Goals as goal

pub link_at-requires : goal.link_at-requires
link_at-requires c =
    let h = c.args.heard.now in
    let name = c.args.name.now in
    let done = if_ended c.in_ok-end.field-0 c.in-Ended.end (λ e. (r : Reader) → Agrees r h → Ends r false name e) c.in-Ended.is c.in_ok-end.ensures.done in
    ended_led h false c.in-Ended.end (c.ends_are_seen.ensures (least_reader h) false name c.in-Ended.end (done (least_reader h) (least_agrees h)))

pub returns-in_ok-link_at-in-Ended-clause-done : goal.returns-in_ok-link_at-in-Ended-clause-done
returns-in_ok-link_at-in-Ended-clause-done c = λ r agrees.
    let h = c.args.heard.now in
    let name = c.args.name.now in
    let done = if_ended c.in_ok-end.field-0 c.in-Ended.end (λ e. (r : Reader) → Agrees r h → Ends r false name e) c.in-Ended.is c.in_ok-end.ensures.done in
    link_so r false name c.in-Ended.end c.in_ok-link_at-in-Ended.field-0 (done r agrees) (c.in_ok-link_at-in-Ended.ensures r agrees)
