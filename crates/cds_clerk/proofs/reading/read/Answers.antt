use Rattle.std.proofs.Common.{true}
use Rattle.resolver.specs.Readers.{Reader}
use Rattle.resolver.specs.Walks.{Ends}
use Rattle.cds_clerk.specs.Agreements.{Agrees}
use Rattle.cds_clerk.specs.Readings.{least_reader}
use Rattle.cds_clerk.proofs.HeardLaws.{ended_shown, if_ended, least_agrees, read_so}
use Rattle.cds_clerk.proofs.reading.read.Goals as goal

pub read_at-requires : goal.read_at-requires
read_at-requires c =
    let h = c.args.heard.now in
    let name = c.args.name.now in
    let done = if_ended c.in_ok-end.field-0 c.in-Ended.end (λ e. (r : Reader) → Agrees r h → Ends r true name e) c.in-Ended.is c.in_ok-end.ensures.done in
    ended_shown h true c.in-Ended.end (c.ends_are_seen.ensures (least_reader h) true name c.in-Ended.end (done (least_reader h) (least_agrees h)))

pub returns-in_ok-read_at-in-Ended-clause-done : goal.returns-in_ok-read_at-in-Ended-clause-done
returns-in_ok-read_at-in-Ended-clause-done c = λ r agrees.
    let h = c.args.heard.now in
    let name = c.args.name.now in
    let done = if_ended c.in_ok-end.field-0 c.in-Ended.end (λ e. (r : Reader) → Agrees r h → Ends r true name e) c.in-Ended.is c.in_ok-end.ensures.done in
    read_so r c.args.attr.now name c.in-Ended.end c.in_ok-read_at-in-Ended.field-0 (done r agrees) (c.in_ok-read_at-in-Ended.ensures r agrees)
