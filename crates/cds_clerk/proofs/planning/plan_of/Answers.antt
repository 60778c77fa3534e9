use Rattle.std.proofs.Common.{◌≡◌, true}
use Rattle.std.specs.Prelude.{None}
use Rattle.resolver.specs.Readers.{Reader}
use Rattle.resolver.specs.Walks.{Ends}
use Rattle.cds_clerk.specs.Agreements.{Agrees}
use Rattle.cds_clerk.specs.Heards.{IsUnheard, heard_root}
use Rattle.cds_clerk.specs.Inquirings.{IsAtName}
use Rattle.cds_clerk.specs.Plans.{name_of}
use Rattle.cds_clerk.specs.Readings.{least_reader}
use Rattle.cds_clerk.proofs.HeardLaws.{ended_shown, if_ended, least_agrees}
use Rattle.cds_clerk.proofs.PlanLaws.{has_root, misses_none}
use Rattle.cds_clerk.proofs.planning.plan_of.Goals as goal

pub plan_at-requires-clause-shown : goal.plan_at-requires-clause-shown
plan_at-requires-clause-shown c =
    let h = c.args.heard.now in
    let name = c.name.result.now in
    let done = if_ended c.in_ok-end.field-0 c.in-Ended.end (λ e. (r : Reader) → Agrees r h → Ends r true name e) c.in-Ended.is c.in_ok-end.ensures.done in
    ended_shown h true c.in-Ended.end (c.ends_are_seen.ensures (least_reader h) true name c.in-Ended.end (done (least_reader h) (least_agrees h)))

pub returns-in-Ended-clause-asks : goal.returns-in-Ended-clause-asks
returns-in-Ended-clause-asks c = misses_none c.plan_at.result (IsUnheard c.args.heard.now) c.plan_at.ensures.known

pub returns-in-Ended-clause-needs : goal.returns-in-Ended-clause-needs
returns-in-Ended-clause-needs c = misses_none c.plan_at.result (IsAtName c.args.heard.now (name_of c.args.plan.now)) c.plan_at.ensures.known

pub returns-in-Ended-clause-root : goal.returns-in-Ended-clause-root
returns-in-Ended-clause-root c = has_root c.plan_at.result (heard_root c.args.heard.now.root ≡ None) c.plan_at.ensures.known
