use Rattle.std.proofs.Common.{◌≡◌, false, None, Some, refl}
use Rattle.cds_explain.specs.PrivateExplainers.{IsNextAt}
use Rattle.cds_explain.proofs.AddingLemmas.{stops_here}
use Rattle.cds_explain.proofs.ExplainerLemmas.{explained_up_to, explained_whole, of_some}
use Rattle.cds_explain.proofs.explainer.Explainer.go_rounds.Goals as goal

pub returns-in_default-clause-whole : goal.returns-in_default-clause-whole
returns-in_default-clause-whole c =
    let now = c.in_ok-went.ensures in
    let none : c.in_ok-went.field-0.stopped ≡ None = cc (c.in_default.is, c.in_ok-went.stopped-is) in
    explained_whole c.go_round.new.self c.args.logs.now now.explained (λ i lt. now.whole none i (c.requires.each i lt))

pub returns-then-not-went-clause-stopped : goal.returns-then-not-went-clause-stopped
returns-then-not-went-clause-stopped c =
    let logs = c.args.logs.now in
    let e = c.go_round.new.self in
    let now = c.in_ok-went.ensures in
    let still : c.in_ok-went.field-0.went ≡ false = cc (c.if-not-went.true, c.in_ok-went.went-is) in
    let is : c.in_ok-went.field-0.stopped ≡ Some c.in-Some.reason = cc (c.in-Some.is, c.in_ok-went.stopped-is) in
    let h = now.explained in
    explained_up_to e logs e.replay.text.items c.in-Some.reason h (stops_here h.cs e.replay e.replay h.has_done refl)
    (of_some (IsNextAt logs e.done.items) c.in_ok-went.field-0.stopped c.in-Some.reason is (now.next still))
