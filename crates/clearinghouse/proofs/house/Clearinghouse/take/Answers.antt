use Rattle.std.proofs.Common.{◌≡◌, ◌∙◌, ap, refl, subst, sym}
use Rattle.std.specs.Prelude.{OnOk}
use Rattle.clearinghouse.specs.HouseLetters.{posts_at}
use Rattle.clearinghouse.specs.HouseTakes.{TakesPosting}
use Rattle.clearinghouse.proofs.Houses.{heed_lawful}
use Rattle.clearinghouse.proofs.house.Clearinghouse.take.Goals as goal

pub returns-in_err-posted-clause-kept : goal.returns-in_err-posted-clause-kept
returns-in_err-posted-clause-kept c valid lawful =
    heed_lawful c.take_message.new.self c.posted.new.self c.posted.result c.posted.result refl c.posted.ensures.heeds (c.take_message.ensures.kept valid lawful)

pub returns-clause-kept : goal.returns-clause-kept
returns-clause-kept c valid lawful =
    heed_lawful c.take_message.new.self c.posted.new.self c.posted.result c.posted.result refl c.posted.ensures.heeds (c.take_message.ensures.kept valid lawful)

pub returns-clause-does : goal.returns-clause-does
returns-clause-does c =
    let mid = c.take_message.new.self in
    let turn = c.in_ok-turn.turn in
    let stays : c.posted.new.self ≡ mid = subst (λ r. OnOk r (c.posted.new.self ≡ mid)) c.in_ok-posted.was c.posted.ensures.heeds.same in
    let posts : c.in_ok-posted.posted ≡ posts_at mid c.args.message.now.dir turn.outgoing =
    c.in_ok-posted.ensures.posts ∙ ap (posts_at mid c.args.message.now.dir) c.as_ref.ensures.value in
    subst (λ x. TakesPosting c.args.message.now c.args.self.now x turn.answer c.in_ok-posted.posted) (sym stays)
    (record { outgoing = turn.outgoing; takes = c.in_ok-turn.ensures.does; posts = posts })
