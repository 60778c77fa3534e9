use Rattle.std.proofs.Common.{◌≡◌, ◌∙◌, ap, refl, subst, sym}
use Rattle.std.specs.Prelude.{OnOk}
use Rattle.directory.specs.Updates.{change_of}
use Rattle.clearinghouse.specs.HouseLetters.{posts_at}
use Rattle.clearinghouse.specs.HouseUpdates.{PostsUpdate}
use Rattle.clearinghouse.proofs.Houses.{heed_lawful}
use Rattle.clearinghouse.proofs.house.Clearinghouse.accept.Goals as goal

pub returns-in_err-posted-clause-kept : goal.returns-in_err-posted-clause-kept
returns-in_err-posted-clause-kept c = λ lawful.
    heed_lawful c.accept_update.new.self c.posted.new.self c.posted.result c.posted.result refl c.posted.ensures.heeds (c.accept_update.ensures.kept lawful)

pub returns-in-Ok-clause-kept : goal.returns-in-Ok-clause-kept
returns-in-Ok-clause-kept c = λ lawful.
    heed_lawful c.accept_update.new.self c.posted.new.self c.posted.result c.posted.result refl c.posted.ensures.heeds (c.accept_update.ensures.kept lawful)

pub returns-clause-kept : goal.returns-clause-kept
returns-clause-kept c = λ lawful.
    heed_lawful c.accept_update.new.self c.posted.new.self c.posted.result c.posted.result refl c.posted.ensures.heeds (c.accept_update.ensures.kept lawful)

pub returns-in-Ok-clause-takes : goal.returns-in-Ok-clause-takes
returns-in-Ok-clause-takes c =
    let mid = c.accept_update.new.self in
    let u = change_of c.args.update.now in
    let outgoing = c.in_ok-answer.field-0.outgoing in
    let stays : c.posted.new.self ≡ mid = subst (λ r. OnOk r (c.posted.new.self ≡ mid)) c.in_ok-posted.was c.posted.ensures.heeds.same in
    subst (λ x. PostsUpdate c.args.dir u c.in-Ok.stamp c.args.self.now x c.in_ok-posted.posted) (sym stays)
    (record {
      outgoing = outgoing;
      takes = rw c.in-Ok.is at c.in_ok-answer.ensures.takes;
      posts = c.in_ok-posted.ensures.posts ∙ ap (posts_at mid c.args.dir) c.as_ref.ensures.value;
    })
