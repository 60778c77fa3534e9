use Rattle.std.proofs.Common.{[], Ok, refl, ap, sym, ◌∙◌}
use Rattle.clearinghouse.proofs.Houses.{heed_lawful, posted_step}
use Rattle.std.specs.FinMap as map
use Rattle.clearinghouse.specs.HouseLetters.{sender_of}
use Rattle.house_directory.proofs.Posts.{posts_none}
use Rattle.clearinghouse.proofs.Posts.{completed_posts}
use Rattle.clearinghouse.proofs.house.Clearinghouse.start_skulk.Goals as goal

pub returns-in_err-posted-clause-kept : goal.returns-in_err-posted-clause-kept
returns-in_err-posted-clause-kept c = λ lawful.
    heed_lawful c.begin_skulk.new.self c.posted.new.self c.posted.result c.posted.result refl c.posted.ensures.heeds (c.begin_skulk.ensures.kept lawful)

pub returns-in-Ok-Started-clause-kept : goal.returns-in-Ok-Started-clause-kept
returns-in-Ok-Started-clause-kept c = λ lawful.
    heed_lawful c.begin_skulk.new.self c.posted.new.self c.posted.result c.posted.result refl c.posted.ensures.heeds (c.begin_skulk.ensures.kept lawful)

pub returns-in-Ok-Complete-clause-kept : goal.returns-in-Ok-Complete-clause-kept
returns-in-Ok-Complete-clause-kept c = λ lawful.
    heed_lawful c.begin_skulk.new.self c.posted.new.self c.posted.result c.posted.result refl c.posted.ensures.heeds (c.begin_skulk.ensures.kept lawful)

pub returns-in-Ok-Complete-clause-step : goal.returns-in-Ok-Complete-clause-step
returns-in-Ok-Complete-clause-step c = λ now stands ticks.
    posted_step _ _ c.args.self.now c.begin_skulk.new.self c.posted.new.self _ [] c.posted.result c.in_ok-posted.posted c.in_ok-posted.was
    c.posted.ensures.heeds
    (completed_posts c.begin_skulk.new.self c.args.dir c.in_ok-answer.field-0.answer c.in-Ok-Complete.t c.in_ok-answer.field-0.outgoing
    (c.in-Ok-Complete.is ∙ ap Ok c.in-Ok-Complete.field-0-is) c.in_ok-answer.ensures.posts)
    (rw (c.in-Ok-Complete.is, c.in-Ok-Complete.field-0-is) at c.in_ok-answer.ensures.step now stands ticks)

pub returns-clause-kept : goal.returns-clause-kept
returns-clause-kept c = λ lawful.
    heed_lawful c.begin_skulk.new.self c.posted.new.self c.posted.result c.posted.result refl c.posted.ensures.heeds (c.begin_skulk.ensures.kept lawful)

pub returns-in-Ok-Complete-clause-posts : goal.returns-in-Ok-Complete-clause-posts
returns-in-Ok-Complete-clause-posts c =
    sym (posts_none (sender_of c.posted.new.self c.args.dir) (map.get c.posted.new.self.dirs c.args.dir))

pub returns-clause-posts : goal.returns-clause-posts
returns-clause-posts c =
    sym (posts_none (sender_of c.posted.new.self c.args.dir) (map.get c.posted.new.self.dirs c.args.dir))
