use Rattle.std.proofs.Common.{refl}
use Rattle.clearinghouse.proofs.Houses.{heed_lawful}
use Rattle.clearinghouse.proofs.house.Clearinghouse.new_epoch.Goals as goal

pub returns-in_err-posted-clause-kept : goal.returns-in_err-posted-clause-kept
returns-in_err-posted-clause-kept c = λ lawful.
    heed_lawful c.enter_epoch.new.self c.posted.new.self c.posted.result c.posted.result refl c.posted.ensures.heeds (c.enter_epoch.ensures.kept lawful)

pub returns-in_err-heed-clause-kept : goal.returns-in_err-heed-clause-kept
returns-in_err-heed-clause-kept c = λ lawful.
    heed_lawful c.posted.new.self c.heed.new.self c.post_leaves-leaves.result c.post_leaves-leaves.result refl c.heed.ensures.heeds
    (heed_lawful c.enter_epoch.new.self c.posted.new.self c.posted.result c.posted.result refl c.posted.ensures.heeds (c.enter_epoch.ensures.kept lawful))

pub returns-clause-kept : goal.returns-clause-kept
returns-clause-kept c = λ lawful.
    heed_lawful c.posted.new.self c.heed.new.self c.post_leaves-leaves.result c.post_leaves-leaves.result refl c.heed.ensures.heeds
    (heed_lawful c.enter_epoch.new.self c.posted.new.self c.posted.result c.posted.result refl c.posted.ensures.heeds (c.enter_epoch.ensures.kept lawful))
