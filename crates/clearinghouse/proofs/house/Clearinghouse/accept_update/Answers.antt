use Rattle.clearinghouse.proofs.Houses.{heed_lawful}
use Rattle.clearinghouse.proofs.house.Clearinghouse.accept_update.Goals as goal

pub returns-clause-kept : goal.returns-clause-kept
returns-clause-kept c = λ lawful.
    heed_lawful c.accept_at-done.new.self c.heed.new.self c.accept_at-done.result c.heed.result c.heed.ensures.result c.heed.ensures.heeds
    (c.accept_at-done.ensures.kept lawful)
