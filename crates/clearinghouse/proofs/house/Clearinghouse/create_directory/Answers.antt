use Rattle.std.proofs.Common.{refl}
use Rattle.clearinghouse.proofs.Houses.{heed_lawful}
use Rattle.clearinghouse.proofs.house.Clearinghouse.create_directory.Goals as goal

pub returns-clause-kept : goal.returns-clause-kept
returns-clause-kept c = λ lawful.
    heed_lawful c.found.new.self c.posted.new.self c.posted.result c.posted.result refl c.posted.ensures.heeds (c.found.ensures.kept lawful)
