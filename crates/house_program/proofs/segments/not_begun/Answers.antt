use Rattle.house_program.proofs.CauseLemmas.{begun_failed}
use Rattle.house_program.proofs.segments.not_begun.Goals as goal

pub take_back-requires-clause-failed : goal.take_back-requires-clause-failed
take_back-requires-clause-failed g c = begun_failed _ _ _ c.requires.cause c.is_of_disk.ensures
