use Rattle.house_program.proofs.ProcessLemmas.{lived_house}
use Rattle.house_program.proofs.running.run.Goals as goal

pub returns-in-Ok-clause-house : goal.returns-in-Ok-clause-house
returns-in-Ok-clause-house g c = lived_house _ _ _ _ _ _ c.process.ensures.lived

pub returns-in-Ok-2-clause-house : goal.returns-in-Ok-2-clause-house
returns-in-Ok-2-clause-house g c = lived_house _ _ _ _ _ _ c.process.ensures.lived
