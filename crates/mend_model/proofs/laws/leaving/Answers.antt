-- By the theorem over whole runs.
use Rattle.mend_model.proofs.LeftOut.{leaving_lem}
use Rattle.mend_model.proofs.laws.leaving.Goals as goal

pub returns : goal.returns
returns c = λ commands d hs. leaving_lem commands d hs
