-- By the theorems over whole runs.
use Rattle.cell_model.proofs.Mended.{mended_lem, needs_lem}
use Rattle.cell_model.proofs.laws.mending.Goals as goal

pub returns-clause-completes : goal.returns-clause-completes
returns-clause-completes c = λ commands d. mended_lem commands d

pub returns-clause-stamp : goal.returns-clause-stamp
returns-clause-stamp c = λ commands d. needs_lem commands d
