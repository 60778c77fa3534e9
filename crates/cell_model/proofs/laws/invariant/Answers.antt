-- By the theorems over whole runs.
use Rattle.cell_model.proofs.Provenances.{provenance_lem}
use Rattle.cell_model.proofs.GatheringRuns.{gathering_lem}
use Rattle.cell_model.proofs.SpreadingRuns.{second_lem, spreading_lem, completed_lem, at_once_lem}
use Rattle.cell_model.proofs.Advances.{advances_lem}
use Rattle.cell_model.proofs.laws.invariant.Goals as goal

pub returns-clause-provenance : goal.returns-clause-provenance
returns-clause-provenance c = λ commands d. provenance_lem commands d

pub returns-clause-gathering : goal.returns-clause-gathering
returns-clause-gathering c = λ commands. gathering_lem commands

pub returns-clause-second : goal.returns-clause-second
returns-clause-second c = λ commands. second_lem commands

pub returns-clause-spreading : goal.returns-clause-spreading
returns-clause-spreading c = λ commands. spreading_lem commands

pub returns-clause-completed : goal.returns-clause-completed
returns-clause-completed c = λ commands. completed_lem commands

pub returns-clause-at_once : goal.returns-clause-at_once
returns-clause-at_once c = λ commands. at_once_lem commands

pub returns-clause-advances : goal.returns-clause-advances
returns-clause-advances c = λ commands. advances_lem commands
