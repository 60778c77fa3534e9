-- By the theorems over whole runs.
use Rattle.cell_model.proofs.FloorTimes.{floors_lem, rises_lem}
use Rattle.cell_model.proofs.Stamping.{issues_above_lem, issues_once_lem}
use Rattle.cell_model.proofs.laws.floors.Goals as goal

pub returns-clause-held : goal.returns-clause-held
returns-clause-held c = λ commands. floors_lem commands

pub returns-clause-rise : goal.returns-clause-rise
returns-clause-rise c = λ commands d. rises_lem commands d

pub returns-clause-above : goal.returns-clause-above
returns-clause-above c = λ commands d. issues_above_lem commands d

pub returns-clause-once : goal.returns-clause-once
returns-clause-once c = λ commands. issues_once_lem commands
