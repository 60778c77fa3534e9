-- By the theorems over whole runs.
use Rattle.cell_model.specs.Holdings.{HistoriesHold, MembersHold, NumbersHold}
use Rattle.cell_model.proofs.Standing.{on_reached, histories_lem, members_lem}
use Rattle.cell_model.proofs.Numbers.{numbers_lem}
use Rattle.cell_model.proofs.laws.holdings.Goals as goal

pub returns-clause-histories : goal.returns-clause-histories
returns-clause-histories c = λ g r. on_reached HistoriesHold histories_lem g r

pub returns-clause-members : goal.returns-clause-members
returns-clause-members c = λ g r. on_reached MembersHold members_lem g r

pub returns-clause-numbers : goal.returns-clause-numbers
returns-clause-numbers c = λ g r. on_reached NumbersHold numbers_lem g r
