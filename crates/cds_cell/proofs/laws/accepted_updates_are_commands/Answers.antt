use Rattle.cds_cell.proofs.AcceptedUpdates.{accepting_commands, accepting_counts}
use Rattle.cds_cell.proofs.laws.accepted_updates_are_commands.Goals as goal

pub returns-clause-cells : goal.returns-clause-cells
returns-clause-cells c g h d us reached up = (accepting_commands us g h d reached up).are.cells

pub returns-clause-stamped : goal.returns-clause-stamped
returns-clause-stamped c g h d us reached up = (accepting_commands us g h d reached up).are.stamped

pub returns-clause-posted : goal.returns-clause-posted
returns-clause-posted c g h d us reached up = (accepting_commands us g h d reached up).are.posted

pub returns-clause-all : goal.returns-clause-all
returns-clause-all c g h d us = accepting_counts us g h d
