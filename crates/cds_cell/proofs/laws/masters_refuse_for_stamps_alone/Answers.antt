use Rattle.cds_cell.proofs.AcceptedUpdates.{accepting_refuses}
use Rattle.cds_cell.proofs.laws.masters_refuse_for_stamps_alone.Goals as goal

pub returns : goal.returns
returns c g h d r us reached up held master accepted = accepting_refuses us g h d r reached up held master accepted
