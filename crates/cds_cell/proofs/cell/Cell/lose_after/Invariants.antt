use Rattle.cds_cell.proofs.Losses.{AreLost}
use Rattle.cds_cell.proofs.cell.Cell.lose_after.Given as goal

abbrev pub invariant-messages : goal.invariant-messages
invariant-messages l = AreLost l.fn.self l.self l.fn.kept l.lost
