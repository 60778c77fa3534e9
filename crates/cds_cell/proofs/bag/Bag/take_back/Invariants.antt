use Rattle.cds_cell.proofs.Bags.{AreGone}
use Rattle.cds_cell.proofs.bag.Bag.take_back.Given as goal

abbrev pub invariant-messages : goal.invariant-messages
invariant-messages l = AreGone l.fn.self l.self l.fn.kept l.lost
