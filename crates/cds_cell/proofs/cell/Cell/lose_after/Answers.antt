use Rattle.std.proofs.Common.{arith, refl}
use Rattle.cds_cell.proofs.Losses.{all_lost, lost_more, none_lost}
use Rattle.cds_cell.proofs.cell.Cell.lose_after.Goals as goal

pub messages-init : goal.messages-init
messages-init c = none_lost c.args.self.now c.args.kept

pub messages-preserved : goal.messages-preserved
messages-preserved c =
    lost_more c.args.self.now c.messages.self _ c.args.kept c.messages.lost c.messages.invariant (omega arith) (omega arith) refl refl refl
    c.lose.ensures.posted c.lose.ensures.letters

pub returns-clause-lost : goal.returns-clause-lost
returns-clause-lost c g s =
    all_lost c.args.self.now c.messages.self c.args.kept c.messages.lost c.messages.invariant (omega arith) (omega arith) g s
