use Rattle.std.proofs.Common.{arith, refl}
use Rattle.cds_cell.proofs.Bags.{all_gone, gone_more, none_gone}
use Rattle.cds_cell.proofs.bag.Bag.take_back.Goals as goal

pub messages-init : goal.messages-init
messages-init c = none_gone c.args.self.now c.args.kept

pub messages-preserved : goal.messages-preserved
messages-preserved c =
    gone_more c.args.self.now c.messages.self _ c.args.kept c.messages.lost c.messages.invariant (omega arith) (omega arith)
    c.lose.ensures.posted c.lose.ensures.letters

pub returns : goal.returns
returns c =
    all_gone c.args.self.now c.messages.self (record { letters = c.messages.self.letters; posted = c.min-self.result }) c.args.kept c.messages.lost c.messages.invariant (omega arith) (omega arith)
    c.min-self.ensures (λ q. refl)
