use Rattle.std.proofs.Common.{◌≡◌, subst}
use Rattle.clearinghouse.specs.declared.house.Clearinghouse.{Clearinghouse}
use Rattle.house_lines.specs.declared.line.HouseOrder.TheVariants as order
use Rattle.house_turns.specs.HouseReplies.{take_line}
use Rattle.house_turns.specs.PrivateTurns.{Does}
use Rattle.house_turns.proofs.Replies.{take_replied}
use Rattle.house_turns.proofs.house.House.take_whole.Goals as goal

pub returns-in-None : goal.returns-in-None
returns-in-None c home some none = absurd (cc (some, c.in-None.is))

pub returns : goal.returns
returns c home some none =
    let same : c.in-Some.home ≡ home = cc (some, c.in-Some.is) in
    let clock = c.args.self.now.clock in
    take_replied c.reply.result c.args.self.now c.args.number (take_line c.args.octets.now) c.args.octets.now home c.take.new.home c.in_ok-said-in-Some.said c.reply.new.self
    some none
    (subst (λ (k : Clearinghouse). Does c.args.number k c.take.new.home clock (order.Take c.args.octets.now) c.in_ok-said-in-Some.said) same (c.in_ok-said-in-Some.ensures clock))
    (rw (c.deref.ensures.value, c.in_ok-line.ensures) at c.reply.ensures)
