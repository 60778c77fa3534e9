use Rattle.std.proofs.Common.{◌++◌}
use Rattle.house_turns.specs.declared.house.House.{House}
use Rattle.house_turns.proofs.Replies.{few_by, gathered_all, gathered_none, many_by, more_kept, more_refused}
use Rattle.house_turns.proofs.house.House.take_more.Goals as goal

pub returns-then-not-branch : goal.returns-then-not-branch
returns-then-not-branch c =
    let h : House = c.args.self.now in
    let gathered = rw c.list.ensures at c.in_ok-gather.ensures in
    more_refused c.reply.result h c.gather.new.self c.reply.new.self c.args.number c.args.octets.now c.in_ok-said.said
    (many_by _ _ gathered.fits c.if-not-branch.true) (gathered_none h c.gather.new.self (h.more ++ c.args.octets.now) _ gathered.after c.if-not-branch.true)
    c.in_ok-said.ensures c.reply.ensures

pub returns : goal.returns
returns c =
    let h : House = c.args.self.now in
    let gathered = rw c.list.ensures at c.in_ok-gather.ensures in
    more_kept c.reply-2.result h c.gather.new.self c.reply-2.new.self c.args.number c.args.octets.now c.in_ok-said-2.said
    (few_by _ _ gathered.fits c.if-not-branch.false) (gathered_all h c.gather.new.self (h.more ++ c.args.octets.now) _ gathered.after c.if-not-branch.false)
    c.in_ok-said-2.ensures c.reply-2.ensures
