use Rattle.std.proofs.Common.{sym, ◌∙◌}
use Rattle.house_turns.proofs.Replies.{make_made, make_refused}
use Rattle.house_turns.proofs.house.House.make.Goals as goal

pub returns-then-is_some : goal.returns-then-is_some
returns-then-is_some c =
    make_refused c.refused.result c.args.number c.args.self.now c.args.house c.args.node (sym c.is_some.ensures ∙ c.if-is_some.true) c.refused.ensures

pub returns : goal.returns
returns c =
    make_made c.turned.result c.args.number c.args.self.now c.args.house c.args.node c.new.result (sym c.is_some.ensures ∙ c.if-is_some.false) c.new.ensures
    (rw c.none.ensures at c.turned.ensures c.args.number)
