use Rattle.house_turns.proofs.Replies.{clock_refused, clock_set, none_by, some_by}
use Rattle.house_turns.proofs.house.House.set_clock.Goals as goal

pub returns-then-is_none : goal.returns-then-is_none
returns-then-is_none c =
    clock_refused c.refused.result c.args.number c.args.self.now c.args.time (none_by c.args.self.now.home c.is_none.result c.is_none.ensures c.if-is_none.true)
    c.refused.ensures

pub returns : goal.returns
returns c =
    let home = some_by c.args.self.now.home c.is_none.result c.is_none.ensures c.if-is_none.false in
    clock_set c.told.result c.args.number c.args.self.now c.args.time home.0 home.1 c.told.ensures
