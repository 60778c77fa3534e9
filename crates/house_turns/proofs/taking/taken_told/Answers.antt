use Rattle.house_turns.proofs.taking.taken_told.Goals as goal

pub returns-in-Taken : goal.returns-in-Taken
returns-in-Taken c = rw c.in-Taken.is (rw c.new.ensures at c.turned.ensures c.args.number)

pub returns-in-Complete : goal.returns-in-Complete
returns-in-Complete c = rw c.in-Complete.is (rw c.new-in-Complete.ensures at c.turned-in-Complete.ensures c.args.number)
