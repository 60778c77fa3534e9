use Rattle.house_turns.proofs.house.come_to.Goals as goal

pub returns-in-Root : goal.returns-in-Root
returns-in-Root c = rw c.in-Root.is (c.root.ensures c.args.clock)

pub returns-in-Mkdir : goal.returns-in-Mkdir
returns-in-Mkdir c = rw c.in-Mkdir.is c.mkdir.ensures

pub returns-in-Repoint : goal.returns-in-Repoint
returns-in-Repoint c = rw c.in-Repoint.is (rw c.list.ensures at c.repoint.ensures)

pub returns-in-Update : goal.returns-in-Update
returns-in-Update c = rw c.in-Update.is c.update.ensures

pub returns-in-Skulk : goal.returns-in-Skulk
returns-in-Skulk c = rw c.in-Skulk.is c.skulk.ensures

pub returns-in-Epoch : goal.returns-in-Epoch
returns-in-Epoch c = rw c.in-Epoch.is (c.epoch.ensures c.args.clock)

pub returns-in-Take : goal.returns-in-Take
returns-in-Take c = rw c.in-Take.is (rw c.list-in-Take.ensures at c.take.ensures c.args.clock)
