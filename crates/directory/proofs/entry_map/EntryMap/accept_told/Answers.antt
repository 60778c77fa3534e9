use Rattle.directory.specs.Updates.{change_of}
use Rattle.directory.proofs.Telling.{tells_own}
use Rattle.directory.proofs.entry_map.EntryMap.accept_told.Goals as goal

pub returns-in-Some : goal.returns-in-Some
returns-in-Some c =
    let told = rw c.name.ensures at c.tell.ensures in
    tells_own c.args.self.now c.tell.new.self (change_of c.args.update.now) c.in-Some.own c.args.stamp c.in-Some.ensures.own
    c.tell.result told.accepts told.name told.entry
