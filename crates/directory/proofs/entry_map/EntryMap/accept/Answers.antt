use Rattle.directory.specs.Updates.{change_of}
use Rattle.directory.proofs.Telling.{accepts_own}
use Rattle.directory.proofs.entry_map.EntryMap.accept.Goals as goal

pub returns-in-Some : goal.returns-in-Some
returns-in-Some c =
    let own = rw c.name.ensures at c.accept_own.ensures in
    accepts_own c.args.self.now c.accept_own.new.self (change_of c.args.update.now) c.in-Some.own c.args.stamp c.in-Some.ensures.own
    c.accept_own.result own
