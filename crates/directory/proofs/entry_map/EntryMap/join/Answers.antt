use Rattle.directory.proofs.LaterLaws.{back_to_old}
use Rattle.directory.proofs.entry_map.EntryMap.join.Goals as goal

pub returns-in-Err-clause-err : goal.returns-in-Err-clause-err
returns-in-Err-clause-err c =
    back_to_old c.args.self.now c.raise_all.new.self c.take_back.new.self c.new-log.result.items c.raise_all.new.log.items c.new-log.ensures.items
    c.in-Err.ensures.back c.take_back.ensures
