use Rattle.directory.proofs.IndexLaws.{settled, known_still}
use Rattle.directory.proofs.LaterLaws.{back_to_old}
use Rattle.directory.proofs.later.take_later.Goals as goal

pub returns-in-Err-clause-err : goal.returns-in-Err-clause-err
returns-in-Err-clause-err c =
    back_to_old c.args.entries.now c.take_each.new.entries c.take_back.new.self c.new-log.result.items c.take_each.new.log.items c.new-log.ensures.items
    c.in-Err.ensures.logged.back c.take_back.ensures

pub returns-in-Err-clause-index : goal.returns-in-Err-clause-index
returns-in-Err-clause-index c = λ i.
    let m = c.args.entries.now in
    let y = c.take_each.new.deletions in
    let n = c.take_back.new.self in
    settled y c.settle.new.self n
    (known_still c.args.deletions.now y m n c.in-Err.ensures.logged.keeps i
    (back_to_old m c.take_each.new.entries n c.new-log.result.items c.take_each.new.log.items c.new-log.ensures.items c.in-Err.ensures.logged.back
    c.take_back.ensures))
    c.settle.ensures.all c.settle.ensures.first c.settle.ensures.settled

pub returns-clause-index : goal.returns-clause-index
returns-clause-index c = λ i.
    settled c.take_each.new.deletions c.settle-2.new.self c.take_each.new.entries
    (c.in_default.ensures.knows c.requires (record { valid = i.valid; all = i.all }))
    c.settle-2.ensures.all c.settle-2.ensures.first c.settle-2.ensures.settled
