use Rattle.directory.specs.Shown.{shown_in}
use Rattle.directory.specs.Updates.{change_of, changed_name}
use Rattle.directory.proofs.IndexLaws.{index_same, settled, known_still, known_update, on_answer}
use Rattle.directory.proofs.TouchedLaws.{update_spares, begins_beside, nothing_changed}
use Rattle.directory.proofs.table.tell_update.Goals as goal

pub returns-clause-index : goal.returns-clause-index
returns-clause-index c = λ i.
    let x = c.args.deletions.now in
    let y = c.add_update.new.self in
    let m = c.args.entries.now in
    let n = c.accept_told-answer.new.self in
    let u = change_of c.args.update.now in
    settled y c.settle_after.new.self n
    (on_answer c.accept_told-answer.result c.accept_told-answer.ensures.ok c.accept_told-answer.ensures.refused c.accept_told-answer.ensures.err
    (known_update x y m n c.add_update.ensures.adds.0 i (shown_in m (changed_name u)) u c.args.stamp c.in_ok-add_update.ensures.ok)
    (known_still x y m n c.add_update.ensures.adds.0 i))
    c.settle_after.ensures.all
    (c.settle_after.ensures.first (begins_beside x y m n u c.args.stamp c.add_update.ensures.adds
    (on_answer c.accept_told-answer.result c.accept_told-answer.ensures.ok c.accept_told-answer.ensures.refused c.accept_told-answer.ensures.err
    (update_spares m n u c.args.stamp i.valid c.accept_told-answer.ensures.others)
    (nothing_changed m n u))
    i))
    c.settle_after.ensures.settled

pub returns-in_err-add_update-clause-index : goal.returns-in_err-add_update-clause-index
returns-in_err-add_update-clause-index c =
    index_same c.args.deletions.now c.add_update.new.self c.args.entries.now c.in_err-add_update.ensures.err c.in_err-add_update.ensures.same
    c.add_update.ensures.room
