use Rattle.std.proofs.Common.{◌≡◌, sym, ap, ◌∙◌}
use Rattle.std.specs.Result.{result_err}
use Rattle.directory.specs.Shown.{refusal_of, shown_in}
use Rattle.directory.specs.Updates.{change_of, changed_name}
use Rattle.cell_model.proofs.Marks.{stamp_next}
use Rattle.house_directory.proofs.Accepting.{answer_spent, spent_refuses, stamp_accepts, table_refuses}
use Rattle.house_directory.proofs.Maps.{err_unless}
use Rattle.house_directory.proofs.states.Held.accept.Goals as goal

-- why the table refuses the update, if it does
its_refusal : (c : goal.After-refused-in_default)
    → refusal_of (shown_in c.args.self.now.replica.table (changed_name (change_of c.args.update.now))) (change_of c.args.update.now) ≡ c.err-refusal.result
its_refusal c = sym (c.err-refusal.ensures.value ∙ ap result_err c.check.ensures ∙ err_unless _ _)

pub returns-in_default-clause-answer : goal.returns-in_default-clause-answer
returns-in_default-clause-answer c =
    rw (c.refused-in_default.ensures, c.unwrap_or.ensures, sym c.in_default.ensures.stamp)
    (answer_spent c.args.by.house.0 (change_of c.args.update.now) c.args.self.now c.err-refusal.result (sym c.if-not-accepts_from.ensures) (its_refusal c))

pub returns-in_default-clause-step : goal.returns-in_default-clause-step
returns-in_default-clause-step c = λ now dir r at.
    rw (c.refused-in_default.ensures, c.unwrap_or.ensures)
    (spent_refuses c.args.by now dir c.args.floor.now.time (change_of c.args.update.now) r c.args.self.now c.err-refusal.result
    (sym c.if-not-accepts_from.ensures) (its_refusal c) (sym c.in_default.ensures.stamp) at)

pub returns-in-Ok-clause-kept : goal.returns-in-Ok-clause-kept
returns-in-Ok-clause-kept c = λ lawful.
    let above = (stamp_next c.args.by.clock c.args.floor.now.time c.args.by.node c.in-Some.stamp (sym c.in-Some.ensures.stamp)).0 in
    rw c.in-Some.ensures.floor ((rw c.in-Ok.is at c.in_ok-outgoing.ensures.kept) c.args.by.house.0 c.args.floor.now.time lawful above)

pub returns-in-Ok-clause-step : goal.returns-in-Ok-clause-step
returns-in-Ok-clause-step c = λ now dir r at.
    let above = (stamp_next c.args.by.clock c.args.floor.now.time c.args.by.node c.in-Some.stamp (sym c.in-Some.ensures.stamp)).0 in
    let fine = sym (rw c.in-Ok.is at c.in_ok-outgoing.ensures.refusal) in
    let adds = rw c.in-Ok.is at c.in_ok-outgoing.ensures.adds r c.args.floor.now.time at.stands above in
    rw c.in-Some.ensures.floor
    (stamp_accepts c.args.by now dir c.args.floor.now.time (change_of c.args.update.now) r c.args.self.now c.accept_stamped.new.self c.in-Some.stamp
    c.in-Ok.outgoing (sym c.if-not-accepts_from.ensures) fine (sym c.in-Some.ensures.stamp) adds at)

pub returns-in-Err-clause-step : goal.returns-in-Err-clause-step
returns-in-Err-clause-step c = λ now dir r at.
    let why = sym (rw c.in-Err.is at c.in_ok-outgoing.ensures.refusal) in
    let same = rw c.in-Err.is at c.in_ok-outgoing.ensures.refused in
    rw (c.refused-in-Err.ensures, same)
    (table_refuses c.args.by now dir c.args.floor.now.time (change_of c.args.update.now) r c.args.self.now c.in-Err.refusal
    (sym c.if-not-accepts_from.ensures) why at)

pub returns-in-Ok-clause-takes : goal.returns-in-Ok-clause-takes
returns-in-Ok-clause-takes c = (rw c.in-Ok.is at c.in_ok-outgoing.ensures.takes, c.in-Some.ensures.floor)
