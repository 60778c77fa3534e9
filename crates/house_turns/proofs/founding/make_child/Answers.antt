use Rattle.std.proofs.Common.{ℕ, ap, refl, subst, sym, ◌∙◌, ◌++◌, Some}
use Rattle.cds_stamps.specs.Members.{members_of}
use Rattle.directory.specs.Updates.{change_of}
use Rattle.cell_model.specs.Turns.{found_directory}
use Rattle.clearinghouse.specs.declared.house.Clearinghouse.{Clearinghouse}
use Rattle.clearinghouse.specs.HouseLetters.{posts_at}
use Rattle.clearinghouse.specs.HouseSteps.{IsTurn}
use Rattle.house_turns.specs.PrivateTurns.{posts_of_letters}
use Rattle.house_turns.proofs.Letters.{maybe_letters, posts_both, same_posts}
use Rattle.house_turns.proofs.Comes.{child_done, child_refused, still_absent}
use Rattle.house_turns.proofs.founding.make_child.Goals as goal

pub found-requires-clause-absent : goal.found-requires-clause-absent
found-requires-clause-absent c =
    still_absent c.args.home.now c.accept_update.new.self c.args.dir c.args.child (change_of c.args.update.now) c.in-Ok.stamp c.in_ok-answer.field-0.outgoing
    (rw c.in-Ok.is at c.in_ok-answer.ensures.takes) c.requires.absent

pub found-requires-clause-master : goal.found-requires-clause-master
found-requires-clause-master c = c.requires.master ∙ ap (λ h. h.0) (sym c.accept_update.ensures.call.house)

pub returns-in-Ok : goal.returns-in-Ok
returns-in-Ok c =
    let old : Clearinghouse = c.args.home.now in
    let mid : Clearinghouse = c.accept_update.new.self in
    let new : Clearinghouse = c.found.new.self in
    let s = c.in-Ok.stamp in
    child_done c.turned.result c.args.number old new c.args.clock c.args.dir (change_of c.args.update.now) c.args.child (members_of c.args.members.now) mid s
    (posts_at mid c.args.dir c.in_ok-answer.field-0.outgoing) (posts_at new c.args.child (Some c.in_ok-joins-in-Ok.joins))
    (posts_of_letters c.in_ok-first-in-Ok.first ++ posts_of_letters c.in_ok-second-in-Ok.second)
    (rw c.new.ensures at c.turned.ensures c.args.number)
    (λ now stands ticks. rw c.in-Ok.is at c.in_ok-answer.ensures.step now stands ticks)
    (λ now stands.
    subst
    (λ (x : ℕ). IsTurn (found_directory x now c.args.child.0 (members_of c.args.members.now)) new (posts_at new c.args.child (Some c.in_ok-joins-in-Ok.joins)))
    (ap (λ h. h.0) c.accept_update.ensures.call.house) (c.in_ok-joins-in-Ok.ensures.step now stands))
    (posts_both (posts_of_letters c.in_ok-first-in-Ok.first) (posts_of_letters c.in_ok-second-in-Ok.second) (posts_at mid c.args.dir c.in_ok-answer.field-0.outgoing)
    (posts_at new c.args.child (Some c.in_ok-joins-in-Ok.joins))
    (same_posts _ _ _ _ refl (ap (posts_at mid c.args.dir) c.as_ref.ensures.value) c.in_ok-first-in-Ok.ensures)
    (maybe_letters c.in_ok-second-in-Ok.second (posts_at new c.args.child (Some c.in_ok-joins-in-Ok.joins)) c.in_ok-second-in-Ok.ensures.posts))
    (c.found.ensures.call.house ∙ c.accept_update.ensures.call.house) (c.found.ensures.call.node ∙ c.accept_update.ensures.call.node)
    (λ lawful. c.found.ensures.kept (c.accept_update.ensures.kept lawful))

pub returns : goal.returns
returns c =
    let old : Clearinghouse = c.args.home.now in
    let new : Clearinghouse = c.accept_update.new.self in
    let same = (rw c.in-Err.is at c.in_ok-answer.ensures.refused).0 in
    child_refused c.refused.result c.args.number old new c.args.clock c.args.dir (change_of c.args.update.now) c.args.child (members_of c.args.members.now)
    c.in-Err.refusal (posts_at new c.args.dir c.in_ok-answer.field-0.outgoing)
    (rw c.refusal_in_script.ensures at c.refused.ensures)
    (λ now stands ticks. rw c.in-Err.is at c.in_ok-answer.ensures.step now stands ticks) same
    c.accept_update.ensures.call.house c.accept_update.ensures.call.node c.accept_update.ensures.kept
