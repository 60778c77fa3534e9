use Rattle.std.proofs.Common.{◌∙◌}
use Rattle.house_turns.proofs.Resumptions.{resumes_as, unread_first, unstarted}
use Rattle.house_turns.proofs.resuming.resume_made.Goals as goal

pub returns-in_default : goal.returns-in_default
returns-in_default c =
    unread_first c.args.body.now.number c.args.body.now.clock c.args.body.now.text.now c.args.image.now (rw c.in_default.is at c.in_ok-first.ensures)

pub returns-in_default-2 : goal.returns-in_default-2
returns-in_default-2 c =
    unstarted c.args.body.now.number c.args.body.now.clock c.args.body.now.text.now c.args.image.now (rw c.in_default-2.is at c.in_ok-home.ensures)

pub returns : goal.returns
returns c =
    resumes_as c.args.body.now.number c.args.body.now.clock c.args.body.now.text.now c.args.image.now c.in-Some.first.skulks.items c.in-Some-2.home
    c.run_on.new.home c.in-Some.first.rest.now c.of-last.result c.with.result (rw c.in-Some.is at c.in_ok-first.ensures)
    (rw c.in-Some-2.is at c.in_ok-home.ensures) (rw c.deref.ensures.value at c.run_on.ensures) (c.of-last.ensures ∙ c.in_ok-from_slice.ensures.items)
    c.with.ensures
