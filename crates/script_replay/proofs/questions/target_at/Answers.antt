use Rattle.std.proofs.Common.{◌≡◌, ap, false, Ok, Err}
use Rattle.resolver.specs.WalkEnds.{walk_end}
use Rattle.script_answers.specs.declared.answer.Answer.TheVariants as answer
use Rattle.script_replay.proofs.questions.target_at.Goals as goal

pub returns-in-Ok : goal.returns-in-Ok
returns-in-Ok g c =
    let said : walk_end (g.R.EntryReader.tells c.args.reader.now) false c.args.name.now ≡ Ok c.in-Ok.found = c.in-Ok.ensures.walked in
    rw said c.target_of_found.ensures

pub returns-in-Err-Fault : goal.returns-in-Err-Fault
returns-in-Err-Fault g c =
    let said : walk_end (g.R.EntryReader.tells c.args.reader.now) false c.args.name.now ≡ Err c.in-Err-Fault.refusal =
    rw c.in-Err-Fault.field-0-is at c.in-Err-Fault.ensures.walked in
    let printed = rw c.in-Err-Fault.field-0-is at c.refusal_of_walk.ensures in
    rw said (ap answer.Refused printed)
