use Rattle.std.proofs.Common.{◌≡◌, ◌∙◌, ap, true, Ok, Err}
use Rattle.script_answers.specs.declared.answer.Answer.TheVariants as answer
use Rattle.resolver.specs.WalkEnds.{walk_end}
use Rattle.script_replay.proofs.questions.values_at.Goals as goal

pub returns-in_ok-values-in-Ok : goal.returns-in_ok-values-in-Ok
returns-in_ok-values-in-Ok g c =
    let said : walk_end (g.R.EntryReader.tells c.args.reader.now) true c.args.name.now ≡ Ok c.in-Ok.found = c.in-Ok.ensures.walked in
    rw said (ap answer.Values (c.of.ensures ∙ c.in_ok-values-in-Ok.ensures.told))

pub returns-in-Err-Fault : goal.returns-in-Err-Fault
returns-in-Err-Fault g c =
    let said : walk_end (g.R.EntryReader.tells c.args.reader.now) true c.args.name.now ≡ Err c.in-Err-Fault.refusal =
    rw c.in-Err-Fault.field-0-is at c.in-Err-Fault.ensures.walked in
    let printed = rw c.in-Err-Fault.field-0-is at c.refusal_of_walk.ensures in
    rw said (ap answer.Refused printed)
