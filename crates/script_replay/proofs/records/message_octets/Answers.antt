use Rattle.std.proofs.Common.{◌≡◌, Some, None, ◌∙◌, ap}
use Rattle.std.specs.Option.{option_and_then}
use Rattle.std.proofs.lemmas.Result.{IfOk-weaker}
use Rattle.cell_model.specs.Steps.{message_at}
use Rattle.script_answers.specs.declared.answer.Answer.TheVariants as answer
use Rattle.cds_cell.specs.Recorded.{octets_of}
use Rattle.script_replay.specs.Replies.{octets_told}
use Rattle.script_replay.proofs.records.message_octets.Goals as goal

pub returns-in-Some : goal.returns-in-Some
returns-in-Some c g s =
    let known = c.message.ensures.model g s in
    let octets : Some c.in-Some.octets.now ≡ option_and_then octets_of (message_at g c.args.serial) = rw c.in-Some.is at known in
    IfOk-weaker c.copied.result (λ a. a ≡ answer.Octets c.in-Some.octets.now)
    (λ a. a ≡ octets_told (option_and_then octets_of (message_at g c.args.serial))) (λ a is. is ∙ ap octets_told octets) c.copied.ensures

pub returns-in-None : goal.returns-in-None
returns-in-None c g s =
    let known = c.message.ensures.model g s in
    let octets : None ≡ option_and_then octets_of (message_at g c.args.serial) = rw c.in-None.is at known in
    ap octets_told octets
