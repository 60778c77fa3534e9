use Rattle.std.proofs.Common.{◌≡◌, Some, None, sym, ◌∙◌, ap}
use Rattle.std.proofs.lemmas.Result.{IfOk-weaker}
use Rattle.cds_records.specs.RecordOctets.{image_octets}
use Rattle.script_answers.specs.declared.answer.Answer.TheVariants as answer
use Rattle.cds_cell.specs.Recorded.{image_at}
use Rattle.cds_cell.specs.declared.house.HouseState.TheVariants as house_state
use Rattle.script_replay.specs.Replies.{asked_of}
use Rattle.script_replay.proofs.RecordAnswers.{found, image_down, image_nowhere, image_up}
use Rattle.script_replay.proofs.records.house_octets.Goals as goal

pub returns-in_ok-image-in-Some-Up : goal.returns-in_ok-image-in-Some-Up
returns-in_ok-image-in-Some-Up c g s =
    let there : found c.args.cell.now g s c.args.house.0 ≡ Some (house_state.Up c.in-Some-Up.home) =
    sym (ap Some (sym c.in-Some-Up.field-0-is) ∙ c.in-Some-Up.ensures) in
    ap answer.Octets (c.of.ensures ∙ c.in_ok-image-in-Some-Up.ensures.octets) ∙ image_up c.args.cell.now g s c.args.house.0 c.in-Some-Up.home there

pub returns-in-Some-Down : goal.returns-in-Some-Down
returns-in-Some-Down c g s =
    let there : found c.args.cell.now g s c.args.house.0 ≡ Some (house_state.Down c.in-Some-Down.image) =
    sym (ap Some (sym c.in-Some-Down.field-0-is) ∙ c.in-Some-Down.ensures) in
    IfOk-weaker c.copied.result (λ a. a ≡ answer.Octets c.list.result.now)
    (λ a. a ≡ asked_of g c.args.house.0 (answer.Octets (image_octets (image_at g c.args.house.0))))
    (λ a is. is ∙ ap answer.Octets c.list.ensures ∙ image_down c.args.cell.now g s c.args.house.0 c.in-Some-Down.image there) c.copied.ensures

pub returns-in-None : goal.returns-in-None
returns-in-None c g s =
    let there : found c.args.cell.now g s c.args.house.0 ≡ None = sym (rw c.in-None.is at c.house.ensures) in
    image_nowhere c.args.cell.now g s c.args.house.0 there
