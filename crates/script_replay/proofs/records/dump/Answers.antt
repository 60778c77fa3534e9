use Rattle.std.proofs.Common.{◌≡◌, false, Some, None, sym, ◌∙◌, ap}
use Rattle.std.specs.Option.{option_copied}
use Rattle.std.proofs.lemmas.Result.{IfOk-weaker}
use Rattle.cell_model.specs.Steps.{is_unknown}
use Rattle.cds_cell.specs.declared.house.HouseState.TheVariants as house_state
use Rattle.script_replay.specs.PrivateRecords.{state_told}
use Rattle.script_replay.specs.Replies.{dump_told}
use Rattle.script_replay.proofs.RecordAnswers.{dump_down, dump_nowhere, dump_up, found}
use Rattle.script_replay.proofs.records.dump.Goals as goal

pub returns-in-Some-Up : goal.returns-in-Some-Up
returns-in-Some-Up c g s =
    let cell = c.args.cell.now in
    let known : is_unknown g c.args.dir.0 ≡ false = sym (c.is_unknown.ensures.model g s) ∙ c.if-is_unknown.false in
    let there : found cell g s c.args.house.0 ≡ Some (house_state.Up c.in-Some-Up.home) =
    sym (ap Some (sym c.in-Some-Up.field-0-is) ∙ c.in-Some-Up.ensures) in
    IfOk-weaker c.dump_state.result (λ a. a ≡ state_told (option_copied c.state.result)) (λ a. a ≡ dump_told g c.args.house.0 c.args.dir.0)
    (λ a is. is ∙ ap state_told c.state.ensures ∙ dump_up cell g s c.args.house.0 c.args.dir known c.in-Some-Up.home there) c.dump_state.ensures

pub returns-in-Some-Down : goal.returns-in-Some-Down
returns-in-Some-Down c g s =
    let known : is_unknown g c.args.dir.0 ≡ false = sym (c.is_unknown.ensures.model g s) ∙ c.if-is_unknown.false in
    let there : found c.args.cell.now g s c.args.house.0 ≡ Some (house_state.Down c.in-Some-Down.field-0-0) =
    sym (ap Some (sym c.in-Some-Down.field-0-is) ∙ c.in-Some-Down.ensures) in
    dump_down c.args.cell.now g s c.args.house.0 c.args.dir known c.in-Some-Down.field-0-0 there

pub returns-in-None : goal.returns-in-None
returns-in-None c g s =
    let known : is_unknown g c.args.dir.0 ≡ false = sym (c.is_unknown.ensures.model g s) ∙ c.if-is_unknown.false in
    let there : found c.args.cell.now g s c.args.house.0 ≡ None = sym (rw c.in-None.is at c.house.ensures) in
    dump_nowhere c.args.cell.now g s c.args.house.0 c.args.dir known there
