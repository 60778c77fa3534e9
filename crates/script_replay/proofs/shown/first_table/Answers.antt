use Rattle.std.proofs.Common.{◌≡◌, false, sym, ◌∙◌, ap}
use Rattle.std.specs.Prelude.{Some, None}
use Rattle.cell_model.specs.Steps.{is_unknown}
use Rattle.cds_cell.specs.declared.house.HouseState.TheVariants as house_state
use Rattle.script_replay.specs.Loading.{table_told}
use Rattle.script_replay.specs.PrivateRecords.{state_told}
use Rattle.script_replay.proofs.RecordAnswers.{dump_down, dump_nowhere, dump_up, found}
use Rattle.script_replay.proofs.shown.first_table.Goals as goal

pub returns-in-Some-Up : goal.returns-in-Some-Up
returns-in-Some-Up c g s =
    let cell = c.args.cell.now in
    let known : is_unknown g 1 ≡ false = sym (c.is_unknown.ensures.model g s) ∙ c.if-is_unknown.false in
    let there : found cell g s 1 ≡ Some (house_state.Up c.in-Some-Up.home) =
    sym (ap Some (sym c.in-Some-Up.field-0-is) ∙ c.in-Some-Up.ensures) in
    c.table_in.ensures ∙ ap (λ o. table_told (state_told o)) c.state.ensures
    ∙ ap table_told (dump_up cell g s 1 (record { 0 = 1 }) known c.in-Some-Up.home there)

pub returns-in-Some-Down : goal.returns-in-Some-Down
returns-in-Some-Down c g s =
    let cell = c.args.cell.now in
    let known : is_unknown g 1 ≡ false = sym (c.is_unknown.ensures.model g s) ∙ c.if-is_unknown.false in
    let there : found cell g s 1 ≡ Some (house_state.Down c.in-Some-Down.field-0-0) =
    sym (ap Some (sym c.in-Some-Down.field-0-is) ∙ c.in-Some-Down.ensures) in
    ap table_told (dump_down cell g s 1 (record { 0 = 1 }) known c.in-Some-Down.field-0-0 there)

pub returns-in-None : goal.returns-in-None
returns-in-None c g s =
    let cell = c.args.cell.now in
    let known : is_unknown g 1 ≡ false = sym (c.is_unknown.ensures.model g s) ∙ c.if-is_unknown.false in
    let there : found cell g s 1 ≡ None = sym (rw c.in-None.is at c.house.ensures) in
    ap table_told (dump_nowhere cell g s 1 (record { 0 = 1 }) known there)
