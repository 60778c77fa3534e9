use Rattle.std.proofs.Common.{◌≡◌, ℕ, Some, None, sym, ◌∙◌, ap}
use Rattle.cds_records.specs.RecordOctets.{image_octets}
use Rattle.cds_cell.specs.declared.house.HouseState.TheVariants as house_state
use Rattle.cds_cell.proofs.RecordedLaws.{house_recorded, image_of_down, image_of_up, no_house_recorded}
use Rattle.std.specs.Prelude.{Option}
use Rattle.std.specs.Option.{option_map}
use Rattle.cds_cell.specs.declared.cell.Cell.{Cell}
use Rattle.cds_cell.specs.declared.house.HouseState.{HouseState}
use Rattle.cds_cell.specs.ModelCells.{house_of}
use Rattle.journal_replay.proofs.Giving.{image_of_made, no_image}
use Rattle.journal_replay.proofs.images.image_of.Goals as goal

-- what there is of a house
abbrev found : Cell → ℕ → Option HouseState
found c x = option_map (λ h. h.state) (house_of c.houses.items x)

pub returns-in_ok-image-in-Some-Up : goal.returns-in_ok-image-in-Some-Up
returns-in_ok-image-in-Some-Up c g s =
    let x = c.args.house.0 in
    let there : found c.args.cell.now x ≡ Some (house_state.Up c.in-Some-Up.home) = sym (ap Some (sym c.in-Some-Up.field-0-is) ∙ c.in-Some-Up.ensures) in
    ap Some (c.in_ok-image-in-Some-Up.ensures.octets ∙ ap image_octets (image_of_up c.args.cell.now g s x c.in-Some-Up.home there))
    ∙ sym (image_of_made g x (house_recorded c.args.cell.now g s x (house_state.Up c.in-Some-Up.home) there).made)

pub returns-in_ok-to_vec-in-Some-Down : goal.returns-in_ok-to_vec-in-Some-Down
returns-in_ok-to_vec-in-Some-Down c g s =
    let x = c.args.house.0 in
    let there : found c.args.cell.now x ≡ Some (house_state.Down c.in-Some-Down.image) = sym (ap Some (sym c.in-Some-Down.field-0-is) ∙ c.in-Some-Down.ensures) in
    let same = c.in_ok-to_vec-in-Some-Down.ensures.items_if_clones_equal (λ a b e. e) in
    ap Some (same ∙ c.list.ensures ∙ image_of_down c.args.cell.now g s x c.in-Some-Down.image there)
    ∙ sym (image_of_made g x (house_recorded c.args.cell.now g s x (house_state.Down c.in-Some-Down.image) there).made)

pub returns-in-None : goal.returns-in-None
returns-in-None c g s =
    let x = c.args.house.0 in
    let there : found c.args.cell.now x ≡ None = sym (rw c.in-None.is at c.house.ensures) in
    sym (no_image g x (no_house_recorded c.args.cell.now g s x there))
