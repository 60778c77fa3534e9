-- What a cell of the program has is told as what the model's has.
use Rattle.std.proofs.Common.{◌≡◌, ℕ, List, false, refl, sym, ap, ◌∙◌}
use Rattle.std.specs.Prelude.{Option, Some, None}
use Rattle.std.specs.FinMap.{get}
use Rattle.std.specs.Option.{option_map}
use Rattle.cds_records.specs.RecordOctets.{image_octets}
use Rattle.cds_messages.specs.declared.image.ImageDir.{ImageDir}
use Rattle.cds_messages.specs.declared.image.ImageDir.TheVariants as kept
use Rattle.cds_stamps.specs.declared.numbers.DirId.{DirId}
use Rattle.cell_model.specs.Cells as model
use Rattle.cell_model.specs.Steps.{is_unknown}
use Rattle.script_answers.specs.declared.answer.Answer.{Answer}
use Rattle.script_answers.specs.declared.answer.Answer.TheVariants as answer
use Rattle.script_answers.specs.declared.answer.ScriptRefusal.TheVariants as why
use Rattle.clearinghouse.specs.HouseImages.{image_of, kept_of}
use Rattle.house_directory.specs.ModelReplicas.{StandsSlot}
use Rattle.clearinghouse.specs.declared.house.Clearinghouse.{Clearinghouse}
use Rattle.house_directory.specs.declared.states.DirState.{DirState}
use Rattle.house_directory.specs.declared.states.DirState.TheVariants as state
use Rattle.cds_cell.specs.Recorded.{image_at, kept_in}
use Rattle.cds_cell.specs.ModelCells.{Stands, house_of}
use Rattle.cds_cell.specs.declared.cell.Cell.{Cell}
use Rattle.cds_cell.specs.declared.house.HouseState.{HouseState}
use Rattle.cds_cell.specs.declared.house.HouseState.TheVariants as house_state
use Rattle.cds_cell.proofs.RecordedLaws.{house_recorded, image_of_down, image_of_up, no_house_recorded, slot_recorded}
use Rattle.script_replay.specs.PrivateRecords.{state_told}
use Rattle.script_replay.specs.Replies.{asked_of, dump_told, slot_told}

-- ---- what a house has of a directory

-- what is kept of it is told so
abbrev kept_told : Option ImageDir → Answer
kept_told None = answer.Refused why.NoReplica
kept_told (Some (kept.Gone e)) = answer.Refused why.NoReplica
kept_told (Some (kept.Held e ms r)) = answer.Dump e r.all_up_to ms r.table

slot_kept : (s : model.Slot) → slot_told s ≡ kept_told (kept_in s)
slot_kept model.Absent = refl
slot_kept (model.Gone e) = refl
slot_kept (model.Held r) = refl

state_kept : (o : Option DirState) → state_told o ≡ kept_told (option_map kept_of o)
state_kept None = refl
state_kept (Some (state.Gone e)) = refl
state_kept (Some (state.Held h)) = refl

slot_alike : (me floor : ℕ) (o : Option DirState) (s : model.Slot) → StandsSlot me floor o s → state_told o ≡ slot_told s
slot_alike me floor o s stands = state_kept o ∙ ap kept_told (sym (slot_recorded me floor o s stands)) ∙ sym (slot_kept s)

module _ (c : Cell) (g : model.Cell) (stands : Stands c g) (x : ℕ) where
  -- what there is of the house
  abbrev pub found : Option HouseState
  found = option_map (λ h. h.state) (house_of c.houses.items x)

  -- ---- dumps

  module _ (d : DirId) (known : is_unknown g d.0 ≡ false) where
    -- at a house that is up
    pub dump_up : (home : Clearinghouse) → found ≡ Some (house_state.Up home) → state_told (get home.dirs d) ≡ dump_told g x d.0
    dump_up home is =
        let house = house_recorded c g stands x (house_state.Up home) is in
        rw (known, house.made, house.stands.0)
        (slot_alike home.house.0 home.floor.time (get home.dirs d) ((g.house x).slots d.0) (house.stands.1.stands.slots d.0))

    -- at one that is down
    pub dump_down : (octets : List ℕ) → found ≡ Some (house_state.Down octets) → answer.Refused why.Down ≡ dump_told g x d.0
    dump_down octets is =
        let house = house_recorded c g stands x (house_state.Down octets) is in
        rw (known, house.made, house.stands.0) refl

    -- at one that was not made
    pub dump_nowhere : found ≡ None → answer.Refused why.NoHouse ≡ dump_told g x d.0
    dump_nowhere is = rw (known, no_house_recorded c g stands x is) refl

  -- ---- images

  abbrev image_answer : Answer
  image_answer = answer.Octets (image_octets (image_at g x))

  -- of a house that is up
  pub image_up : (home : Clearinghouse) → found ≡ Some (house_state.Up home) → answer.Octets (image_octets (image_of home)) ≡ asked_of g x image_answer
  image_up home is =
      let house = house_recorded c g stands x (house_state.Up home) is in
      rw house.made (ap (λ i. answer.Octets (image_octets i)) (image_of_up c g stands x home is))

  -- of one that is down
  pub image_down : (octets : List ℕ) → found ≡ Some (house_state.Down octets) → answer.Octets octets ≡ asked_of g x image_answer
  image_down octets is =
      let house = house_recorded c g stands x (house_state.Down octets) is in
      rw house.made (ap (λ (v : List ℕ). answer.Octets v) (image_of_down c g stands x octets is))

  -- of one that was not made
  pub image_nowhere : found ≡ None → answer.Refused why.NoHouse ≡ asked_of g x image_answer
  image_nowhere is = rw (no_house_recorded c g stands x is) refl
