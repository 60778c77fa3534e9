-- What a house of the cell does, from what its clearinghouse does.
use Rattle.std.proofs.Common.{◌≡◌, ℕ, true, false, List, ◌<◌, Option, Some, None, Result, Ok, Err, refl, sym, ap, subst, ◌∙◌}
use Rattle.std.specs.Prelude.{IfOk}
use Rattle.std.specs.Result.{result_ok}
use Rattle.std.specs.declared.alloc.AllocError.{AllocError}
use Rattle.cds_stamps.specs.declared.numbers.HouseNo.{HouseNo}
use Rattle.cell_model.specs.Cells as model
use Rattle.cell_model.specs.Commands as command
use Rattle.cell_model.specs.Turns.{Turn, HouseStep, Stays, Turns, crashed_house, started_house}
use Rattle.clearinghouse.specs.declared.house.Clearinghouse.{Clearinghouse}
use Rattle.house_directory.specs.declared.posted.Posted.{Posted}
use Rattle.house_directory.specs.declared.states.DirState.{DirState}
use Rattle.house_directory.specs.declared.states.DirState.TheVariants as dir_state
use Rattle.clearinghouse.specs.HouseImages.{house_after_restart, start_of_octets}
use Rattle.clearinghouse.specs.LawfulHouses.{IsLawful}
use Rattle.house_directory.specs.Refusing.{IsLater}
use Rattle.house_directory.specs.ModelReplicas.{StandsSlot}
use Rattle.clearinghouse.specs.ModelHouses.{StandsHouse}
use Rattle.clearinghouse.specs.HouseSteps.{IsCall, IsStep, IsTurn}
use Rattle.cds_cell.specs.declared.house.CellHouse.{CellHouse}
use Rattle.cds_cell.specs.declared.house.HouseState.TheVariants as state
use Rattle.cds_cell.proofs.KeptNodes.{KeepsNode, SameNode}
use Rattle.cds_cell.specs.CellHouses.{KeepsImage, StandsAtHouse, StandsState, StandsUp}
use Rattle.cds_cell.specs.PrivateHouses.{Asks, IsNewEpoch, IsTurnAt}

-- ---- what a house has

-- a house whose clearinghouse is this one
abbrev pub with_up : CellHouse → Clearinghouse → CellHouse
with_up h c = record h { state = state.Up c }

-- the clearinghouse of a house that is up stands for the model's
pub stands_up : (h : CellHouse) (c : Clearinghouse) (now : model.House) → h.state ≡ state.Up c → StandsAtHouse h now → StandsUp h.house c now
stands_up h c now is stands = (subst (λ s. StandsState h.house s now) is stands.state).1

-- ---- calls

module _ (h : CellHouse) (c new : Clearinghouse) (was : h.state ≡ state.Up c) (now : model.House) (stands : StandsAtHouse h now) (up : now.up ≡ true) where
  -- it stands for the house after a turn where its clearinghouse does
  pub stands_turned : (after : model.House) → SameNode now after → StandsHouse new after → new.house ≡ c.house → IsLawful new → new.spent ≡ false
      → StandsAtHouse (with_up h new) after
  stands_turned after same there number lawful usable = record {
    node = same.node ∙ stands.node;
    clock = same.clock ∙ stands.clock;
    state = (same.up ∙ up, record { number = number ∙ (stands_up h c now was stands).number; stands = there; lawful = lawful; usable = usable });
  }

  -- a step of the clearinghouse is one of the house
  asks_step : (Answers : command.Answer → Type 0) (s : HouseStep) (posted : List Posted) → KeepsNode now s → new.house ≡ c.house → IsLawful new
      → new.spent ≡ false → IsStep Answers s c new posted → Asks Answers s h (with_up h new) posted
  asks_step Answers (Stays answer) posted keeps number lawful usable step =
      (step.0, ap (with_up h) step.1 ∙ ap (λ s. record h { state = s }) (sym was), step.2)
  asks_step Answers (Turns turn) posted keeps number lawful usable step =
      (step.0, record { stands = stands_turned turn.house keeps step.1.stands number lawful usable; each = step.1.each })

  -- a call of the clearinghouse that is a step is one of the house
  pub asks_call : {T : Type 0} (result : Result T AllocError) (Answers : T → command.Answer → Type 0) (posts : T → List Posted) (step : ℕ → HouseStep)
      → IsCall c new result → (IsLawful c → IsLawful new) → KeepsNode now (step h.house.0)
      → IfOk result (λ t. IsStep (Answers t) (step c.house.0) c new (posts t))
      → IfOk result (λ t. Asks (Answers t) (step h.house.0) h (with_up h new) (posts t))
  asks_call (Err e) Answers posts step call kept keeps steps = tt
  asks_call (Ok t) Answers posts step call kept keeps steps =
      let here = stands_up h c now was stands in
      asks_step (Answers t) (step h.house.0) (posts t) keeps call.house (kept here.lawful) call.spent
      (subst (λ (x : HouseNo). IsStep (Answers t) (step x.0) c new (posts t)) here.number steps)

  -- a turn of the clearinghouse is one of the house
  pub turned_call : {T : Type 0} (result : Result T AllocError) (t : T) (posted : List Posted) (turn : ℕ → Turn) → result ≡ Ok t → IsCall c new result
      → (IsLawful c → IsLawful new) → SameNode now (turn h.house.0).house → IsTurn (turn c.house.0) new posted
      → IsTurnAt (turn h.house.0) (with_up h new) posted
  turned_call (Ok s) t posted turn is call kept same turned =
      let here = stands_up h c now was stands in
      let done = subst (λ (x : HouseNo). IsTurn (turn x.0) new posted) here.number turned in
      record { stands = stands_turned (turn h.house.0).house same done.stands call.house (kept here.lawful) call.spent; each = done.each }
  turned_call (Err e) t posted turn is call kept same turned = cc

-- an epoch that is new to the model is later than the one that is held
pub later_epoch : (me floor k : ℕ) (o : Option DirState) (s : model.Slot) → StandsSlot me floor o s → IsNewEpoch k s → IsLater k o
later_epoch me floor k None s stands new = tt
later_epoch me floor k (Some (dir_state.Gone e)) s stands new = tt
later_epoch me floor k (Some (dir_state.Held h)) (model.Held r) stands new = subst (λ e. e < k) stands.looks.epoch new
later_epoch me floor k (Some (dir_state.Held h)) model.Absent stands new = elim stands [ ]
later_epoch me floor k (Some (dir_state.Held h)) (model.Gone e) stands new = elim stands [ ]

-- ---- crashes

-- a house that keeps the octets of its image stands for one that is down
pub crashed_stands : (h : CellHouse) (c : Clearinghouse) (octets : List ℕ) (now : model.House) → h.state ≡ state.Up c → StandsAtHouse h now
    → KeepsImage octets (house_after_restart c) → StandsHouse (house_after_restart c) (crashed_house now) → IsLawful (house_after_restart c)
    → StandsAtHouse (record h { state = state.Down octets }) (crashed_house now)
crashed_stands h c octets now is stands kept there lawful = record {
  node = stands.node;
  clock = stands.clock;
  state = (refl, (house_after_restart c, kept, record { number = (stands_up h c now is stands).number; stands = there; lawful = lawful; usable = refl }));
}

-- ---- starts

-- a house that is down starts as the clearinghouse that its octets start as
pub started_stands : (h : CellHouse) (kept octets : List ℕ) (home : Clearinghouse) (now : model.House) → h.state ≡ state.Down kept → StandsAtHouse h now
    → octets ≡ kept → Some home ≡ result_ok (start_of_octets octets) → StandsAtHouse (with_up h home) (started_house now)
started_stands h kept octets home now is stands same starts =
    let s = subst (λ s. StandsState h.house s now) is stands.state in
    let told : Some home ≡ Some s.1.0 = starts ∙ ap (λ l. result_ok (start_of_octets l)) same ∙ ap result_ok s.1.1.starts in
    let own : s.1.0 ≡ home = cc in
    let up = subst (λ c. StandsUp h.house c now) own s.1.2 in
    record {
      node = stands.node;
      clock = stands.clock;
      state = (
        refl,
        record {
          number = up.number;
          stands = record { node = up.stands.node; floor = up.stands.floor; slots = up.stands.slots };
          lawful = up.lawful;
          usable = up.usable;
        },
      );
    }
