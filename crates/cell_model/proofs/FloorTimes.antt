-- Floors, and stamps above them.
use Rattle.std.proofs.Common.{◌≡◌, ℕ, ◌≤◌, ◌⊎◌, inl, inr, List, [], ◌∷◌, ◌++◌, Some, refl, sym, ap, ◌∙◌, subst, arith, ⊎_elim, le_trans, append_assoc}
use Rattle.cds_stamps.specs.declared.stamp.Stamp.{Stamp}
use Rattle.directory.specs.Histories.{stamp_in, born_in}
use Rattle.cell_model.specs.Cells.{Replica, Copy, Body, Update, Gather, Gathered, Spread, SpreadAck, Advance, Join, Leave, Message, Cell, IsHeld, empty_cell}
use Rattle.cell_model.specs.Bodies.{round_of, up_to_in, copy_in}
use Rattle.cell_model.specs.Commands.{Command}
use Rattle.cell_model.specs.Sets.{In}
use Rattle.cell_model.specs.Steps.{outcome, replay}
use Rattle.cell_model.specs.Floors.{FloorsHold, FloorsRise}
use Rattle.cell_model.proofs.Lists.{append_nil, time_up_to}
use Rattle.cell_model.proofs.Facts.{view}
use Rattle.cell_model.proofs.Views.{In-of_dir, In-from_dir}
use Rattle.cell_model.proofs.Wholes.{step_onward, run_onward, empty_plain}
use Rattle.cell_model.proofs.Passages.{PostedBy, passage_posts}
use Rattle.cell_model.proofs.Runs.{replay-append, roll_of, step_passage, reaching_at}
use Rattle.cell_model.proofs.Advances.{completed_done, advances_lem}
use Rattle.cell_model.proofs.NeverComes.{reaching_last, lawful}

-- ---- floors

-- an AllUpTo that a house has is not above its floor
up_to_below : (commands : List Command) (x d : ℕ) (r : Replica) (t : Stamp) → IsHeld (replay commands) x d r → r.all_up_to ≡ Some t
    → t.time ≤ ((replay commands).house x).floor
up_to_below commands x d r t at e =
    let w = (advances_lem commands).houses x d r t at e in
    let done = completed_done d commands commands [] t w.0 (append_nil commands) w.2 in
    done.1.bounded.floors x r at w.1

-- an AllUpTo in a message is that of its copy, or the stamp of its skulk
up_to_source : (b : Body) (t : Stamp) → up_to_in b ≡ Some t → ((c : Copy) × (copy_in b ≡ Some c) × (c.all_up_to ≡ Some t)) ⊎ (round_of b ≡ Some t)
up_to_source (Update marks) t e = absurd (cc)
up_to_source (Gather u) t e = absurd (cc)
up_to_source (Gathered u copy) t e = inl (copy, refl, e)
up_to_source (Spread u copy) t e = inl (copy, refl, e)
up_to_source (SpreadAck u) t e = absurd (cc)
up_to_source (Advance u) t e = inr e
up_to_source (Join ms copy) t e = inl (copy, refl, e)
up_to_source Leave t e = absurd (cc)

abbrev UpTosBelow : List Command → Type 0
UpTosBelow commands = (m : Message) (t : Stamp) → In m (replay commands).bag → up_to_in m.body ≡ Some t → t.time ≤ m.floor

up_tos_step : (early late : List Command) (c : Command) → UpTosBelow early → UpTosBelow (early ++ c ∷ [])
up_tos_step early late c below m t i e =
    let cell : replay (early ++ c ∷ []) ≡ (outcome (replay early) c).cell = replay-append early (c ∷ []) empty_cell in
    ⊎_elim (λ (r : round_of m.body ≡ Some t). ((lawful (early ++ c ∷ []) m i).round t r).0)
    (λ (w : (k : Copy) × (copy_in m.body ≡ Some k) × (k.all_up_to ≡ Some t)).
    ⊎_elim (λ was. below m t (In-from_dir m.dir (replay early).bag m was).0 e)
    (λ (p : PostedBy (view m.dir (outcome (replay early) c).cell) m).
    let u : p.replica.all_up_to ≡ Some t = ap (λ (z : Copy). z.all_up_to) (sym (p.copied w.0 w.1)) ∙ w.2 in
    let low = up_to_below (early ++ c ∷ []) m.sender m.dir p.replica t (subst (λ (z : Cell). IsHeld z m.sender m.dir p.replica) (sym cell) p.held) u in
    omega (arith, p.floor, subst (λ (z : Cell). t.time ≤ (z.house m.sender).floor) cell low))
    (passage_posts (roll_of m.dir (early ++ c ∷ [])) _ _ _
    (step_passage m.dir (early ++ c ∷ []) early [] c refl (reaching_at m.dir (early ++ c ∷ []) early (c ∷ []) refl)) m
    (In-of_dir m.dir (outcome (replay early) c).cell.bag m (subst (λ (z : Cell). In m z.bag) cell i) refl)))
    (⊎_elim (λ l. inr l) (λ r. inl r) (up_to_source m.body t e))

up_tos_run : (early mid : List Command) → UpTosBelow early → UpTosBelow (early ++ mid)
up_tos_run early [] below = subst (λ (l : List Command). UpTosBelow l) (sym (append_nil early)) below
up_tos_run early (c ∷ mid) below =
    subst (λ (l : List Command). UpTosBelow l) (append_assoc early (c ∷ []) mid) (up_tos_run (early ++ c ∷ []) mid (up_tos_step early mid c below))

-- no time is above its house's floor or its message's
pub floors_lem : (commands : List Command) → FloorsHold (replay commands)
floors_lem commands = record {
  houses = λ x d r at.
      let here = reaching_last commands d in
      let ok = here.sound.held x r at in
      record {
        marks = λ k i.
            let w = here.known.only x r at k i in
            let born = time_up_to (born_in k) (stamp_in k) ((here.known.well w.by w.logged w.dir).ordered k w.has) in
            (ok.floors k i, le_trans born (ok.floors k i));
        all_up_to = λ t e. up_to_below commands x d r t at e;
        phase = λ t e. (ok.phase t e).2;
      };
  messages = λ m i.
      let here = reaching_last commands m.dir in
      let l = lawful commands m i in
      record {
        times = record {
          marks = λ k ik.
              let w = here.known.only_m m (In-of_dir m.dir (replay commands).bag m i refl) k ik in
              let born = time_up_to (born_in k) (stamp_in k) ((here.known.well w.by w.logged w.dir).ordered k w.has) in
              (l.bound k ik, le_trans born (l.bound k ik));
          all_up_to = λ t e. up_tos_run [] commands (λ m t i. elim i [ ]) m t i e;
          round = λ t e. (l.round t e).0;
        };
        sender = l.floor;
      };
}

-- no floor falls
pub rises_lem : (commands : List Command) (c : Command) → FloorsRise (replay commands) (outcome (replay commands) c).cell
rises_lem commands c = record {
  rises = (step_onward (replay commands) c (run_onward commands empty_cell empty_plain).plain).rises;
  posts = λ m i. ⊎_elim (λ was. inl (In-from_dir m.dir (replay commands).bag m was).0) (λ p. inr (at_floor m p))
      (passage_posts (roll_of m.dir (commands ++ c ∷ [])) _ _ _
      (step_passage m.dir (commands ++ c ∷ []) commands [] c refl (reaching_at m.dir (commands ++ c ∷ []) commands (c ∷ []) refl)) m
      (In-of_dir m.dir (outcome (replay commands) c).cell.bag m i refl));
}
  where
    at_floor : (m : Message) → PostedBy (view m.dir (outcome (replay commands) c).cell) m → m.floor ≡ ((outcome (replay commands) c).cell.house m.sender).floor
    at_floor m p = p.floor
