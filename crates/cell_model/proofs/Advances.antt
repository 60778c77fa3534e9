-- Each AllUpTo is the stamp of a completed skulk.
use Rattle.std.proofs.Common.{◌≡◌, ℕ, ◌≤◌, ◌⊎◌, inl, inr, List, [], ◌∷◌, ◌++◌, Option, Some, None, refl, sym, ap, ◌∙◌, subst, ⊎_elim, le_refl}
use Rattle.std.proofs.Common.{le_trans, append_assoc}
use Rattle.cds_stamps.specs.declared.stamp.Stamp.{Stamp}
use Rattle.directory.specs.Histories.{Mark}
use Rattle.cell_model.specs.Cells.{Replica, Message, Cell, IsHeld, empty_cell}
use Rattle.cell_model.specs.Bodies.{up_to_in}
use Rattle.cell_model.specs.Commands.{Command}
use Rattle.cell_model.specs.Sets.{In}
use Rattle.cell_model.specs.Steps.{outcome, replay}
use Rattle.cell_model.specs.Agreement.{place_of}
use Rattle.cell_model.specs.Skulks.{IsCompleted, AdvancesHold}
use Rattle.cell_model.proofs.Lists.{append_nil}
use Rattle.cell_model.proofs.Facts.{view, IsPosted}
use Rattle.cell_model.proofs.Bounds.{same_held}
use Rattle.cell_model.proofs.SecondRound.{Done}
use Rattle.cell_model.proofs.Views.{In-of_dir, In-from_dir}
use Rattle.cell_model.proofs.Moves.{outcome_steps}
use Rattle.cell_model.proofs.Wholes.{Plain, run_onward, empty_plain}
use Rattle.cell_model.proofs.Lifts.{Ended, Lift, of_house, of_message, of_end, Lifts, steps_lifts}
use Rattle.cell_model.proofs.Passages.{PostedBy, passage_posts}
use Rattle.cell_model.proofs.Runs.{replay-append, roll_of, step_passage, reaching_at}
use Rattle.cell_model.proofs.Agreeing.{Finished, finished, done_run}

-- a skulk that completed has completed ever after
pub completed_on : (commands more : List Command) (d : ℕ) (t : Stamp) (k : ℕ) → IsCompleted commands d t k → IsCompleted (commands ++ more) d t k
completed_on commands more d t k c = record {
  early = c.early;
  command = c.command;
  late = c.late ++ more;
  serials = c.serials;
  parts = sym (append_assoc c.early (c.command ∷ c.late) more) ∙ ap (λ (l : List Command). l ++ more) c.parts;
  answer = c.answer;
  house = c.house;
  replica = c.replica;
  place = c.place;
  held = c.held;
  epoch = c.epoch;
}

abbrev house_in : Option (ℕ × ℕ) → ℕ
house_in None = 0
house_in (Some z) = z.0

abbrev dir_in : Option (ℕ × ℕ) → ℕ
dir_in None = 0
dir_in (Some z) = z.1

-- a house and a directory, as one value
abbrev pub place : ℕ → ℕ → Option (ℕ × ℕ)
place h d = Some (h, d)

-- equal places are of one house and one directory
pub same_place : (a b c d : ℕ) → place a b ≡ place c d → (a ≡ c) × (b ≡ d)
same_place a b c d e = (ap house_in e, ap dir_in e)

-- what the step that completed left, at the place where it did
at_place : (d : ℕ) (all early : List Command) (t : Stamp) (k : ℕ) (c : IsCompleted early d t k) → Finished all c.early c.command t
    → (marks : List Mark) × Done (roll_of d all) (view d (replay (c.early ++ c.command ∷ []))) k t marks
at_place d all early t k c f =
    let same_at = same_place f.house f.dir c.house d (sym f.at ∙ c.place) in
    let held : IsHeld (replay (c.early ++ c.command ∷ [])) c.house d f.replica =
    subst (λ (x : ℕ). IsHeld (replay (c.early ++ c.command ∷ [])) x d f.replica) same_at.0
    (subst (λ (z : ℕ). IsHeld (replay (c.early ++ c.command ∷ [])) f.house z f.replica) same_at.1 f.holds) in
    let same : f.replica ≡ c.replica = same_held _ f.replica c.replica held c.held in
    let epoch : f.replica.epoch ≡ k = ap (λ (z : Replica). z.epoch) same ∙ c.epoch in (
      f.replica.history,
      subst (λ (z : ℕ). Done (roll_of d all) (view d (replay (c.early ++ c.command ∷ []))) z t f.replica.history) epoch
          (subst (λ (z : ℕ). Done (roll_of z all) (view z (replay (c.early ++ c.command ∷ []))) f.replica.epoch t f.replica.history) same_at.1 f.done),
    )

-- and it holds ever after
pub completed_done : (d : ℕ) (all early late : List Command) (t : Stamp) (k : ℕ) → early ++ late ≡ all → IsCompleted early d t k
    → (marks : List Mark) × Done (roll_of d all) (view d (replay early)) k t marks
completed_done d all early late t k e c =
    let parts : c.early ++ c.command ∷ (c.late ++ late) ≡ all = sym (append_assoc c.early (c.command ∷ c.late) late)
    ∙ ap (λ (l : List Command). l ++ late) c.parts ∙ e in
    let here = at_place d all early t k c (finished all c.early (c.late ++ late) c.command t c.serials parts c.answer) in
    let split : (c.early ++ c.command ∷ []) ++ (c.late ++ late) ≡ all = append_assoc c.early (c.command ∷ []) (c.late ++ late) ∙ parts in
    let now = done_run d all (c.early ++ c.command ∷ []) c.late late k t here.0 split here.1 in
    (here.0, subst (λ (l : List Command). Done (roll_of d all) (view d (replay l)) k t here.0) (append_assoc c.early (c.command ∷ []) c.late ∙ c.parts) now)

-- a step keeps it
advances_step : (all early late : List Command) (c : Command) → early ++ c ∷ late ≡ all → AdvancesHold early → AdvancesHold (early ++ c ∷ [])
advances_step all early late c e a = record {
  houses = λ x d r t at u. lifted x d r.epoch t (λ z. completed_here d x r t (subst (λ (y : Cell). IsHeld y x d r) cell at) z)
      ((lifts d).held x r t (subst (λ (y : Cell). IsHeld y x d r) cell at) u);
  messages = λ m t i u.
      let i' = subst (λ (y : Cell). In m y.bag) cell i in
      ⊎_elim (λ was. let w = a.messages m t was u in (w.0, w.1, completed_on early (c ∷ []) m.dir t w.0 w.2))
      (λ l. by_post m t i' u l
      (passage_posts (roll_of m.dir all) _ _ _ (step_passage m.dir all early late c e (reaching_at m.dir all early (c ∷ late) e)) m
      (In-of_dir m.dir (outcome (replay early) c).cell.bag m i' refl)))
      ((lifts m.dir).posts m t i' refl u);
}
  where
    cell : replay (early ++ c ∷ []) ≡ (outcome (replay early) c).cell
    cell = replay-append early (c ∷ []) empty_cell

    plain : Plain (replay early)
    plain = (run_onward early empty_cell empty_plain).plain

    lifts : (d : ℕ) → Lifts (replay early) (outcome (replay early) c).cell (outcome (replay early) c).answer (place_of (replay early) c) d
    lifts d = steps_lifts (replay early) (outcome (replay early) c).cell (place_of (replay early) c) (outcome (replay early) c).answer
        (outcome (replay early) c).accepted d
        (λ x r k at. ((reaching_at k all early (c ∷ late) e).sound.held x r at).top) plain.unmade (outcome_steps (replay early) c)

    completed_here : (d x : ℕ) (r : Replica) (t : Stamp) → IsHeld (outcome (replay early) c).cell x d r
        → Ended (outcome (replay early) c).answer (place_of (replay early) c) d x t → IsCompleted (early ++ c ∷ []) d t r.epoch
    completed_here d x r t at z = record {
      early = early;
      command = c;
      late = [];
      serials = z.0;
      parts = refl;
      answer = z.1;
      house = x;
      replica = r;
      place = z.2;
      held = subst (λ (y : Cell). IsHeld y x d r) (sym cell) at;
      epoch = refl;
    }

    lifted : (x d k : ℕ) (t : Stamp) → (Ended (outcome (replay early) c).answer (place_of (replay early) c) d x t → IsCompleted (early ++ c ∷ []) d t k)
        → Lift (replay early) (outcome (replay early) c).answer (place_of (replay early) c) d x k t → (j : ℕ) × (j ≤ k) × IsCompleted (early ++ c ∷ []) d t j
    lifted x d k t ends (of_house y r at u le) = let w = a.houses y d r t at u in (w.0, le_trans w.1 le, completed_on early (c ∷ []) d t w.0 w.2)
    lifted x d k t ends (of_message m i dir u le) = let w = a.messages m t i u in
        (w.0, le_trans w.1 le, completed_on early (c ∷ []) d t w.0 (subst (λ (z : ℕ). IsCompleted early z t w.0) dir w.2))
    lifted x d k t ends (of_end z) = (k, le_refl _, ends z)

    by_post : (m : Message) (t : Stamp) → In m (outcome (replay early) c).cell.bag → up_to_in m.body ≡ Some t
        → Lift (replay early) (outcome (replay early) c).answer (place_of (replay early) c) m.dir m.sender m.epoch t
        → IsPosted (view m.dir (replay early)) m ⊎ PostedBy (view m.dir (outcome (replay early) c).cell) m
        → (j : ℕ) × (j ≤ m.epoch) × IsCompleted (early ++ c ∷ []) m.dir t j
    by_post m t i u l (inl was) = let w = a.messages m t (In-from_dir m.dir (replay early).bag m was).0 u in
        (w.0, w.1, completed_on early (c ∷ []) m.dir t w.0 w.2)
    by_post m t i u l (inr p) =
        lifted m.sender m.dir m.epoch t
        (λ z. subst (λ (k : ℕ). IsCompleted (early ++ c ∷ []) m.dir t k) p.epoch (completed_here m.dir m.sender p.replica t p.held z)) l

advances_run : (all early mid late : List Command) → early ++ (mid ++ late) ≡ all → AdvancesHold early → AdvancesHold (early ++ mid)
advances_run all early [] late e a = subst (λ (l : List Command). AdvancesHold l) (sym (append_nil early)) a
advances_run all early (c ∷ mid) late e a =
    subst (λ (l : List Command). AdvancesHold l) (append_assoc early (c ∷ []) mid)
    (advances_run all (early ++ c ∷ []) mid late (append_assoc early (c ∷ []) (mid ++ late) ∙ e) (advances_step all early (mid ++ late) c e a))

-- so it is at each moment of a run
pub advances_lem : (commands : List Command) → AdvancesHold commands
advances_lem commands =
    advances_run commands [] commands [] (append_nil commands) (record { houses = λ x d r t at. absurd (cc); messages = λ m t i. elim i [ ] })
