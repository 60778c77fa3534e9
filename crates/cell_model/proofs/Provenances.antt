-- Where messages, epochs and histories come from.
use Rattle.std.proofs.Common.{◌≡◌, ℕ, suc, ◌<◌, ◌≤◌, ◌⊎◌, inl, inr, List, [], ◌∷◌, ◌++◌, refl, sym, ◌∙◌, subst, arith, ⊎_elim, le_refl}
use Rattle.cell_model.specs.Cells.{Replica, Slot, Absent, Gone, Held, Message, Cell}
use Rattle.cell_model.specs.Commands.{Command, Accepted}
use Rattle.cell_model.specs.Sets.{IsPart}
use Rattle.cell_model.specs.Steps.{outcome, replay}
use Rattle.cell_model.specs.Provenance.{epoch_of, IsFromSender, TakesCopy, TakesLeave, ProvenanceHolds}
use Rattle.cell_model.proofs.Facts.{View, view, Roll, Reached}
use Rattle.cell_model.proofs.Views.{In-of_dir, In-from_dir}
use Rattle.cell_model.proofs.Passages.{Passage, whole, halves, PostedBy, passage_posts}
use Rattle.cell_model.proofs.Fates.{Fate, keeps, copies, drops, held_once, fates_lem}
use Rattle.cell_model.proofs.Runs.{roll_of, step_passage, reaching_at}

reached_epoch : (e : ℕ) (s : Slot) → Reached e s → e ≤ epoch_of s
reached_epoch e Absent up = elim up [ ]
reached_epoch e (Gone k) up = up
reached_epoch e (Held r) up = up

pub passed_reached : (k : ℕ) (s : Slot) → k < epoch_of s → Reached (suc k) s
passed_reached k Absent lt = absurd (omega arith)
passed_reached k (Gone e) lt = lt
passed_reached k (Held r) lt = lt

-- a house that has reached the next epoch has passed this one
pub reached_passed : (k : ℕ) (s : Slot) → Reached (suc k) s → k < epoch_of s
reached_passed k s up = reached_epoch (suc k) s up

epoch_climbs : (s s' : Slot) → ((e : ℕ) → Reached e s → Reached e s') → epoch_of s ≤ epoch_of s'
epoch_climbs Absent s' up = omega arith
epoch_climbs (Gone e) s' up = reached_epoch e s' (up e (le_refl _))
epoch_climbs (Held r) s' up = reached_epoch r.epoch s' (up r.epoch (le_refl _))

pub passage_climbs : (roll : Roll) (v v' : View) (n : List Accepted) → Passage roll v v' n → (x e : ℕ) → Reached e (v.house x).slot
    → Reached e (v'.house x).slot
passage_climbs roll v v' n (whole f acc) x e up = f.climbs x e up
passage_climbs roll v v' n (halves h) x e up = h.second.climbs x e (h.first.climbs x e up)

shrunk : (g : Cell) (c : Command) (x d : ℕ) (r r' : Replica) (after : Slot) → after ≡ Held r' → Fate g c x d r after
    → IsPart r.history r'.history ⊎ TakesCopy g c x d r r'
shrunk g c x d r r' after at (keeps q is sub) = let same : q ≡ r' = held_once after q r' is at in
    inl (subst (λ (z : Replica). IsPart r.history z.history) same sub)
shrunk g c x d r r' after at (copies q is w) = let same : q ≡ r' = held_once after q r' is at in inr (subst (λ (z : Replica). TakesCopy g c x d r z) same w)
shrunk g c x d r r' after at (drops w) = let z : Gone (w.message).epoch ≡ Held r' = sym w.is ∙ at in absurd (cc)

dropped : (g : Cell) (c : Command) (x d : ℕ) (r : Replica) (after : Slot) → Fate g c x d r after
    → ((r' : Replica) × (after ≡ Held r')) ⊎ TakesLeave g c x d after
dropped g c x d r after (keeps q is sub) = inl (q, is)
dropped g c x d r after (copies q is w) = inl (q, is)
dropped g c x d r after (drops w) = inr w

-- where messages, epochs and histories come from, in every run
pub provenance_lem : (commands : List Command) (c : Command) → ProvenanceHolds (replay commands) c (outcome (replay commands) c).cell
provenance_lem commands c = record {
  posts = λ m i. ⊎_elim (λ was. inl (In-from_dir m.dir (replay commands).bag m was).0) (λ p. inr (from m p))
      (passage_posts (roll_of m.dir all) _ _ _ (passed m.dir) m (In-of_dir m.dir (outcome (replay commands) c).cell.bag m i refl));
  epochs = λ x d. epoch_climbs (((replay commands).house x).slots d) (((outcome (replay commands) c).cell.house x).slots d)
      (λ e up. passage_climbs (roll_of d all) _ _ _ (passed d) x e up);
  shrinks = λ x d r r' at at'. shrunk (replay commands) c x d r r' _ at' (fates_lem commands c x d r at);
  drops = λ x d r at. dropped (replay commands) c x d r _ (fates_lem commands c x d r at);
}
  where
    all : List Command
    all = commands ++ c ∷ []

    passed : (d : ℕ) → Passage (roll_of d (commands ++ c ∷ [])) (view d (replay commands)) (view d (outcome (replay commands) c).cell)
        (outcome (replay commands) c).accepted
    passed d = step_passage d (commands ++ c ∷ []) commands [] c refl (reaching_at d (commands ++ c ∷ []) commands (c ∷ []) refl)

    from : (m : Message) → PostedBy (view m.dir (outcome (replay commands) c).cell) m → IsFromSender (outcome (replay commands) c).cell m
    from m p = record { replica = p.replica; held = p.held; epoch = sym p.epoch; floor = p.floor; marks = p.marks; copy = p.copied }
