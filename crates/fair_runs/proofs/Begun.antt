-- The step that begins a skulk.
use Rattle.std.proofs.Common.{◌≡◌, ℕ, ◌<◌, ◌⊎◌, inl, inr, Bool, true, false, eqb, cond, List, [], ◌∷◌, Option, Some, None, refl, sym, ap, subst, ⊎_elim}
use Rattle.cds_stamps.specs.declared.stamp.Stamp.{Stamp}
use Rattle.cds_stamps.specs.Members.{master_of, others_of}
use Rattle.directory.specs.declared.update.UpdateRefusal.TheVariants.{NotMaster}
use Rattle.cell_model.specs.Cells.{Gathering, Replica, Slot, Absent, Gone, Held, Gather, Message, Cell, IsHeld}
use Rattle.cell_model.specs.Commands as commands
use Rattle.cell_model.specs.Commands.{Refusal, Stamped}
use Rattle.cell_model.specs.Sets.{In}
use Rattle.cell_model.specs.Turns.{refuses, to_each, stamp_at, begin, skulk_at, skulk_in}
use Rattle.cell_model.specs.Steps.{unless, at_house, first_refusal, refusals_of, effect, outcome}
use Rattle.cell_model.proofs.Lists.{In-append_right, In-append_cases, In-map}
use Rattle.cell_model.proofs.Marks.{stamp_next}
use Rattle.cell_model.proofs.Passages.{slot_after}
use Rattle.fair_runs.proofs.Phases.{in_map}

-- a question of the first round to this house
pub record Questioned (g : Cell) (h d k : ℕ) (t : Stamp) (x : ℕ) : Type 0 where
  pub message : Message
  pub posted : In message g.bag
  pub dir : message.dir ≡ d
  pub receiver : message.receiver ≡ x
  pub sender : message.sender ≡ h
  pub epoch : message.epoch ≡ k
  pub body : message.body ≡ Gather t

-- what a skulk that begins leaves: its master gathers, and asked each other member, of which there
-- is one
pub record Begun (was g : Cell) (h d : ℕ) (t : Stamp) : Type 0 where
  pub replica : Replica
  pub held : IsHeld g h d replica
  pub phase : replica.phase ≡ Gathering t []
  pub another : ℕ
  pub other : In another (others_of h replica.members)
  pub asked : (x : ℕ) → In x (others_of h replica.members) → Questioned g h d replica.epoch t x
  pub posted : (m : Message) → In m g.bag → In m was.bag ⊎ (m.body ≡ Gather t)
  pub fresh : (was.house h).floor < t.time

-- by the other members
begin_begun : (g : Cell) (h d : ℕ) (r : Replica) (s t : Stamp) (ns os : List ℕ) → others_of h r.members ≡ os → (g.house h).floor < s.time
    → (at_house g h (begin h (g.house h) d r s os)).answer ≡ Stamped t ns → Begun g (at_house g h (begin h (g.house h) d r s os)).cell h d t
begin_begun g h d r s t ns [] same lt e = absurd (cc)
begin_begun g h d r s t ns (y ∷ ys) same lt e =
    let is : s ≡ t = cc in
    subst (λ (z : Stamp). Begun g (at_house g h (begin h (g.house h) d r s (y ∷ ys))).cell h d z) is (record {
      replica = record r { phase = Gathering s [] };
      held = slot_after g h d s.time (Held (record r { phase = Gathering s [] }));
      phase = refl;
      another = y;
      other = subst (λ (l : List ℕ). In y l) (sym same) (inl refl);
      asked = λ x i.
          let z : Message = record { receiver = x; dir = d; sender = h; epoch = r.epoch; floor = s.time; body = Gather s } in
          record {
            message = z;
            posted = In-append_right z g.bag (to_each (y ∷ ys) d h r.epoch s.time (Gather s))
                (in_map (λ (v : ℕ). record { receiver = v; dir = d; sender = h; epoch = r.epoch; floor = s.time; body = Gather s }) x (y ∷ ys)
                (subst (λ (l : List ℕ). In x l) same i));
            dir = refl;
            receiver = refl;
            sender = refl;
            epoch = refl;
            body = refl;
          };
      posted = λ m i. ⊎_elim (λ was. inl was)
          (λ new. inr (ap (λ (z : Message). z.body)
          (In-map (λ (v : ℕ). record { receiver = v; dir = d; sender = h; epoch = r.epoch; floor = s.time; body = Gather s }) m (y ∷ ys) new).2))
          (In-append_cases m g.bag (to_each (y ∷ ys) d h r.epoch s.time (Gather s)) i);
      fresh = lt;
    })

-- by the stamp, if there is one
stamped_begun : (g : Cell) (h d : ℕ) (r : Replica) (o : Option Stamp) (t : Stamp) (ns : List ℕ) → stamp_at (g.house h) ≡ o
    → (at_house g h (skulk_at h (g.house h) d r o)).answer ≡ Stamped t ns → Begun g (at_house g h (skulk_at h (g.house h) d r o)).cell h d t
stamped_begun g h d r None t ns at e = absurd (cc)
stamped_begun g h d r (Some s) t ns at e =
    begin_begun g h d r s t ns (others_of h r.members) refl (stamp_next (g.house h).clock (g.house h).floor (g.house h).node s at).0 e

-- by what the house has of the directory
slot_begun : (g : Cell) (h d : ℕ) (o : Slot) (t : Stamp) (ns : List ℕ) → (at_house g h (skulk_in h (g.house h) d o)).answer ≡ Stamped t ns
    → Begun g (at_house g h (skulk_in h (g.house h) d o)).cell h d t
slot_begun g h d Absent t ns e = absurd (cc)
slot_begun g h d (Gone k) t ns e = absurd (cc)
slot_begun g h d (Held r) t ns e = by_master (eqb (master_of r.members) h) e
  where
    by_master : (b : Bool) → (at_house g h (cond b (skulk_at h (g.house h) d r (stamp_at (g.house h))) (refuses NotMaster))).answer ≡ Stamped t ns
        → Begun g (at_house g h (cond b (skulk_at h (g.house h) d r (stamp_at (g.house h))) (refuses NotMaster))).cell h d t
    by_master true q = stamped_begun g h d r (stamp_at (g.house h)) t ns refl q
    by_master false q = absurd (cc)

-- unless it is refused
unless_begun : (g : Cell) (h d : ℕ) (o : Option Refusal) (t : Stamp) (ns : List ℕ) → (unless g o (effect g (commands.Skulk h d))).answer ≡ Stamped t ns
    → Begun g (unless g o (effect g (commands.Skulk h d))).cell h d t
unless_begun g h d None t ns e = slot_begun g h d ((g.house h).slots d) t ns e
unless_begun g h d (Some r) t ns e = absurd (cc)

-- a skulk that is answered with its stamp has begun
pub begun : (g : Cell) (h d : ℕ) (t : Stamp) (ns : List ℕ) → (outcome g (commands.Skulk h d)).answer ≡ Stamped t ns
    → Begun g (outcome g (commands.Skulk h d)).cell h d t
begun g h d t ns e = unless_begun g h d (first_refusal (refusals_of g (commands.Skulk h d))) t ns e
