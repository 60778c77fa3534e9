-- The Joins of an epoch that leaves houses out are taken, one after the other, while its Leaves
-- wait after them.
use Rattle.std.proofs.Common.{◌≡◌, ◌≢◌, ℕ, ◌+◌, ◌<◌, suc, inl, inr, Bool, true, false, ◌&&◌, cond, List, [], ◌∷◌, ◌++◌, length, Option, Some, None}
use Rattle.std.proofs.Common.{refl, sym, ap, ◌∙◌, subst, arith, nat_lt, nat_le, length-append}
use Rattle.cds_stamps.specs.declared.stamp.Stamp.{Stamp}
use Rattle.cds_stamps.specs.Members.{Member, is_listed, since_in}
use Rattle.cell_model.specs.Cells.{Replica, Slot, Absent, Gone, Held, House, Copy, Join, Message, Cell, IsHeld}
use Rattle.cell_model.specs.Commands.{Deliver, Foreign}
use Rattle.cell_model.specs.Sets.{In, has}
use Rattle.cell_model.specs.Turns.{HouseStep, Stays, with_slot, floor_after, take_and_answer, to_each, stamp_at, replica_of_copy, kept_at_join, join_replica, late_join, unless_late, take}
use Rattle.cell_model.specs.Provenance.{epoch_of}
use Rattle.cell_model.specs.Mending.{deliver_commands}
use Rattle.cell_model.proofs.Lists.{append_nil}
use Rattle.cell_model.proofs.Views.{put_at, put_same, put_other}
use Rattle.cell_model.proofs.Deliveries.{Run, run_none, run_first, run_map, Waiting, delivered, waiting_next}
use Rattle.cell_model.proofs.Readiness.{changed, letter}
use Rattle.cell_model.proofs.Answerings.{Once, AreOthers}
use Rattle.cell_model.proofs.ReadySkulks.{CanSkulk}

-- after messages that are passed over, those wait that are posted later
passed_over : (g : Cell) (p : ℕ) (ms : List Message) → Waiting g p ms → Waiting g (p + length ms) []
passed_over g p ms w = record {
  before = w.before ++ ms;
  bag = w.bag ∙ sym (append_nil (w.before ++ ms));
  count = length-append w.before ms ∙ ap (λ (n : ℕ). n + length ms) w.count;
  lost = λ n lt. w.lost n (omega (arith, lt));
}

-- a Join of an epoch above that of the slot is not late
not_late : (k : ℕ) (s : Slot) → epoch_of s < k → late_join k s ≡ None
not_late k Absent lt = refl
not_late k (Gone e) lt = let q : nat_le k e ≡ false = grind arith in ap (λ (b : Bool). cond b (Some e) None) q
not_late k (Held r) lt = let q : nat_lt k r.epoch ≡ false = grind arith in ap (λ (b : Bool). cond b (Some r.epoch) None) q

-- what a Join leaves is of its epoch, with its list
joined_is : (z : Message) (ms : List Member) (copy : Copy) (s : Slot) → ((join_replica z ms copy s).epoch ≡ z.epoch) × ((join_replica z ms copy s).members ≡ ms)
joined_is z ms copy Absent = (refl, refl)
joined_is z ms copy (Gone e) = (refl, refl)
joined_is z ms copy (Held r) = by_since (nat_le (since_in ms z.receiver 0) r.epoch)
  where
    by_since : (b : Bool) → ((cond b (kept_at_join z ms copy r) (replica_of_copy z ms copy)).epoch ≡ z.epoch)
        × ((cond b (kept_at_join z ms copy r) (replica_of_copy z ms copy)).members ≡ ms)
    by_since true = (refl, refl)
    by_since false = (refl, refl)

-- a house of an older epoch takes the Join
join_taken : (now : House) (d k y m floor : ℕ) (ms : List Member) (copy : Copy) → epoch_of (now.slots d) < k → is_listed y ms ≡ true → is_listed m ms ≡ true
    → take now (letter d k y m floor (Join ms copy))
    ≡ take_and_answer now (letter d k y m floor (Join ms copy)) (Held (join_replica (letter d k y m floor (Join ms copy)) ms copy (now.slots d))) []
join_taken now d k y m floor ms copy lt at by =
    let z : Message = letter d k y m floor (Join ms copy) in
    let s : HouseStep = take_and_answer now z (Held (join_replica z ms copy (now.slots d))) [] in
    let both : (is_listed y ms && is_listed m ms) ≡ true = ap (λ (b : Bool). b && is_listed m ms) at ∙ by in
    ap (λ (o : Option ℕ). unless_late z o (cond (is_listed y ms && is_listed m ms) s (Stays Foreign))) (not_late k (now.slots d) lt)
    ∙ ap (λ (b : Bool). cond b s (Stays Foreign)) both

-- the master holds the new epoch, and so does each house of its list but for these, whose Joins
-- wait, and after them other messages
pub record Joining (d m k : ℕ) (ms : List Member) (next : Option Stamp) (floor : ℕ) (copy : Copy) (leaves : List Message) (ys : List ℕ) (p : ℕ) (g : Cell) : Type 0 where
  pub up : (x : ℕ) → is_listed x ms ≡ true → (g.house x).up ≡ true
  pub holds : (x : ℕ) → is_listed x ms ≡ true → (In x ys → ⊥) → (r : Replica) × IsHeld g x d r × (r.epoch ≡ k) × (r.members ≡ ms)
  pub below : (x : ℕ) → In x ys → epoch_of ((g.house x).slots d) < k
  pub waiting : Waiting g p (to_each ys d m k floor (Join ms copy) ++ leaves)
  pub known : g.top d ≢ 0
  pub made : has m g.made ≡ true
  pub stamp : stamp_at (g.house m) ≡ next

module _ (d m k : ℕ) (ms : List Member) (next : Option Stamp) (floor : ℕ) (copy : Copy) (leaves : List Message) (master_listed : is_listed m ms ≡ true) where
  joined_none : (g : Cell) (p : ℕ) → Joining d m k ms next floor copy leaves [] p g → CanSkulk d m k ms next ((p + 0) + length leaves) g
  joined_none g p j =
      let place : p + length leaves ≡ (p + 0) + length leaves = omega arith in
      record {
        ready = record { up = j.up; holds = λ x l. j.holds x l (λ i. elim i [ ]) };
        waiting = subst (λ (n : ℕ). Waiting g n []) place (passed_over g p leaves j.waiting);
        known = j.known;
        made = j.made;
        stamp = j.stamp;
      }

  -- one of them takes its Join
  joining_next : (y : ℕ) (ys : List ℕ) (g : Cell) (p : ℕ) → Once (y ∷ ys) → AreOthers m ms (y ∷ ys) → Joining d m k ms next floor copy leaves (y ∷ ys) p g
      → Joining d m k ms next floor copy leaves ys (p + 1)
      (changed g y d (floor_after (g.house y) (letter d k y m floor (Join ms copy)))
      (join_replica (letter d k y m floor (Join ms copy)) ms copy ((g.house y).slots d)) [])
  joining_next y ys g p once others j =
      let z : Message = letter d k y m floor (Join ms copy) in
      let f : ℕ = floor_after (g.house y) z in
      let r : Replica = join_replica z ms copy ((g.house y).slots d) in
      let is = joined_is z ms copy ((g.house y).slots d) in
      let now : House = with_slot (g.house y) d f (Held r) in
      let h : Cell = changed g y d f r [] in
      let here = others y (inl refl) in
      let rest : List Message = to_each ys d m k floor (Join ms copy) ++ leaves in
      record {
        up = put_at (λ x (w : House). is_listed x ms ≡ true → w.up ≡ true) g.house y now (λ l. j.up y l) (λ x _ l. j.up x l);
        holds = put_at
            (λ x (w : House). is_listed x ms ≡ true → (In x ys → ⊥) → (q : Replica) × (w.slots d ≡ Held q) × (q.epoch ≡ k) × (q.members ≡ ms)) g.house y now
            (λ l n. (r, put_same (g.house y).slots d (Held r), is.0, is.1))
            (λ x apart l n. j.holds x l (λ i. by_place x apart n i));
        below = λ x i. subst (λ (w : House). epoch_of (w.slots d) < k)
            (sym (put_other g.house y now x (λ e. once.0 (subst (λ (v : ℕ). In v ys) e i)))) (j.below x (inr i));
        waiting = subst (λ (l : List Message). Waiting h (p + 1) l) (append_nil rest) (waiting_next g h p z rest [] j.waiting refl refl);
        known = j.known;
        made = j.made;
        stamp = ap stamp_at (put_other g.house y now m (λ e. here.0 (sym e))) ∙ j.stamp;
      }
    where
      by_place : (x : ℕ) → x ≢ y → (In x ys → ⊥) → In x (y ∷ ys) → ⊥
      by_place x apart n (inl e) = apart e
      by_place x apart n (inr i) = n i

  -- all of them take their Joins, and the messages after those are passed over
  pub join_run : (ys : List ℕ) (g : Cell) (p : ℕ) → Once ys → AreOthers m ms ys → Joining d m k ms next floor copy leaves ys p g
      → Run g (deliver_commands p (length ys)) (CanSkulk d m k ms next ((p + length ys) + length leaves))
  join_run [] g p once others j = run_none g (CanSkulk d m k ms next ((p + 0) + length leaves)) (joined_none g p j)
  join_run (y ∷ ys) g p once others j =
      let here = others y (inl refl) in
      let z : Message = letter d k y m floor (Join ms copy) in
      let h : Cell = changed g y d (floor_after (g.house y) z) (join_replica z ms copy ((g.house y).slots d)) [] in
      let place : ((p + 1) + length ys) + length leaves ≡ (p + suc (length ys)) + length leaves = omega arith in
      run_first g (Deliver (p + 1)) (deliver_commands (p + 1) (length ys)) (CanSkulk d m k ms next ((p + suc (length ys)) + length leaves)) _
      (delivered g p z (to_each ys d m k floor (Join ms copy) ++ leaves) _ j.waiting (j.up y here.1)
      (join_taken (g.house y) d k y m floor ms copy (j.below y (inl refl)) here.1 master_listed)) tt
      (run_map h (deliver_commands (p + 1) (length ys)) (CanSkulk d m k ms next (((p + 1) + length ys) + length leaves))
      (CanSkulk d m k ms next ((p + suc (length ys)) + length leaves))
      (join_run ys h (p + 1) once.1 (λ x i. others x (inr i)) (joining_next y ys g p once others j))
      (λ c s. subst (λ (n : ℕ). CanSkulk d m k ms next n c) place s))
