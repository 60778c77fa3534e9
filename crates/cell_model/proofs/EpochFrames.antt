-- New directories and new epochs.
use Rattle.std.proofs.Common.{◌≡◌, ℕ, suc, ◌<◌, ◌≤◌, ◌⊎◌, inl, inr, true, false, List, [], refl, sym, ap, ◌∙◌, subst, arith, ⊎_elim, le_refl, le_trans}
use Rattle.std.proofs.lemmas.Bool.{cases_lt}
use Rattle.cds_stamps.specs.Members.{Member, master_of, others_of, is_listed, since_in}
use Rattle.cell_model.specs.Cells.{Replica, Gone, Held, Join, Leave, Message, Cell, IsHeld, put, no_house}
use Rattle.cell_model.specs.Sets.{In, has}
use Rattle.cell_model.specs.Turns.{to_each, copy_of, first_replica, epoch_replica}
use Rattle.cell_model.specs.Steps.{member_list_of, left_members}
use Rattle.cell_model.proofs.Lists.{In-append_cases}
use Rattle.cell_model.proofs.Terms.{Listed, listed_at, since_listed, In-others_of, master_new, master_listed, since_new, listed_before, leaving_out}
use Rattle.cell_model.proofs.Facts.{Seat, View, view, Roll, Reached, Good, Sound, Past, crowned, founded, own, New, Frame}
use Rattle.cell_model.proofs.Bounds.{reached_held, held_low}
use Rattle.cell_model.proofs.FirstRound.{slot_cases}
use Rattle.cell_model.proofs.Moves.{first_told, epoch_told}
use Rattle.cell_model.proofs.Views.{put_back, altered}
use Rattle.cell_model.proofs.Frames.{altered_frame, new_each, held_owed}

-- what holds of houses and directories at large: a house that was not made is none; the nodes of
-- the others are theirs alone; the numbers from the next one on name no directory; and what names
-- none has no list
pub record Whole (home : ℕ → ℕ) (g : Cell) : Type 0 where
  pub two : 2 ≤ g.next_dir
  pub unmade : (x : ℕ) → has x g.made ≡ false → g.house x ≡ no_house
  pub at_home : (x : ℕ) → has x g.made ≡ true → home (g.house x).node ≡ x
  pub unknown : (d : ℕ) → g.next_dir ≤ d → g.top d ≡ 0
  pub bare : (d : ℕ) → g.top d ≡ 0 → g.present d ≡ []

-- ---- one more epoch

good_next : (roll : Roll) (top k m : ℕ) (rs ss : List ℕ) → k ≡ suc top → Good roll top → roll.list k ≡ member_list_of (roll.list top) k m rs ss
    → (1 ≤ top → (b : ℕ) × Listed (roll.list top) m b) → Good roll k
good_next roll top k m rs ss next g new head = record {
  none = g.none;
  order = λ e x s le l. ⊎_elim
      (λ (old : e < k). g.order e x s (omega arith) l)
      (λ (ge : k ≤ e). let is : e ≡ k = omega arith in
      ⊎_elim (λ o. le_trans (g.order top x s (le_refl _) o) (omega arith)) (λ q. omega arith) (at_new x s (subst (λ (z : ℕ). Listed (roll.list z) x s) is l)))
      (cases_lt e k);
  term = λ d e x s de le sd l. ⊎_elim
      (λ (old : e < k). g.term d e x s de (omega arith) sd l)
      (λ (ge : k ≤ e). let is : e ≡ k = omega arith in
      ⊎_elim
      (λ (low : d < k). ⊎_elim
      (λ o. g.term d top x s (omega arith) (le_refl _) sd o)
      (λ q. absurd (omega (arith, q, sd, low)))
      (at_new x s (subst (λ (z : ℕ). Listed (roll.list z) x s) is l)))
      (λ (high : k ≤ d). let same_e : e ≡ d = omega arith in subst (λ (z : ℕ). Listed (roll.list z) x s) same_e l)
      (cases_lt d k))
      (cases_lt e k);
  chain = λ e low le. ⊎_elim
      (λ (old : suc e < k). g.chain e low (omega arith))
      (λ (ge : k ≤ suc e). let is : suc e ≡ k = omega arith in let below : e ≡ top = omega arith in
      let h = head (omega arith) in
      let master : master_of (roll.list (suc e)) ≡ m = ap (λ (z : ℕ). master_of (roll.list z)) is ∙ ap master_of new ∙ master_new (roll.list top) k m rs ss in
      (h.0, subst (λ (z : ℕ). Listed (roll.list e) z h.0) (sym master) (subst (λ (z : ℕ). Listed (roll.list z) m h.0) (sym below) h.1)))
      (cases_lt (suc e) k);
}
  where
    at_new : (x s : ℕ) → Listed (roll.list k) x s → Listed (roll.list top) x s ⊎ (s ≡ k)
    at_new x s l = listed_before (roll.list top) k m x s rs ss (subst (λ (z : List Member). Listed z x s) new l)

-- the heads of the epochs, after one more at the house m
heads_next : (roll : Roll) (v : View) (m floor k : ℕ) (q : Replica) → k ≡ suc v.top → q.epoch ≡ k → master_of (roll.list k) ≡ m → (e : ℕ) → suc e ≤ k
    → (suc e ≤ v.top) ⊎ Reached (suc e) (put v.house m (record { floor = floor; slot = Held q }) (master_of (roll.list (suc e)))).slot
heads_next roll v m floor k q next ep head e le = ⊎_elim
    (λ (old : suc e < k). inl (omega arith))
    (λ (ge : k ≤ suc e).
    let is : suc e ≡ k = omega arith in
    let at : master_of (roll.list (suc e)) ≡ m = ap (λ (z : ℕ). master_of (roll.list z)) is ∙ head in
    let low : suc e ≤ q.epoch = omega arith in
    inr (subst (λ (z : ℕ). Reached (suc e) (put v.house m (record { floor = floor; slot = Held q }) z).slot) (sym at)
    (put_back (λ (y : Seat). Reached (suc e) y.slot) v.house m (record { floor = floor; slot = Held q }) low)))
    (cases_lt (suc e) k)

-- a new directory
module _ (roll : Roll) (g : Cell) (d m : ℕ) (rs ss : List ℕ) (w : Whole roll.home g) (s : Sound roll (view d g)) (none : g.top d ≡ 0)
    (fit : member_list_of [] 1 m rs ss ≡ roll.list 1) where
  abbrev v : View
  v = view d g

  abbrev ms : List Member
  ms = member_list_of [] 1 m rs ss

  abbrev q : Replica
  q = first_replica ms

  abbrev after : View
  after = altered v m (g.house m).floor (Held q) (first_told g d m ms) 1 ms

  vacant : (e : ℕ) → Reached e (v.house m).slot → ⊥
  vacant e up = ⊎_elim
      (λ (z : (r : Replica) × ((v.house m).slot ≡ Held r) × (e ≤ r.epoch)). omega (arith, held_low roll v m z.0 s z.1, (s.held m z.0 z.1).top, none))
      (λ (z : (k : ℕ) × ((v.house m).slot ≡ Gone k) × (e ≤ k)). let o = s.gone m z.0 z.1 in omega (arith, o.0, o.1, none))
      (slot_cases e _ up)

  mine : (b : ℕ) × Listed (roll.list 1) m b
  mine = (since_in ms m 0, subst (λ (z : List Member). Listed z m (since_in ms m 0)) fit (listed_at ms m (master_listed [] 1 m rs ss)))

  empty : [] ≡ roll.list 0
  empty = sym (w.bare d none) ∙ s.present ∙ ap roll.list none

  -- a new directory frames the step
  pub founds_frame : Frame roll v after []
  founds_frame =
      altered_frame roll v [] m (g.house m).floor (Held q) (first_told g d m ms) 1 ms s
      (record {
        rises = le_refl _;
        climbs = λ e up. absurd (vacant e up);
        past = λ r' e. let is : q ≡ r' = cc in subst (λ (z : Replica). Past roll v after m (g.house m).floor z) is (founded none refl refl refl mine refl);
        comes = λ r' k e i. let is : q ≡ r' = cc in absurd (subst (λ (z : Replica). In k z.history) (sym is) i);
        next = λ _ _. inl (q, refl);
        gone = λ e z. absurd (cc);
      })
      (new_each roll v [] m (g.house m).floor (Held q) (first_told g d m ms) 1 ms s q refl (others_of m ms) d 1 (g.house m).floor (Join ms (copy_of q)) refl
      refl (λ k i. i) (inl (λ k i. i)) (λ c e. cc)
      (λ x o. let l = listed_at ms x (In-others_of x m ms o).1 in
      (fit, (since_in ms x 0, subst (λ (z : List Member). Listed z x (since_in ms x 0)) fit l), λ k i. i)))
      (omega (arith, none))
      (good_next roll 0 1 m rs ss refl (subst (λ (z : ℕ). Good roll z) none s.good) (sym fit
      ∙ ap (λ (z : List Member). member_list_of z 1 m rs ss) empty) (λ z. absurd (omega arith)))
      fit
      (heads_next roll v m (g.house m).floor 1 q (ap suc (sym none)) refl (ap master_of (sym fit) ∙ master_new [] 1 m rs ss))

-- a new epoch
module _ (roll : Roll) (g : Cell) (d m k : ℕ) (rs ss : List ℕ) (r : Replica) (next : k ≡ suc (g.top d)) (s : Sound roll (view d g)) (at : IsHeld g m d r)
    (l : is_listed m (g.present d) ≡ true) (since : since_in (g.present d) m 0 ≤ r.epoch) (fit : member_list_of (g.present d) k m rs ss ≡ roll.list k) where
  abbrev v2 : View
  v2 = view d g

  abbrev ms2 : List Member
  ms2 = member_list_of (g.present d) k m rs ss

  abbrev q2 : Replica
  q2 = epoch_replica k ms2 r

  abbrev after2 : View
  after2 = altered v2 m (g.house m).floor (Held q2) (epoch_told g d m k ms2 r) k ms2

  low : r.epoch < k
  low = omega (arith, (s.held m r at).top, next)

  mine2 : (b : ℕ) × Listed (roll.list k) m b
  mine2 = (since_in ms2 m 0, subst (λ (z : List Member). Listed z m (since_in ms2 m 0)) fit (listed_at ms2 m (master_listed (g.present d) k m rs ss)))

  cont : (b : ℕ) → Listed (roll.list k) m b → b ≤ r.epoch
  cont b lb =
      let e = since_new (g.present d) k m m rs ss (master_listed (g.present d) k m rs ss) in
      let f = since_listed m k (g.present d) l in
      let lb' : Listed ms2 m b = subst (λ (z : List Member). Listed z m b) (sym fit) lb in
      omega (arith, lb'.1, e, f, since)

  joins : (p : Message) → In p (to_each (others_of m ms2) d m k (g.house m).floor (Join ms2 (copy_of r))) → New roll v2 after2 [] p
  joins p i = new_each roll v2 [] m (g.house m).floor (Held q2) (epoch_told g d m k ms2 r) k ms2 s q2 refl (others_of m ms2) d k (g.house m).floor
      (Join ms2 (copy_of r)) refl refl (λ j z. z) (inl (λ j z. z)) (λ c e. cc)
      (λ x o. let lx = listed_at ms2 x (In-others_of x m ms2 o).1 in
      (fit, (since_in ms2 x 0, subst (λ (z : List Member). Listed z x (since_in ms2 x 0)) fit lx), λ j z. z)) p i

  leavers : (p : Message) → In p (to_each (left_members (g.present d) ms2) d m k (g.house m).floor Leave) → New roll v2 after2 [] p
  leavers p i = new_each roll v2 [] m (g.house m).floor (Held q2) (epoch_told g d m k ms2 r) k ms2 s q2 refl (left_members (g.present d) ms2) d k
      (g.house m).floor Leave refl refl (λ j z. elim z [ ]) (inr (λ j z. elim z [ ])) (λ c e. cc)
      (λ x o b lb. let out = leaving_out x (g.present d) ms2 o in let lb' : Listed ms2 x b = subst (λ (z : List Member). Listed z x b) (sym fit) lb in
      let within : is_listed x ms2 ≡ true = lb'.0 in absurd (cc)) p i

  -- so does a new epoch
  pub crowns_frame : Frame roll v2 after2 []
  crowns_frame =
      altered_frame roll v2 [] m (g.house m).floor (Held q2) (epoch_told g d m k ms2 r) k ms2 s
      (held_owed roll v2 [] m (g.house m).floor (Held q2) (epoch_told g d m k ms2 r) k ms2 s q2 refl (le_refl _)
      (λ e up. let z = reached_held e _ r at up in omega (arith, low))
      (crowned r at low (λ j i. i) cont (omega (arith, next)) refl refl mine2 refl)
      (λ j i. own r at i (omega (arith, low)) cont (λ k z. z)))
      (λ p i. ⊎_elim (joins p) (leavers p) (In-append_cases p _ _ i))
      (omega (arith, next))
      (good_next roll (g.top d) k m rs ss next s.good (sym fit ∙ ap (λ (z : List Member). member_list_of z k m rs ss) s.present)
      (λ _. (since_in (g.present d) m 0, subst (λ (z : List Member). Listed z m (since_in (g.present d) m 0)) s.present (listed_at (g.present d) m l))))
      fit
      (heads_next roll v2 m (g.house m).floor k q2 next refl (ap master_of (sym fit) ∙ master_new (g.present d) k m rs ss))
