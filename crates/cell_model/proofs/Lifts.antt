-- Where each AllUpTo comes from, in a step.
use Rattle.std.proofs.Common.{◌≡◌, ℕ, ◌+◌, ◌≤◌, ◌⊎◌, inl, inr, Bool, true, false, eqb, cond, List, [], ◌∷◌, ◌++◌, Option, Some, None, refl, sym, ap}
use Rattle.std.proofs.Common.{◌∙◌, subst, arith, ⊎_elim, le_refl}
use Rattle.cds_stamps.specs.declared.stamp.Stamp.{Stamp}
use Rattle.cds_stamps.specs.Semilattice.{maybe}
use Rattle.cds_stamps.specs.Stamps.{stamp_cmp, later_stamp}
use Rattle.cds_stamps.specs.Members.{Member, others_of}
use Rattle.cell_model.specs.Cells.{Idle, Gathering, Spreading, Replica, Slot, Absent, Gone, Held, House, Copy, Body, Update, Gathered, Spread}
use Rattle.cell_model.specs.Cells.{Advance, Join, Leave, Message, Cell, IsHeld, put, no_house}
use Rattle.cell_model.specs.Commands.{Answer, Complete, Stamped, Accepted}
use Rattle.cell_model.specs.Sets.{In, has}
use Rattle.cell_model.specs.Turns.{with_marks, copy_of, merge_copy, with_slot, to_each, later_up_to, epoch_replica, first_replica}
use Rattle.cell_model.specs.Turns.{crash_slot, replica_of_copy, kept_at_join}
use Rattle.cell_model.specs.Steps.{move_house, member_list_of, left_members, cell_with_directory}
use Rattle.cell_model.proofs.Lists.{eq_from, In-append_cases, In-map}
use Rattle.cell_model.proofs.Facts.{up_to_in}
use Rattle.cell_model.proofs.Marks.{greater_choice}
use Rattle.cell_model.proofs.Views.{put_at, AllOf}
use Rattle.cell_model.proofs.MoveFrames.{taken_not, act_posts, first_joins_dir, epoch_posts_dir}
use Rattle.cell_model.proofs.Moves.{first_told, new_marks, Taking, Act, accepts, skulks, lone, updates, gives, gathers, turns, gathers_again, spreads}
use Rattle.cell_model.proofs.Moves.{acks_early, acks, completes, advances, copies, keeps, leaves, Move, stays, houses, clocks, loses, crashes}
use Rattle.cell_model.proofs.Moves.{epoch_told, starts, acts, founds, crowns, Steps, one, mkdirs}

-- the skulk t completes in this step, at the house x in the directory d
abbrev pub Ended : Answer → Option (ℕ × ℕ) → ℕ → ℕ → Stamp → Type 0
Ended a p d x t = (ns : List ℕ) × (a ≡ Complete t ns) × (p ≡ Some (x, d))

-- an AllUpTo of the house x in epoch e was a house's or a message's of that epoch or an earlier
-- one, or its skulk ends
pub data Lift (g : Cell) (a : Answer) (p : Option (ℕ × ℕ)) (d x e : ℕ) (t : Stamp) : Type 0 where
  of_house : (y : ℕ) (r : Replica) → IsHeld g y d r → r.all_up_to ≡ Some t → r.epoch ≤ e → Lift g a p d x e t
  of_message : (m : Message) → In m g.bag → m.dir ≡ d → up_to_in m.body ≡ Some t → m.epoch ≤ e → Lift g a p d x e t
  of_end : Ended a p d x t → Lift g a p d x e t

-- each AllUpTo in a directory after a step was one before it, or is the stamp of a skulk that
-- completes in it
pub record Lifts (g g' : Cell) (a : Answer) (p : Option (ℕ × ℕ)) (d : ℕ) : Type 0 where
  pub held : (x : ℕ) (r : Replica) (t : Stamp) → IsHeld g' x d r → r.all_up_to ≡ Some t → Lift g a p d x r.epoch t
  pub posts : (m : Message) (t : Stamp) → In m g'.bag → m.dir ≡ d → up_to_in m.body ≡ Some t → In m g.bag ⊎ Lift g a p d m.sender m.epoch t

-- of two AllUpTo the later is one of them
pub later_is : (u w : Option Stamp) (t : Stamp) → maybe later_stamp u w ≡ Some t → (u ≡ Some t) ⊎ (w ≡ Some t)
later_is None w t e = inr e
later_is (Some s) None t e = inl e
later_is (Some s) (Some r) t e =
    ⊎_elim (λ (l : later_stamp s r ≡ s). let z : s ≡ t = cc in inl (ap Some z)) (λ (l : later_stamp s r ≡ r). let z : r ≡ t = cc in
    inr (ap Some z)) (greater_choice stamp_cmp s r)

-- ---- an act

module _ (g : Cell) (a : Answer) (p : Option (ℕ × ℕ)) (h d : ℕ) where
  -- what an act owes
  record Owing (o : Slot) (posts : List Message) : Type 0 where
    held : (r : Replica) (t : Stamp) → o ≡ Held r → r.all_up_to ≡ Some t → Lift g a p d h r.epoch t
    sent : (m : Message) (t : Stamp) → In m posts → up_to_in m.body ≡ Some t → Lift g a p d m.sender m.epoch t

  -- the new slot has this replica, of whose AllUpTo this is known
  slot_is : (q : Replica) → ((t : Stamp) → q.all_up_to ≡ Some t → Lift g a p d h q.epoch t) → (r : Replica) (t : Stamp) → Held q ≡ Held r
      → r.all_up_to ≡ Some t → Lift g a p d h r.epoch t
  slot_is q f r t e = let same_r : q ≡ r = cc in subst (λ (z : Replica). z.all_up_to ≡ Some t → Lift g a p d h z.epoch t) same_r (f t)

  no_posts : (m : Message) (t : Stamp) → In m [] → up_to_in m.body ≡ Some t → Lift g a p d m.sender m.epoch t
  no_posts m t i = elim i [ ]

  -- posts with no AllUpTo, and with that of the sender
  plain_posts : (rs : List ℕ) (dir sender epoch floor : ℕ) (b : Body) → up_to_in b ≡ None → (m : Message) (t : Stamp)
      → In m (to_each rs dir sender epoch floor b) → up_to_in m.body ≡ Some t → Lift g a p d m.sender m.epoch t
  plain_posts rs dir sender epoch floor b none m t i e =
      let w = In-map (λ (x : ℕ). record { receiver = x; dir = dir; sender = sender; epoch = epoch; floor = floor; body = b }) m rs i in
      let is : up_to_in m.body ≡ up_to_in b = ap (λ (z : Message). up_to_in z.body) w.2 in
      absurd (cc)

  its_posts : (rs : List ℕ) (dir epoch floor : ℕ) (b : Body) → ((t : Stamp) → up_to_in b ≡ Some t → Lift g a p d h epoch t) → (m : Message) (t : Stamp)
      → In m (to_each rs dir h epoch floor b) → up_to_in m.body ≡ Some t → Lift g a p d m.sender m.epoch t
  its_posts rs dir epoch floor b f m t i e =
      let w = In-map (λ (x : ℕ). record { receiver = x; dir = dir; sender = h; epoch = epoch; floor = floor; body = b }) m rs i in
      let is : up_to_in b ≡ Some t = ap (λ (z : Message). up_to_in z.body) (sym w.2) ∙ e in
      subst (λ (z : Message). Lift g a p d z.sender z.epoch t) (sym w.2) (f t is)

  one_post : (q : Message) → ((t : Stamp) → up_to_in q.body ≡ Some t → Lift g a p d q.sender q.epoch t) → (m : Message) (t : Stamp) → In m (q ∷ [])
      → up_to_in m.body ≡ Some t → Lift g a p d m.sender m.epoch t
  one_post q f m t (inl e) u = subst (λ (z : Message). up_to_in z.body ≡ Some t → Lift g a p d z.sender z.epoch t) (sym e) (f t) u
  one_post q f m t (inr i) u = elim i [ ]

-- where an AllUpTo comes from at a message that is taken
module _ (g : Cell) (a : Answer) (p : Option (ℕ × ℕ)) (m : Message) (r : Replica) where
  its_own : IsHeld g m.receiver m.dir r → (x : ℕ) (t : Stamp) → r.all_up_to ≡ Some t → Lift g a p m.dir x r.epoch t
  its_own at x t e = of_house m.receiver r at e (le_refl _)

  of_body : (b : Body) → Taking g m b r → (x : ℕ) (t : Stamp) → up_to_in b ≡ Some t → Lift g a p m.dir x r.epoch t
  of_body b k x t e = of_message m k.posted refl (ap up_to_in k.is ∙ e) (omega (arith, k.epoch))

  of_both : (b : Body) (copy : Copy) → Taking g m b r → up_to_in b ≡ copy.all_up_to → (x : ℕ) (t : Stamp)
      → maybe later_stamp r.all_up_to copy.all_up_to ≡ Some t → Lift g a p m.dir x r.epoch t
  of_both b copy k is x t e = ⊎_elim (λ l. its_own k.held x t l) (λ l. of_body b k x t (is ∙ l)) (later_is r.all_up_to copy.all_up_to t e)

act_lifts : (g : Cell) (p : Option (ℕ × ℕ)) (h d floor : ℕ) (o : Slot) (posts : List Message) (a : Answer) (n : List Accepted) → p ≡ Some (h, d)
    → Act g h d floor o posts a n → Owing g a p h d o posts
act_lifts g p h d floor o posts a n at (accepts _ _ u r s ns i fine) = record {
  held = slot_is g a p h d (with_marks r (new_marks r u s)) (λ t e. of_house h r i.held e (le_refl _));
  sent = plain_posts g a p h d _ d h _ _ _ refl;
}
act_lifts g p h d floor o posts a n at (skulks _ _ r s ns i head) = record {
  held = slot_is g a p h d (record r { phase = Gathering s [] }) (λ t e. of_house h r i.held e (le_refl _));
  sent = plain_posts g a p h d _ d h _ _ _ refl;
}
act_lifts g p h d floor o posts a n at (lone _ _ r s i head alone) = record {
  held = slot_is g a p h d (record r { all_up_to = later_up_to r.all_up_to s; phase = Idle }) (λ t e.
      ⊎_elim (λ l. of_house h r i.held l (le_refl _)) (λ (l : Some s ≡ Some t). let z : s ≡ t = cc in
      of_end (subst (λ (y : Stamp). Ended (Complete s []) p d h y) z ([], refl, at))) (later_is r.all_up_to (Some s) t e));
  sent = no_posts g a p h d;
}
act_lifts g p h d floor o posts a n at (updates m marks r ns k) =
    record { held = slot_is g a p h d (with_marks r marks) (λ t e. its_own g a p m r k.held h t e); sent = no_posts g a p h d }
act_lifts g p h d floor o posts a n at (gives m s r ns k) = record {
  held = slot_is g a p h d r (λ t e. its_own g a p m r k.held h t e);
  sent = one_post g a p h d _ (λ t e. of_house m.receiver r k.held e (omega (arith, k.epoch)));
}
act_lifts g p h d floor o posts a n at (gathers m s copy l r ns k run) =
    record {
      held = slot_is g a p h d (record (merge_copy r copy) { phase = Gathering s (m.sender ∷ l) })
          (λ t e. of_both g a p m r (Gathered s copy) copy k refl h t e);
      sent = no_posts g a p h d;
    }
act_lifts g p h d floor o posts a n at (turns m s copy l r ns k run all) = record {
  held = slot_is g a p h d (record (merge_copy r copy) { phase = Spreading s [] }) (λ t e. of_both g a p m r (Gathered s copy) copy k refl h t e);
  sent = its_posts g a p h d _ d _ _ _ (λ t e. of_both g a p m r (Gathered s copy) copy k refl h t e);
}
act_lifts g p h d floor o posts a n at (gathers_again m s copy l r ns k run) =
    record { held = slot_is g a p h d (merge_copy r copy) (λ t e. of_both g a p m r (Gathered s copy) copy k refl h t e); sent = no_posts g a p h d }
act_lifts g p h d floor o posts a n at (spreads m s copy r ns k) = record {
  held = slot_is g a p h d (merge_copy r copy) (λ t e. of_both g a p m r (Spread s copy) copy k refl h t e);
  sent = one_post g a p h d _ (λ t e. absurd (cc));
}
act_lifts g p h d floor o posts a n at (acks_early m s l r ns k run) =
    record { held = slot_is g a p h d r (λ t e. its_own g a p m r k.held h t e); sent = no_posts g a p h d }
act_lifts g p h d floor o posts a n at (acks m s l r ns k run) =
    record { held = slot_is g a p h d (record r { phase = Spreading s (m.sender ∷ l) }) (λ t e. its_own g a p m r k.held h t e); sent = no_posts g a p h d }
act_lifts g p h d floor o posts a n at (completes m s l r ns k run all) = record {
  held = slot_is g a p h d (record r { all_up_to = later_up_to r.all_up_to s; phase = Idle }) (λ t e.
      ⊎_elim (λ z. its_own g a p m r k.held h t z) (λ (z : Some s ≡ Some t). let y : s ≡ t = cc in
      of_end (subst (λ (y : Stamp). Ended (Complete s ns) p d h y) y (ns, refl, at))) (later_is r.all_up_to (Some s) t e));
  sent = its_posts g a p h d _ d _ _ (Advance s) (λ t (e : Some s ≡ Some t). let y : s ≡ t = cc in
      of_end (subst (λ (y : Stamp). Ended (Complete s ns) p d h y) y (ns, refl, at)));
}
act_lifts g p h d floor o posts a n at (advances m s r ns k) = record {
  held = slot_is g a p h d (record r { all_up_to = later_up_to r.all_up_to s })
      (λ t e. ⊎_elim (λ z. its_own g a p m r k.held h t z) (λ z. of_body g a p m r (Advance s) k h t z) (later_is r.all_up_to (Some s) t e));
  sent = no_posts g a p h d;
}
act_lifts g p h d floor o posts a n at (copies m ms copy ns en low) = record {
  held = slot_is g a p h d (replica_of_copy m ms copy) (λ t e. of_message m en.posted refl (ap up_to_in en.is ∙ e) (le_refl _));
  sent = no_posts g a p h d;
}
act_lifts g p h d floor o posts a n at (keeps m ms copy r ns en is le since) = record {
  held = slot_is g a p h d (kept_at_join m ms copy r)
      (λ t e. ⊎_elim (λ z. of_house m.receiver r is z le) (λ z. of_message m en.posted refl (ap up_to_in en.is ∙ z) (le_refl _))
      (later_is r.all_up_to copy.all_up_to t e));
  sent = no_posts g a p h d;
}
act_lifts g p h d floor o posts a n at (leaves m ns en low) = record { held = λ r t e. absurd (cc); sent = no_posts g a p h d }

-- ---- a step

-- where an AllUpTo was before the step
was_held : (g : Cell) (a : Answer) (p : Option (ℕ × ℕ)) (d x : ℕ) (r : Replica) (t : Stamp) → IsHeld g x d r → r.all_up_to ≡ Some t → Lift g a p d x r.epoch t
was_held g a p d x r t at e = of_house x r at e (le_refl _)

still_lifts : (g : Cell) (a : Answer) (p : Option (ℕ × ℕ)) (d : ℕ) (g' : Cell)
    → ((x : ℕ) (r : Replica) → IsHeld g' x d r → (q : Replica) × IsHeld g x d q × (q.all_up_to ≡ r.all_up_to) × (q.epoch ≡ r.epoch))
    → ((m : Message) → In m g'.bag → In m g.bag) → Lifts g g' a p d
still_lifts g a p d g' back bag = record {
  held = λ x r t at e. let w = back x r at in of_house x w.0 w.1 (w.2 ∙ e) (omega (arith, w.3));
  posts = λ m t i dir e. inl (bag m i);
}

changed_lifts : (g : Cell) (a : Answer) (p : Option (ℕ × ℕ)) (h d floor : ℕ) (o : Slot) (posts : List Message) (top : ℕ → ℕ) (present : ℕ
    → List Member) (nd : ℕ) → AllOf d posts → Owing g a p h d o posts → (e : ℕ)
    → Lifts g (record (move_house g h (with_slot (g.house h) d floor o) posts) { top = top; present = present; next_dir = nd }) a p e
changed_lifts g a p h d floor o posts top present nd all w e = record {
  held = put_at (λ x v. (r : Replica) (t : Stamp) → v.slots e ≡ Held r → r.all_up_to ≡ Some t
      → Lift g a p e x r.epoch t) g.house h (with_slot (g.house h) d floor o)
      (λ r t. by_slot (eqb e d) refl r t)
      (λ x _ r t at u. was_held g a p e x r t at u);
  posts = λ m t i dir u. ⊎_elim (λ was. inl was) (λ n. inr (subst (λ (z : ℕ). Lift g a p z m.sender m.epoch t) (sym (all m n) ∙ dir) (w.sent m t n u)))
      (In-append_cases m g.bag posts i);
}
  where
    by_slot : (b : Bool) → eqb e d ≡ b → (r : Replica) (t : Stamp) → cond b o ((g.house h).slots e) ≡ Held r → r.all_up_to ≡ Some t → Lift g a p e h r.epoch t
    by_slot true q r t at u = subst (λ (z : ℕ). Lift g a p z h r.epoch t) (sym (eq_from e d q)) (w.held r t at u)
    by_slot false q r t at u = was_held g a p e h r t at u

crash_back : (o : Slot) (r : Replica) → crash_slot o ≡ Held r → (q : Replica) × (o ≡ Held q) × (q.all_up_to ≡ r.all_up_to) × (q.epoch ≡ r.epoch)
crash_back Absent r e = absurd (cc)
crash_back (Gone k) r e = absurd (cc)
crash_back (Held q) r e =
    let is : record q { phase = Idle } ≡ r = cc in
    (q, refl, ap (λ (z : Replica). z.all_up_to) is, ap (λ (z : Replica). z.epoch) is)

bag_back : (g : Cell) (m : Message) → In m (g.bag ++ []) → In m g.bag
bag_back g m i = ⊎_elim (λ z. z) (λ z. elim z [ ]) (In-append_cases m g.bag [] i)

-- a house that changes, but for its slots
same_slots : (g : Cell) (h : ℕ) (now : House) → ((d : ℕ) → now.slots d ≡ (g.house h).slots d) → (d x : ℕ) (r : Replica)
    → (put g.house h now x).slots d ≡ Held r → (q : Replica) × IsHeld g x d q × (q.all_up_to ≡ r.all_up_to) × (q.epoch ≡ r.epoch)
same_slots g h now same d =
    put_at (λ x v. (r : Replica) → v.slots d ≡ Held r → (q : Replica) × IsHeld g x d q × (q.all_up_to ≡ r.all_up_to) × (q.epoch ≡ r.epoch)) g.house h now
    (λ r e. (r, sym (same d) ∙ e, refl, refl)) (λ x _ r e. (r, e, refl, refl))

first_owing : (g : Cell) (a : Answer) (p : Option (ℕ × ℕ)) (d m : ℕ) (ms : List Member) → Owing g a p m d (Held (first_replica ms)) (first_told g d m ms)
first_owing g a p d m ms = record {
  held = slot_is g a p m d (first_replica ms) (λ t e. absurd (cc));
  sent = plain_posts g a p m d _ d m _ _ _ refl;
}

crown_owing : (g : Cell) (a : Answer) (p : Option (ℕ × ℕ)) (d m k : ℕ) (ms : List Member) (r : Replica) → IsHeld g m d r → r.epoch ≤ k
    → Owing g a p m d (Held (epoch_replica k ms r)) (epoch_told g d m k ms r)
crown_owing g a p d m k ms r at le = record {
  held = slot_is g a p m d (epoch_replica k ms r) (λ t e. of_house m r at e le);
  sent = λ q t i e. ⊎_elim (λ z. its_posts g a p m d (others_of m ms) d k (g.house m).floor (Join ms (copy_of r)) (λ t' u. of_house m r at u le) q t z e)
      (λ z. plain_posts g a p m d (left_members (g.present d) ms) d m k (g.house m).floor Leave refl q t z e)
      (In-append_cases q (to_each (others_of m ms) d m k (g.house m).floor (Join ms (copy_of r)))
      (to_each (left_members (g.present d) ms) d m k (g.house m).floor Leave) i);
}

move_lifts : (g g' : Cell) (p : Option (ℕ × ℕ)) (a : Answer) (n : List Accepted) (d : ℕ)
    → ((x : ℕ) (r : Replica) (e : ℕ) → IsHeld g x e r → r.epoch ≤ g.top e) → ((x : ℕ) → has x g.made ≡ false → g.house x ≡ no_house) → Move g p g' a n
    → Lifts g g' a p d
move_lifts g g' p a n d low unmade (stays b q) = still_lifts g b p d g (λ x r e. (r, e, refl, refl)) (λ m i. i)
move_lifts g g' p a n d low unmade (houses h node free) =
    still_lifts g _ p d _ (same_slots g h _ (λ e. sym (ap (λ (v : House). v.slots e) (unmade h (taken_not g h node g.made free).0))) d) (λ m i. i)
move_lifts g g' p a n d low unmade (clocks h time made) = still_lifts g _ p d _ (same_slots g h _ (λ e. refl) d) (λ m i. i)
move_lifts g g' p a n d low unmade (loses i) = still_lifts g _ p d _ (λ x r e. (r, e, refl, refl)) (λ m z. z)
move_lifts g g' p a n d low unmade (crashes h up) =
    still_lifts g _ p d _ (put_at (λ x v. (r : Replica) → v.slots d ≡ Held r
    → (q : Replica) × IsHeld g x d q × (q.all_up_to ≡ r.all_up_to) × (q.epoch ≡ r.epoch)) g.house h _ (λ r e. crash_back ((g.house h).slots d) r e)
    (λ x _ r e. (r, e, refl, refl))) (bag_back g)
move_lifts g g' p a n d low unmade (starts h made) = still_lifts g _ p d _ (same_slots g h _ (λ e. refl) d) (bag_back g)
move_lifts g g' p a n d low unmade (acts h e at floor o posts b l act) =
    changed_lifts g b p h e floor o posts g.top g.present g.next_dir (act_posts g h e floor o posts b l act) (act_lifts g p h e floor o posts b l at act) d
move_lifts g g' p a n d low unmade (founds e m rs ss ns root up none) =
    changed_lifts g _ p m e _ _ _ _ _ g.next_dir (first_joins_dir g e m _) (first_owing g _ p e m _) d
move_lifts g g' p a n d low unmade (crowns e m rs ss r up known at l since) =
    let le : r.epoch ≤ g.top e + 1 = omega (arith, low m r e at) in
    changed_lifts g _ p m e _ _ _ _ _ g.next_dir (epoch_posts_dir g e m _ _ r) (crown_owing g _ p e m (g.top e + 1) _ r at le) d

-- two changes, of which the second lifts nothing
lifts_on : (g g1 g2 : Cell) (a b : Answer) (p : Option (ℕ × ℕ)) (d : ℕ) → ((x : ℕ) (t : Stamp) → Ended a p d x t → Ended b p d x t) → Lifts g g1 a p d
    → ((x : ℕ) (r : Replica) (t : Stamp) → IsHeld g2 x d r → r.all_up_to ≡ Some t → IsHeld g1 x d r)
    → ((m : Message) (t : Stamp) → In m g2.bag → m.dir ≡ d → up_to_in m.body ≡ Some t → In m g1.bag) → Lifts g g2 b p d
lifts_on g g1 g2 a b p d ends l back bag = record {
  held = λ x r t at e. widen x r.epoch t (l.held x r t (back x r t at e) e);
  posts = λ m t i dir e. ⊎_elim (λ was. inl was) (λ z. inr (widen m.sender m.epoch t z)) (l.posts m t (bag m t i dir e) dir e);
}
  where
    widen : (x e : ℕ) (t : Stamp) → Lift g a p d x e t → Lift g b p d x e t
    widen x e t (of_house y r at u le) = of_house y r at u le
    widen x e t (of_message m i dir u le) = of_message m i dir u le
    widen x e t (of_end z) = of_end (ends x t z)

-- a new directory lifts nothing
founded_back : (g : Cell) (d m : ℕ) (ms : List Member) (nd e : ℕ) (x : ℕ) (r : Replica) (t : Stamp)
    → IsHeld (record (cell_with_directory g d m ms) { next_dir = nd }) x e r → r.all_up_to ≡ Some t → IsHeld g x e r
founded_back g d m ms nd e x r t at u =
    put_at (λ y v. (q : Replica) → v.slots e ≡ Held q → q.all_up_to ≡ Some t
    → IsHeld g y e q) g.house m (with_slot (g.house m) d (g.house m).floor (Held (first_replica ms)))
    (λ q z w. by_slot (eqb e d) q z w) (λ y _ q z w. z) x r at u
  where
    by_slot : (b : Bool) (q : Replica) → cond b (Held (first_replica ms)) ((g.house m).slots e) ≡ Held q → q.all_up_to ≡ Some t → IsHeld g m e q
    by_slot true q z w = let is : first_replica ms ≡ q = cc in let none : None ≡ Some t = ap (λ (y : Replica). y.all_up_to) is ∙ w in absurd (cc)
    by_slot false q z w = z

founded_bag : (g : Cell) (d m : ℕ) (ms : List Member) (q : Message) (t : Stamp) → In q (g.bag ++ first_told g d m ms) → up_to_in q.body ≡ Some t → In q g.bag
founded_bag g d m ms q t i e = ⊎_elim (λ z. z)
    (λ n. let w = In-map (λ (x : ℕ). record {
      receiver = x;
      dir = d;
      sender = m;
      epoch = 1;
      floor = (g.house m).floor;
      body =
          Join ms (copy_of (first_replica ms));
    }) q (others_of m ms) n in
    let none : None ≡ Some t = ap (λ (z : Message). up_to_in z.body) (sym w.2) ∙ e in absurd (cc))
    (In-append_cases q g.bag (first_told g d m ms) i)

-- what a step does to a cell lifts an AllUpTo only so
pub steps_lifts : (g g' : Cell) (p : Option (ℕ × ℕ)) (a : Answer) (n : List Accepted) (d : ℕ)
    → ((x : ℕ) (r : Replica) (e : ℕ) → IsHeld g x e r → r.epoch ≤ g.top e) → ((x : ℕ) → has x g.made ≡ false → g.house x ≡ no_house) → Steps g p g' a n
    → Lifts g g' a p d
steps_lifts g g' p a n d low unmade (one _ _ _ m) = move_lifts g g' p a n d low unmade m
steps_lifts g g' p a n d low unmade (mkdirs h e m u rs ss r s ns at i fine up known) =
    let act = accepts h e u r s ns i fine in
    let first = changed_lifts g (Stamped s ns) p h e s.time _ _ g.top g.present g.next_dir (act_posts g h e s.time _ _ _ n act)
    (act_lifts g p h e s.time _ _ _ n at act) d in
    let g1 : Cell = move_house g h (with_slot (g.house h) e s.time (Held (with_marks r (new_marks r u s))))
    (to_each (others_of h r.members) e h r.epoch s.time (Update (new_marks r u s))) in
    lifts_on g g1 g' (Stamped s ns) a p d (λ x t z. let y = z.1 in absurd (cc)) first
    (λ x q t z w. founded_back g1 g.next_dir m (member_list_of [] 1 m rs ss) (g.next_dir + 1) d x q t z w)
    (λ q t z dir w. founded_bag g1 g.next_dir m (member_list_of [] 1 m rs ss) q t z w)
