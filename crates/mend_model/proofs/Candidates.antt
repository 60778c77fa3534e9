-- Who is chosen to be master: a house that stays, and holds the directory at its `since` or later.
use Rattle.std.proofs.Common.{◌≡◌, ℕ, ◌≤◌, inl, inr, Bool, true, false, eqb, cond, List, [], ◌∷◌, Option, Some, None, refl, sym, ap, ◌∙◌, subst, arith, nat_lt, nat_le}
use Rattle.std.specs.Option.{option_map}
use Rattle.std.proofs.lemmas.Bool.Decides.{nat_tests}
use Rattle.cds_stamps.specs.Members.{Member, is_listed, since_in}
use Rattle.cell_model.specs.Cells.{Replica, Slot, Absent, Gone, Held, Cell, IsHeld}
use Rattle.cell_model.specs.Sets.{In, has}
use Rattle.cell_model.proofs.Answerings.{Once}
use Rattle.cell_model.proofs.Lists.{eq_from, eq_to}
use Rattle.cell_model.proofs.PresentLists.{house_listed, houses_of}
use Rattle.mend_model.specs.Leaving.{Candidate, best_of, better, candidate_of, held_since}

-- the house m is listed and stays, and holds the directory at its `since` or later
pub record CanLead (g : Cell) (d : ℕ) (hs : List ℕ) (ms : List Member) (m : ℕ) : Type 0 where
  pub listed : is_listed m ms ≡ true
  pub stays : has m hs ≡ false
  pub replica : Replica
  pub held : IsHeld g m d replica
  pub since : since_in ms m 0 ≤ replica.epoch

-- a house of a member
member_house : (y : Member) (ms : List Member) → In y ms → In y.house (houses_of ms)
member_house y [] i = elim i [ ]
member_house y (z ∷ zs) (inl e) = inl (ap (λ (w : Member). w.house) e)
member_house y (z ∷ zs) (inr i) = inr (member_house y zs i)

-- a list without repeats tells each member's `since`
since_member : (y : Member) (ms : List Member) → Once (houses_of ms) → In y ms → since_in ms y.house 0 ≡ y.since
since_member y [] once i = elim i [ ]
since_member y (z ∷ zs) once (inl e) =
    ap (λ (w : Member). since_in (z ∷ zs) w.house 0) e ∙ ap (λ (b : Bool). cond b z.since (since_in zs z.house 0)) (eq_to z.house z.house refl)
    ∙ ap (λ (w : Member). w.since) (sym e)
since_member y (z ∷ zs) once (inr i) = by_test (since_member y zs once.1 i) (eqb z.house y.house) refl
  where
    by_test : since_in zs y.house 0 ≡ y.since → (b : Bool) → eqb z.house y.house ≡ b → cond b z.since (since_in zs y.house 0) ≡ y.since
    by_test rest true e = absurd (once.0 (subst (λ (x : ℕ). In x (houses_of zs)) (sym (eq_from z.house y.house e)) (member_house y zs i)))
    by_test rest false e = rest

module _ (g : Cell) (d : ℕ) (hs : List ℕ) (all : List Member) (once : Once (houses_of all)) where
  -- a candidate can be master, if there is one
  abbrev IsFit : Option Candidate → Type 0
  IsFit None = Unit {0}
  IsFit (Some c) = CanLead g d hs all c.house

  slot_fit : (y : Member) → In y all → has y.house hs ≡ false → (s : Slot) → (g.house y.house).slots d ≡ s
      → IsFit (option_map (λ k. record { house = y.house; epoch = k }) (held_since s y.since))
  slot_fit y i stays Absent at = tt
  slot_fit y i stays (Gone e) at = tt
  slot_fit y i stays (Held r) at = by_since (nat_le y.since r.epoch) refl
    where
      by_since : (b : Bool) → nat_le y.since r.epoch ≡ b
          → IsFit (option_map (λ k. let c : Candidate = record { house = y.house; epoch = k } in c) (cond b (Some r.epoch) None))
      by_since true e =
          let le : y.since ≤ r.epoch = grind (arith, nat_tests, e) in
          let same = since_member y all once i in
          record { listed = house_listed y.house all (member_house y all i); stays = stays; replica = r; held = at; since = omega (arith, le, same) }
      by_since false e = tt

  candidate_fit : (y : Member) → In y all → IsFit (candidate_of g d hs y)
  candidate_fit y i = by_place (has y.house hs) refl
    where
      by_place : (b : Bool) → has y.house hs ≡ b
          → IsFit (cond b None (option_map (λ k. let c : Candidate = record { house = y.house; epoch = k } in c) (held_since ((g.house y.house).slots d) y.since)))
      by_place true e = tt
      by_place false e = slot_fit y i e ((g.house y.house).slots d) refl

  better_fit : (a b : Option Candidate) → IsFit a → IsFit b → IsFit (better a b)
  better_fit None b p q = q
  better_fit (Some a) None p q = p
  better_fit (Some a) (Some b) p q = by_epoch (nat_lt a.epoch b.epoch)
    where
      by_epoch : (t : Bool) → IsFit (cond t (Some b) (Some a))
      by_epoch true = q
      by_epoch false = p

  best_fit : (ms : List Member) (so_far : Option Candidate) → ((y : Member) → In y ms → In y all) → IsFit so_far → IsFit (best_of g d hs so_far ms)
  best_fit [] so_far part fit = fit
  best_fit (y ∷ ys) so_far part fit =
      best_fit ys (better so_far (candidate_of g d hs y)) (λ z i. part z (inr i))
      (better_fit so_far (candidate_of g d hs y) fit (candidate_fit y (part y (inl refl))))

  -- the best of a list can be master
  pub best_leads : (m : ℕ) → option_map (λ (c : Candidate). c.house) (best_of g d hs None all) ≡ Some m → CanLead g d hs all m
  best_leads m is = by_best (best_of g d hs None all) (best_fit all None (λ y i. i) tt) is
    where
      by_best : (o : Option Candidate) → IsFit o → option_map (λ (c : Candidate). c.house) o ≡ Some m → CanLead g d hs all m
      by_best None fit is = absurd (cc (is))
      by_best (Some c) fit is = let same : c.house ≡ m = cc (is) in subst (CanLead g d hs all) same fit
