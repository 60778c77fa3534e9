-- The members that stay: their houses, each once, and how many there are.
use Rattle.std.proofs.Common.{◌≡◌, ◌≢◌, ℕ, ◌+◌, ◌≤◌, suc, inl, inr, Bool, true, false, not, eqb, cond, List, [], ◌∷◌, length, refl, sym, ap, ◌∙◌, subst, arith}
use Rattle.std.proofs.Common.{le_refl, nat_lt}
use Rattle.cds_stamps.specs.declared.members.MemberKind.TheVariants.{Master}
use Rattle.cds_stamps.specs.Members.{Member, others_of, is_listed}
use Rattle.cell_model.specs.Sets.{In, has}
use Rattle.cell_model.specs.Steps.{insert_house, left_members, sorted_houses}
use Rattle.cell_model.proofs.Answerings.{Once}
use Rattle.cell_model.proofs.Lists.{eq_from, eq_to}
use Rattle.cell_model.proofs.PresentLists.{houses_of}
use Rattle.mend_model.specs.Leaving.{kept_members}

-- ---- lengths

length_insert : (x : ℕ) (zs : List ℕ) → length (insert_house x zs) ≡ suc (length zs)
length_insert x [] = refl
length_insert x (z ∷ zs) = by_order (nat_lt z x) (length_insert x zs)
  where
    by_order : (b : Bool) → length (insert_house x zs) ≡ suc (length zs) → length (cond b (z ∷ insert_house x zs) (x ∷ z ∷ zs)) ≡ suc (suc (length zs))
    by_order true rest = ap (λ (n : ℕ). suc n) rest
    by_order false rest = refl

pub length_sorted : (zs : List ℕ) → length (sorted_houses zs) ≡ length zs
length_sorted [] = refl
length_sorted (z ∷ zs) = length_insert z (sorted_houses zs) ∙ ap (λ (n : ℕ). suc n) (length_sorted zs)

pub length_houses : (ms : List Member) → length (houses_of ms) ≡ length ms
length_houses [] = refl
length_houses (y ∷ ys) = ap (λ (n : ℕ). suc n) (length_houses ys)

-- a house that is none of a list is no other of it
others_all : (m : ℕ) (ms : List Member) → (In m (houses_of ms) → ⊥) → length (others_of m ms) ≡ length ms
others_all m [] n = refl
others_all m (y ∷ ys) n =
    let apart : y.house ≢ m = λ e. n (inl (sym e)) in
    let other : eqb y.house m ≡ false = grind (arith, apart) in
    ap (λ (b : Bool). length (cond b (others_of m ys) (y.house ∷ others_of m ys))) other ∙ ap (λ (c : ℕ). suc c) (others_all m ys (λ i. n (inr i)))

-- a list without repeats has one house more than others beside one of its houses
pub others_less : (m : ℕ) (ms : List Member) → Once (houses_of ms) → In m (houses_of ms) → suc (length (others_of m ms)) ≡ length ms
others_less m [] once i = elim i [ ]
others_less m (y ∷ ys) once i = by_house (λ i. others_less m ys once.1 i) (eqb y.house m) refl i
  where
    by_house : (In m (houses_of ys) → suc (length (others_of m ys)) ≡ length ys) → (b : Bool) → eqb y.house m ≡ b → In m (houses_of (y ∷ ys))
        → suc (length (cond b (others_of m ys) (y.house ∷ others_of m ys))) ≡ suc (length ys)
    by_house rest true e i = ap (λ (n : ℕ). suc n) (others_all m ys (subst (λ (z : ℕ). In z (houses_of ys) → ⊥) (eq_from y.house m e) once.0))
    by_house rest false e (inl s) = absurd (cc (sym e ∙ eq_to y.house m (sym s)))
    by_house rest false e (inr i) = ap (λ (n : ℕ). suc n) (rest i)

module _ (hs : List ℕ) (m : ℕ) where
  -- a house that stays was there, and is none of those that are left out
  pub kept_house : (x : ℕ) (ms : List Member) → In x (houses_of (kept_members hs m ms)) → In x (houses_of ms) × (has x hs ≡ false)
  kept_house x [] i = elim i [ ]
  kept_house x (y ∷ ys) i = by_place (has y.house hs) refl (λ i. kept_house x ys i) i
    where
      by_place : (b : Bool) → has y.house hs ≡ b → (In x (houses_of (kept_members hs m ys)) → In x (houses_of ys) × (has x hs ≡ false))
          → In x (houses_of (cond b (kept_members hs m ys) (record y { kind = cond (eqb y.house m) Master y.kind } ∷ kept_members hs m ys)))
          → In x (houses_of (y ∷ ys)) × (has x hs ≡ false)
      by_place true e rest i = let w = rest i in (inr w.0, w.1)
      by_place false e rest (inl s) = (inl s, ap (λ (z : ℕ). has z hs) s ∙ e)
      by_place false e rest (inr i) = let w = rest i in (inr w.0, w.1)

  -- and each such house stays
  pub house_kept : (x : ℕ) (ms : List Member) → In x (houses_of ms) → has x hs ≡ false → In x (houses_of (kept_members hs m ms))
  house_kept x [] i n = elim i [ ]
  house_kept x (y ∷ ys) i n = by_place (has y.house hs) refl (λ i. house_kept x ys i n) i
    where
      by_place : (b : Bool) → has y.house hs ≡ b → (In x (houses_of ys) → In x (houses_of (kept_members hs m ys))) → In x (houses_of (y ∷ ys))
          → In x (houses_of (cond b (kept_members hs m ys) (record y { kind = cond (eqb y.house m) Master y.kind } ∷ kept_members hs m ys)))
      by_place true e rest (inl s) = absurd (cc (sym n ∙ ap (λ (z : ℕ). has z hs) s ∙ e))
      by_place true e rest (inr i) = rest i
      by_place false e rest (inl s) = inl s
      by_place false e rest (inr i) = inr (rest i)

  -- each of them once
  pub kept_once : (ms : List Member) → Once (houses_of ms) → Once (houses_of (kept_members hs m ms))
  kept_once [] once = tt
  kept_once (y ∷ ys) once = by_place (has y.house hs) (kept_once ys once.1)
    where
      by_place : (b : Bool) → Once (houses_of (kept_members hs m ys))
          → Once (houses_of (cond b (kept_members hs m ys) (record y { kind = cond (eqb y.house m) Master y.kind } ∷ kept_members hs m ys)))
      by_place true rest = rest
      by_place false rest = (λ i. once.0 (kept_house y.house ys i).0, rest)

  -- they are no more than there were
  pub kept_few : (ms : List Member) → length (kept_members hs m ms) ≤ length ms
  kept_few [] = le_refl _
  kept_few (y ∷ ys) = by_place (has y.house hs) (kept_few ys)
    where
      by_place : (b : Bool) → length (kept_members hs m ys) ≤ length ys
          → length (cond b (kept_members hs m ys) (record y { kind = cond (eqb y.house m) Master y.kind } ∷ kept_members hs m ys)) ≤ suc (length ys)
      by_place true le = omega (arith, le)
      by_place false le = omega (arith, le)

  -- each house of the old list but m is one that stays, or leaves
  pub kept_and_left : (now ms : List Member) → has m hs ≡ false → ((x : ℕ) → In x (houses_of ms) → is_listed x now ≡ not (has x hs))
      → length (others_of m (kept_members hs m ms)) + length (left_members ms now) ≡ length (others_of m ms)
  kept_and_left now [] stays there = refl
  kept_and_left now (y ∷ ys) stays there =
      by_house (eqb y.house m) refl (has y.house hs) refl (is_listed y.house now) (there y.house (inl refl))
      (kept_and_left now ys stays (λ x i. there x (inr i)))
    where
      by_house : (a : Bool) → eqb y.house m ≡ a → (b : Bool) → has y.house hs ≡ b → (c : Bool) → c ≡ not (has y.house hs)
          → length (others_of m (kept_members hs m ys)) + length (left_members ys now) ≡ length (others_of m ys)
          → length (others_of m (cond b (kept_members hs m ys) (record y { kind = cond a Master y.kind } ∷ kept_members hs m ys))) + length (cond c (left_members ys now) (y.house ∷ left_members ys now))
          ≡ length (cond a (others_of m ys) (y.house ∷ others_of m ys))
      by_house a ea true eb true ec rest = absurd (cc (ec ∙ ap not eb))
      by_house a ea false eb false ec rest = absurd (cc (ec ∙ ap not eb))
      by_house true ea true eb false ec rest = absurd (cc (sym eb ∙ ap (λ (z : ℕ). has z hs) (eq_from y.house m ea) ∙ stays))
      by_house false ea true eb false ec rest = omega (arith, rest)
      by_house true ea false eb true ec rest =
          ap (λ (b : Bool). length (cond b (others_of m (kept_members hs m ys)) (y.house ∷ others_of m (kept_members hs m ys))) + length (left_members ys now)) ea ∙ rest
      by_house false ea false eb true ec rest =
          let sum : suc (length (others_of m (kept_members hs m ys))) + length (left_members ys now) ≡ suc (length (others_of m ys)) = omega (arith, rest) in
          ap (λ (b : Bool). length (cond b (others_of m (kept_members hs m ys)) (y.house ∷ others_of m (kept_members hs m ys))) + length (left_members ys now)) ea ∙ sum
