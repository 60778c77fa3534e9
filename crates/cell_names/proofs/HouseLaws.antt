-- Houses without a fault are those of the grammar, and a fault is at the first place that breaks
-- them.
use Rattle.std.proofs.Common.{suc, zero, ◌≡◌, ◌≢◌, ℕ, ◌+◌, ◌-◌, ◌≤◌, ◌<◌, Bool, true, false, List}
use Rattle.std.proofs.Common.{[], ◌∷◌, length, length-take-le, take, map, Some, None, refl, sym, ap, subst, ◌∙◌, arith}
use Rattle.std.specs.Prelude.{◌↔◌, IsTrue, min, nat_lt, ◌==◌, ◌&&◌, ◌||◌, if◌then◌else◌}
use Rattle.std.proofs.lemmas.Bool.Decides.{Decides-eqb}
use Rattle.std.proofs.lemmas.Slice.Eq.{bytes_eq-Decides}
use Rattle.cds_stamps.specs.declared.numbers.HouseNo.{HouseNo}
use Rattle.cell_names.specs.declared.houses.HousesFault.TheVariants.{BadHouses}
use Rattle.cell_names.specs.Houses.{Houses, IsHouses, is_houses, most_houses, count_in_order, list_fault}
use Rattle.cell_names.proofs.Rising.{Rises, houses_rise, rises-houses}

-- the numbers of houses that were made of numbers
pub numbers_of_made : (ns : List ℕ) → map (λ (h : HouseNo). h.0) (map (λ (n : ℕ). record { 0 = n }) ns) ≡ ns
numbers_of_made [] = refl
numbers_of_made (n ∷ ns) = ap (λ ns. n ∷ ns) (numbers_of_made ns)

-- all that rise are in order
count-rises : (master least : ℕ) (hs : List ℕ) → Rises master least hs → count_in_order master least hs ≡ length hs
count-rises master least [] r = refl
count-rises master least (h ∷ hs) r =
    let placed : ((h == master) || nat_lt h least) ≡ false = grind (arith, r.0, r.1) in
    rw placed (omega (arith, count-rises master (h + 1) hs r.2))

-- where all are in order, they rise
rises-count : (master least : ℕ) (hs : List ℕ) → count_in_order master least hs ≡ length hs → Rises master least hs
rises-count master least [] e = tt
rises-count master least (h ∷ hs) e = by_test ((h == master) || nat_lt h least) refl (rises-count master (h + 1) hs) e
  where
    by_test : (misplaced : Bool) → ((h == master) || nat_lt h least) ≡ misplaced → (count_in_order master (h + 1) hs ≡ length hs → Rises master (h + 1) hs)
        → (if misplaced then 0 else 1 + count_in_order master (h + 1) hs) ≡ length (h ∷ hs) → (h ≢ master) × (least ≤ h) × Rises master (h + 1) hs
    by_test true t rest e = absurd (omega (arith, e))
    by_test false t rest e = (grind (arith, t), grind (arith, t), rest (omega (arith, e)))

count-short : (master least : ℕ) (hs : List ℕ) → count_in_order master least hs ≤ length hs
count-short master least [] = omega arith
count-short master least (h ∷ hs) = by_test ((h == master) || nat_lt h least) (count-short master (h + 1) hs)
  where
    by_test : (misplaced : Bool) → count_in_order master (h + 1) hs ≤ length hs
        → (if misplaced then 0 else 1 + count_in_order master (h + 1) hs) ≤ length (h ∷ hs)
    by_test true rest = omega arith
    by_test false rest = omega (arith, rest)

-- of a front, as many are in order as of all, as far as it goes
count-take : (master least n : ℕ) (hs : List ℕ) → count_in_order master least (take n hs) ≡ min n (count_in_order master least hs)
count-take master least zero hs = omega arith
count-take master least (suc n) [] = omega arith
count-take master least (suc n) (h ∷ hs) = by_test ((h == master) || nat_lt h least) (count-take master (h + 1) n hs)
  where
    by_test : (misplaced : Bool) → count_in_order master (h + 1) (take n hs) ≡ min n (count_in_order master (h + 1) hs)
        → (if misplaced then 0 else 1 + count_in_order master (h + 1) (take n hs)) ≡ min (suc n) (if misplaced then 0 else 1 + count_in_order master (h + 1) hs)
    by_test true rest = omega arith
    by_test false rest = omega (arith, rest)

-- no fault is found exactly in houses of the grammar
pub list_fault-none : (master : ℕ) (others : List ℕ) → (list_fault master others ≡ None) ↔ IsHouses (record { master = master; others = others })
list_fault-none master others = (read, written)
  where
    read : list_fault master others ≡ None → IsHouses (record { master = master; others = others })
    read e =
        let all : min (count_in_order master 0 others) 63 ≡ length others = grind (arith, e) in
        let few : 1 + length others ≤ most_houses = omega (arith, all) in
        rises-houses master others (rises-count master 0 others (omega (arith, all, count-short master 0 others))) few

    written : IsHouses (record { master = master; others = others }) → list_fault master others ≡ None
    written lawful =
        let few = lawful.few in
        let all = count-rises master 0 others (houses_rise master others lawful) in
        let ordered : (min (count_in_order master 0 others) 63 == length others) ≡ true = grind arith in
        rw ordered refl

some_not_none : {E : Type 0} {x : E} → Some x ≡ None → ⊥
some_not_none e = cc

faulty : {E : Type 0} (test : Bool) (x y : E) → (if test then None else Some x) ≡ Some y → (test ≡ false) × (x ≡ y)
faulty true x y e = cc
faulty false x y e = (refl, cc)

-- of a front of houses, the fault is that of all up to its end
front_fault : (master n : ℕ) (others : List ℕ) → n ≤ length others
    → list_fault master (take n others)
    ≡ (if min n (min (count_in_order master 0 others) 63) == n then None else Some (BadHouses (min n (min (count_in_order master 0 others) 63) + 1)))
front_fault master n others h =
    let ordered : min (count_in_order master 0 (take n others)) 63
    ≡ min n (min (count_in_order master 0 others) 63) = omega (arith, count-take master 0 n others) in
    let long : length (take n others) ≡ n = length-take-le n others h in
    rw (ordered, long) refl

-- after as many as are in order and may be, one more breaks the grammar
first_bad : (master n : ℕ) (others : List ℕ) → n ≡ min (count_in_order master 0 others) 63 → n < length others
    → IsHouses (record { master = master; others = take n others }) × ¬ IsHouses (record { master = master; others = take (n + 1) others })
first_bad master n others is more = (
  let all : (min n (min (count_in_order master 0 others) 63) == n) ≡ true = grind arith in
      (list_fault-none master (take n others)).0 (front_fault master n others (omega arith) ∙ rw all refl),
  λ lawful.
      let bad : (min (n + 1) (min (count_in_order master 0 others) 63) == n + 1) ≡ false = grind arith in
      let none = sym (front_fault master (n + 1) others (omega arith)) ∙ (list_fault-none master (take (n + 1) others)).1 lawful in
      some_not_none (rw bad at none),
)

-- a fault is at the first place up to which the houses are not of the grammar
pub list_fault-first : (master : ℕ) (others : List ℕ) (place : ℕ) → list_fault master others ≡ Some (BadHouses place)
    → (1 ≤ place) × (place ≤ length others) × IsHouses (record { master = master; others = take (place - 1) others })
    × ¬ IsHouses (record { master = master; others = take place others })
list_fault-first master others place e =
    let n = place - 1 in
    let ordered = min (count_in_order master 0 others) 63 in
    let found = faulty (ordered == length others) (BadHouses (ordered + 1)) (BadHouses place) e in
    let at : ordered + 1 ≡ place = cc (found.1) in
    let less : ordered ≢ length others = grind (arith, found.0) in
    let bad = first_bad master n others (omega (arith, at)) (omega (arith, at, less, count-short master 0 others)) in
    let same : n + 1 ≡ place = omega (arith, at) in (
      omega (arith, at),
      omega (arith, at, less, count-short master 0 others),
      bad.0,
      subst (λ (place : ℕ). ¬ IsHouses (record { master = master; others = take place others })) same bad.1,
    )

both : (x y : Bool) → (x && y) ≡ true → (x ≡ true) × (y ≡ true)
both true y e = (refl, e)
both false y e = cc

-- the test for the same houses
pub is_houses-Decides : (a b : Houses) → IsTrue (is_houses a b) ↔ (a ≡ b)
is_houses-Decides a b = (
  λ e.
      let tests = both (a.master == b.master) _ e in
      let master : a.master ≡ b.master = (Decides-eqb a.master b.master).0 tests.0 in
      let others : a.others ≡ b.others = (bytes_eq-Decides a.others b.others).0 tests.1 in
      ap (λ (os : List ℕ). record { master = a.master; others = os }) others ∙ ap (λ (m : ℕ). record { master = m; others = b.others }) master,
  λ e.
      let master : (a.master == b.master) ≡ true = (Decides-eqb a.master b.master).1 (ap (λ (h : Houses). h.master) e) in
      let others = (bytes_eq-Decides a.others b.others).1 (ap (λ (h : Houses). h.others) e) in
      rw (master, others) refl,
)
