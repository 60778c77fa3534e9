-- Houses in ascending order: one order of them, and when they are those of a pointer.
use Rattle.std.proofs.Common.{◌≡◌, ℕ, zero, suc, ◌+◌, ◌≤◌, ◌<◌, List, [], ◌∷◌, Bool, true, false, length, refl, sym, ◌∙◌, ap, subst, arith}
use Rattle.std.specs.Prelude.{Some, None, Ok, Err, is_none, min, nat_lt, not, if◌then◌else◌, ◌==◌, ◌||◌}
use Rattle.std.specs.List.{AllByRecursion}
use Rattle.std.proofs.lemmas.Bool.Decides.{nat_tests}
use Rattle.cds_stamps.specs.Outcomes.{ok_unless}
use Rattle.cds_stamps.proofs.OutcomeLaws.{ok_unless-Ok, ok_unless-Err}
use Rattle.cell_names.specs.Houses.{Houses, count_in_order, list_fault}
use Rattle.cell_names.specs.declared.houses.HousesFault.{HousesFault}
use Rattle.cell_names.specs.declared.houses.HousesFault.TheVariants.{BadHouses}
use Rattle.cell_model.specs.Sets.{has}
use Rattle.cell_model.specs.Steps.{stands_twice, is_bad_list, insert_house, sorted_houses}

-- each number is at least the one before
abbrev pub Rises : List ℕ → Type 0
Rises [] = Unit {0}
Rises (x ∷ xs) = AllByRecursion (λ y. x ≤ y) xs × Rises xs

-- how often a number is
abbrev pub one_if : Bool → ℕ
one_if true = 1
one_if false = 0

-- how often a number is in a list
unfoldable pub times : ℕ → List ℕ → ℕ
times z [] = 0
times z (x ∷ xs) = one_if (x == z) + times z xs

-- ---- one order

among : (P : ℕ → Type 0) (xs : List ℕ) (z : ℕ) → AllByRecursion P xs → 0 < times z xs → P z
unfolding times
among P [] z all some = absurd (omega (arith, some))
among P (x ∷ xs) z all some = go (x == z) refl some (λ more. among P xs z all.1 more)
  where
    go : (b : Bool) → (x == z) ≡ b → 0 < one_if b + times z xs → (0 < times z xs → P z) → P z
    go true on some rest = let is : x ≡ z = grind (arith, nat_tests, on) in subst P is all.0
    go false off some rest = rest (omega (arith, some))

least : (x : ℕ) (xs : List ℕ) (z : ℕ) → Rises (x ∷ xs) → 0 < times z (x ∷ xs) → x ≤ z
least x xs z rises some = among (λ y. x ≤ y) (x ∷ xs) z (omega arith, rises.0) some

stands_once : (x : ℕ) (xs : List ℕ) → 0 < times x (x ∷ xs)
unfolding times
stands_once x xs = let on : (x == x) ≡ true = grind (arith, nat_tests) in rw on (omega arith)

-- ascending lists in which each number is as often are equal
pub one_order : (xs ys : List ℕ) → Rises xs → Rises ys → ((z : ℕ) → times z xs ≡ times z ys) → xs ≡ ys
unfolding times
one_order [] [] p q same = refl
one_order [] (y ∷ ys) p q same = let some = stands_once y ys in let none = same y in absurd (omega (arith, some, none))
one_order (x ∷ xs) [] p q same = let some = stands_once x xs in let none = same x in absurd (omega (arith, some, none))
one_order (x ∷ xs) (y ∷ ys) p q same =
    let x_once = stands_once x xs in
    let y_once = stands_once y ys in
    let at_x = same x in
    let at_y = same y in
    let below = least y ys x q (omega (arith, x_once, at_x)) in
    let above = least x xs y p (omega (arith, y_once, at_y)) in
    let head : x ≡ y = omega (arith, below, above) in
    cc (head, one_order xs ys p.1 q.1 (λ z. let both = same z in let alike = ap (λ n. one_if (n == z)) head in omega (arith, both, alike)))

-- ---- the model's order

all_inserted : (P : ℕ → Type 0) (x : ℕ) (ys : List ℕ) → P x → AllByRecursion P ys → AllByRecursion P (insert_house x ys)
all_inserted P x [] this all = (this, tt)
all_inserted P x (y ∷ ys) this all = go (nat_lt y x) (all_inserted P x ys this all.1)
  where
    go : (b : Bool) → AllByRecursion P (insert_house x ys) → AllByRecursion P (if b then y ∷ insert_house x ys else x ∷ y ∷ ys)
    go true rest = (all.0, rest)
    go false rest = (this, all)

all_above : (x y : ℕ) (ys : List ℕ) → x ≤ y → AllByRecursion (λ z. y ≤ z) ys → AllByRecursion (λ z. x ≤ z) ys
all_above x y [] less all = tt
all_above x y (z ∷ zs) less all = let more = all.0 in (omega (arith, less, more), all_above x y zs less all.1)

rises_inserted : (x : ℕ) (ys : List ℕ) → Rises ys → Rises (insert_house x ys)
rises_inserted x [] rises = (tt, tt)
rises_inserted x (y ∷ ys) rises = go (nat_lt y x) refl (rises_inserted x ys rises.1)
  where
    go : (b : Bool) → nat_lt y x ≡ b → Rises (insert_house x ys) → Rises (if b then y ∷ insert_house x ys else x ∷ y ∷ ys)
    go true on rest = let less : y ≤ x = grind (arith, nat_tests, on) in (all_inserted (λ z. y ≤ z) x ys less rises.0, rest)
    go false off rest = let more : x ≤ y = grind (arith, nat_tests, off) in ((more, all_above x y ys more rises.0), rises)

-- numbers in ascending order ascend
pub ascending_rises : (xs : List ℕ) → Rises (sorted_houses xs)
ascending_rises [] = tt
ascending_rises (x ∷ xs) = rises_inserted x (sorted_houses xs) (ascending_rises xs)

times_inserted : (z x : ℕ) (ys : List ℕ) → times z (insert_house x ys) ≡ one_if (x == z) + times z ys
unfolding times
times_inserted z x [] = refl
times_inserted z x (y ∷ ys) = go (nat_lt y x) (times_inserted z x ys)
  where
    go : (b : Bool) → times z (insert_house x ys) ≡ one_if (x == z) + times z ys
        → times z (if b then y ∷ insert_house x ys else x ∷ y ∷ ys) ≡ one_if (x == z) + (one_if (y == z) + times z ys)
    go true rest = omega (arith, rest)
    go false rest = refl

-- and each is as often as before
pub ascending_times : (z : ℕ) (xs : List ℕ) → times z (sorted_houses xs) ≡ times z xs
unfolding times
ascending_times z [] = refl
ascending_times z (x ∷ xs) = times_inserted z x (sorted_houses xs) ∙ ap (λ n. one_if (x == z) + n) (ascending_times z xs)

has_inserted : (z x : ℕ) (ys : List ℕ) → has z (insert_house x ys) ≡ ((z == x) || has z ys)
has_inserted z x [] = refl
has_inserted z x (y ∷ ys) = go (nat_lt y x) (has_inserted z x ys)
  where
    go : (b : Bool) → has z (insert_house x ys) ≡ ((z == x) || has z ys)
        → has z (if b then y ∷ insert_house x ys else x ∷ y ∷ ys) ≡ ((z == x) || ((z == y) || has z ys))
    go true rest = rw rest (swap (z == y) (z == x) (has z ys))
      where
        swap : (a b c : Bool) → (a || (b || c)) ≡ (b || (a || c))
        swap true true c = refl
        swap true false c = refl
        swap false b c = refl
    go false rest = refl

-- and the same numbers stand in it
pub has_ascending : (z : ℕ) (xs : List ℕ) → has z (sorted_houses xs) ≡ has z xs
has_ascending z [] = refl
has_ascending z (x ∷ xs) = has_inserted z x (sorted_houses xs) ∙ ap (λ (b : Bool). (z == x) || b) (has_ascending z xs)

twice_inserted : (x : ℕ) (ys : List ℕ) → stands_twice (insert_house x ys) ≡ (has x ys || stands_twice ys)
twice_inserted x [] = refl
twice_inserted x (y ∷ ys) = go (nat_lt y x) (twice_inserted x ys) (has_inserted y x ys)
  where
    flip : (y == x) ≡ (x == y)
    flip = grind (arith, nat_tests)

    mix : (a b c d : Bool) → ((a || b) || (c || d)) ≡ ((a || c) || (b || d))
    mix true b c d = refl
    mix false true true d = refl
    mix false true false d = refl
    mix false false c d = refl

    go : (b : Bool) → stands_twice (insert_house x ys) ≡ (has x ys || stands_twice ys) → has y (insert_house x ys) ≡ ((y == x) || has y ys)
        → stands_twice (if b then y ∷ insert_house x ys else x ∷ y ∷ ys) ≡ (((x == y) || has x ys) || (has y ys || stands_twice ys))
    go true rest there = rw (rest, there, flip) (mix (x == y) (has y ys) (has x ys) (stands_twice ys))
    go false rest there = refl

-- a house is there twice in ascending order exactly where it did before
pub twice_ascending : (xs : List ℕ) → stands_twice (sorted_houses xs) ≡ stands_twice xs
twice_ascending [] = refl
twice_ascending (x ∷ xs) = twice_inserted x (sorted_houses xs) ∙ ap (λ (b : Bool). b || stands_twice (sorted_houses xs)) (has_ascending x xs)
    ∙ ap (λ (b : Bool). has x xs || b) (twice_ascending xs)

length_inserted : (x : ℕ) (ys : List ℕ) → length (insert_house x ys) ≡ suc (length ys)
length_inserted x [] = refl
length_inserted x (y ∷ ys) = go (nat_lt y x) (length_inserted x ys)
  where
    go : (b : Bool) → length (insert_house x ys) ≡ suc (length ys) → length (if b then y ∷ insert_house x ys else x ∷ y ∷ ys) ≡ suc (suc (length ys))
    go true rest = ap suc rest
    go false rest = refl

-- they are as many
pub length_ascending : (xs : List ℕ) → length (sorted_houses xs) ≡ length xs
length_ascending [] = refl
length_ascending (x ∷ xs) = length_inserted x (sorted_houses xs) ∙ ap suc (length_ascending xs)

-- ---- the houses of a pointer

-- all are in order
abbrev full : (m least : ℕ) → List ℕ → Bool
full m least xs = count_in_order m least xs == length xs

none_of : (n k : ℕ) → (zero == suc n) ≡ false
none_of n k = grind (arith, nat_tests)

one_more_each : (a b : ℕ) → (1 + a == suc b) ≡ (a == b)
one_more_each a b = grind (arith, nat_tests)

-- one below the least is out of order
short : (m least x : ℕ) (xs : List ℕ) → x < least → has x xs ≡ true → full m least xs ≡ false
short m least x [] less there = absurd (cc)
short m least x (y ∷ ys) less there = go ((y == m) || nat_lt y least) refl (λ under among. short m (y + 1) x ys under among)
  where
    go : (b : Bool) → ((y == m) || nat_lt y least) ≡ b → (x < y + 1 → has x ys ≡ true → full m (y + 1) ys ≡ false)
        → ((if b then 0 else 1 + count_in_order m (y + 1) ys) == suc (length ys)) ≡ false
    go true on rest = grind (arith, nat_tests)
    go false off rest =
        let over : nat_lt y least ≡ false = grind (arith, nat_tests, off) in
        let under : x < y + 1 = grind (arith, nat_tests, over, less) in
        let other : (x == y) ≡ false = grind (arith, nat_tests, over, less) in
        let behind : has x ys ≡ true = (let at = there in rw other at at) in
        one_more_each (count_in_order m (y + 1) ys) (length ys) ∙ rest under behind

-- in order, all are above a number that is not among those from it on
pub above_all : (x : ℕ) (ys : List ℕ) → AllByRecursion (λ y. x ≤ y) ys → has x ys ≡ false → AllByRecursion (λ y. x + 1 ≤ y) ys
above_all x [] all out = tt
above_all x (y ∷ ys) all out =
    let more = all.0 in
    let other : (x == y) ≡ false = grind (arith, nat_tests, out) in
    let behind : has x ys ≡ false = grind (arith, nat_tests, out) in
    (grind (arith, nat_tests, more, other), above_all x ys all.1 behind)

in_order : (m least : ℕ) (xs : List ℕ) → Rises xs → AllByRecursion (λ y. least ≤ y) xs → full m least xs ≡ not (has m xs || stands_twice xs)
in_order m least [] rises all = grind (arith, nat_tests)
in_order m least (x ∷ xs) rises all = go (x == m) refl (has x xs) refl (λ higher. in_order m (x + 1) xs rises.1 higher)
  where
    under : nat_lt x least ≡ false
    under = let more = all.0 in grind (arith, nat_tests, more)

    go : (b : Bool) → (x == m) ≡ b → (c : Bool) → has x xs ≡ c → (AllByRecursion (λ y. x + 1 ≤ y) xs → full m (x + 1) xs ≡ not (has m xs || stands_twice xs))
        → ((if b || nat_lt x least then 0 else 1 + count_in_order m (x + 1) xs) == suc (length xs)) ≡ not (((m == x) || has m xs) || (c || stands_twice xs))
    go true on c is rest = let same : (m == x) ≡ true = grind (arith, nat_tests, on) in rw same (grind (arith, nat_tests))
    go false off true is rest =
        let other : (m == x) ≡ false = grind (arith, nat_tests, off) in
        rw (under, other) (one_more_each (count_in_order m (x + 1) xs) (length xs) ∙ short m (x + 1) x xs (omega arith) is ∙ sym (dull (has m xs)))
      where
        dull : (a : Bool) → not (a || true) ≡ false
        dull true = refl
        dull false = refl
    go false off false is rest =
        let other : (m == x) ≡ false = grind (arith, nat_tests, off) in
        rw (under, other) (one_more_each (count_in_order m (x + 1) xs) (length xs) ∙ rest (above_all x xs rises.0 is))

-- no number is below 0
pub all_from_zero : (xs : List ℕ) → AllByRecursion (λ y. 0 ≤ y) xs
all_from_zero [] = tt
all_from_zero (x ∷ xs) = (omega arith, all_from_zero xs)

at_most : (m least : ℕ) (xs : List ℕ) → count_in_order m least xs ≤ length xs
at_most m least [] = omega arith
at_most m least (x ∷ xs) = go ((x == m) || nat_lt x least) (at_most m (x + 1) xs)
  where
    go : (b : Bool) → count_in_order m (x + 1) xs ≤ length xs → (if b then 0 else 1 + count_in_order m (x + 1) xs) ≤ suc (length xs)
    go true rest = omega arith
    go false rest = omega (arith, rest)

none_if : {A : Type 0} (b : Bool) (f : A) → is_none (if b then None else Some f) ≡ b
none_if true f = refl
none_if false f = refl

-- in order, and not too many
few_in_order : (c n : ℕ) (bad : Bool) → c ≤ n → (c == n) ≡ not bad → (b : Bool) → nat_lt 64 (suc n) ≡ b → (min c 63 == n) ≡ not (bad || b)
few_in_order c n true less order true many = grind (arith, nat_tests, many, less)
few_in_order c n false less order true many = grind (arith, nat_tests, many, less)
few_in_order c n true less order false few = let same : (min c 63 == n) ≡ (c == n) = grind (arith, nat_tests, few, less) in same ∙ order
few_in_order c n false less order false few = let same : (min c 63 == n) ≡ (c == n) = grind (arith, nat_tests, few, less) in same ∙ order

-- the houses are those of a pointer exactly where the console's list is not bad
pub pointer_exactly : (m : ℕ) (rs : List ℕ) → is_none (list_fault m (sorted_houses rs)) ≡ not (is_bad_list (m ∷ rs))
pointer_exactly m rs =
    none_if (min (count_in_order m 0 (sorted_houses rs)) 63 == length (sorted_houses rs)) (BadHouses (min (count_in_order m 0 (sorted_houses rs)) 63 + 1))
    ∙ few_in_order (count_in_order m 0 (sorted_houses rs)) (length (sorted_houses rs)) (has m (sorted_houses rs) || stands_twice (sorted_houses rs))
    (at_most m 0 (sorted_houses rs))
    (in_order m 0 (sorted_houses rs) (ascending_rises rs) (all_from_zero (sorted_houses rs))) (nat_lt 64 (suc (length (sorted_houses rs)))) refl
    ∙ cc (has_ascending m rs, twice_ascending rs, length_ascending rs)

-- where there is a fault the list is bad, and where there is none it is not
pub bad_where_fault : (m : ℕ) (rs : List ℕ) (f : HousesFault) → list_fault m (sorted_houses rs) ≡ Some f → is_bad_list (m ∷ rs) ≡ true
bad_where_fault m rs f is = go (is_bad_list (m ∷ rs)) (sym (pointer_exactly m rs) ∙ ap is_none is)
  where
    go : (b : Bool) → not b ≡ false → b ≡ true
    go true off = refl
    go false off = absurd (cc)

-- houses in which the code finds no fault are a good list
pub good_where_none : (m : ℕ) (rs : List ℕ) → list_fault m (sorted_houses rs) ≡ None → is_bad_list (m ∷ rs) ≡ false
good_where_none m rs is = go (is_bad_list (m ∷ rs)) (sym (pointer_exactly m rs) ∙ ap is_none is)
  where
    go : (b : Bool) → not b ≡ true → b ≡ false
    go true off = absurd (cc)
    go false off = refl

-- what a list of houses that was made, or was not, says
pub made_houses : (m : ℕ) (ns : List ℕ) (h : Houses) → ok_unless (list_fault m ns) (record { master = m; others = ns }) ≡ Ok h
    → (list_fault m ns ≡ None) × (h ≡ record { master = m; others = ns })
made_houses m ns h is = let said = ok_unless-Ok (list_fault m ns) (record { master = m; others = ns }) h is in (said.0, sym said.1)

-- a fault of the code is one of the list
pub refused_houses : (m : ℕ) (ns : List ℕ) (f : HousesFault) → ok_unless {T = Houses} (list_fault m ns) (record { master = m; others = ns }) ≡ Err f
    → list_fault m ns ≡ Some f
refused_houses m ns f is = ok_unless-Err {T = Houses} (list_fault m ns) (record { master = m; others = ns }) f is
