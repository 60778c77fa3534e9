-- Membership of lists, and tests.
use Rattle.std.proofs.Common.{rules, ◌≡◌, ℕ, zero, suc, ◌<◌, ◌≤◌, ◌⊎◌, inl, inr, Bool, true, false, ◌&&◌, ◌||◌, not, eqb, List, [], ◌∷◌, ◌++◌, map}
use Rattle.std.proofs.Common.{Some, refl, sym, ap, ◌∙◌, subst, arith, ⊎_elim}
use Rattle.std.specs.Prelude.{slice_get}
use Rattle.cds_stamps.specs.declared.stamp.Stamp.{Stamp}
use Rattle.cds_stamps.specs.Stamps.{is_stamp, stamp_exact}
use Rattle.cds_stamps.specs.Keyed.{ties_are_equal}
use Rattle.cell_model.specs.Sets.{In, IsUpTo, has}
use Rattle.cell_model.specs.Turns.{all_answered}

-- nothing after a list leaves it as it is
pub append_nil : {A : Type 0} (l : List A) → l ++ [] ≡ l
append_nil l = search rules

-- an item of the first list is in both together
pub In-append_left : {A : Type 0} (x : A) (xs ys : List A) → In x xs → In x (xs ++ ys)
In-append_left x [] ys h = elim h [ ]
In-append_left x (z ∷ xs) ys (inl e) = inl e
In-append_left x (z ∷ xs) ys (inr h) = inr (In-append_left x xs ys h)

-- and so is an item of the second
pub In-append_right : {A : Type 0} (x : A) (xs ys : List A) → In x ys → In x (xs ++ ys)
In-append_right x [] ys h = h
In-append_right x (z ∷ xs) ys h = inr (In-append_right x xs ys h)

-- an item of both together is in one of them
pub In-append_cases : {A : Type 0} (x : A) (xs ys : List A) → In x (xs ++ ys) → In x xs ⊎ In x ys
In-append_cases x [] ys h = inr h
In-append_cases x (z ∷ xs) ys (inl e) = inl (inl e)
In-append_cases x (z ∷ xs) ys (inr h) = ⊎_elim (λ l. inl (inr l)) (λ r. inr r) (In-append_cases x xs ys h)

-- an item of the images is the image of an item
pub In-map : {A B : Type 0} (f : A → B) (y : B) (xs : List A) → In y (map f xs) → (x : A) × In x xs × (y ≡ f x)
In-map f y [] h = elim h [ ]
In-map f y (x ∷ xs) (inl e) = (x, inl refl, e)
In-map f y (x ∷ xs) (inr h) = let r = In-map f y xs h in (r.0, inr r.1, r.2)

-- what is at a place of a list is in it
pub In-from_get : {A : Type 0} (x : A) (xs : List A) (n : ℕ) → slice_get xs n ≡ Some x → In x xs
In-from_get x [] n e = absurd (cc)
In-from_get x (y ∷ ys) zero e = inl (cc)
In-from_get x (y ∷ ys) (suc n) e = inr (In-from_get x ys n e)

-- of two tests that both hold the first holds
pub and_left : (a b : Bool) → (a && b) ≡ true → a ≡ true
and_left true b e = refl
and_left false b e = e

-- and the second holds
pub and_right : (a b : Bool) → (a && b) ≡ true → b ≡ true
and_right true b e = e
and_right false b e = absurd (cc)

-- where one of two tests holds, the first or the second does
pub or_cases : (a b : Bool) → (a || b) ≡ true → (a ≡ true) ⊎ (b ≡ true)
or_cases true b e = inl refl
or_cases false b e = inr e

-- one of two tests holds where the second does
pub or_true : (a b : Bool) → b ≡ true → (a || b) ≡ true
or_true true b e = refl
or_true false b e = e

-- of two tests of which none holds the first does not
pub or_left : (a b : Bool) → (a || b) ≡ false → a ≡ false
or_left true b e = e
or_left false b e = refl

-- and the second does not
pub or_right : (a b : Bool) → (a || b) ≡ false → b ≡ false
or_right true b e = absurd (cc)
or_right false b e = e

-- a test whose opposite does not hold holds
pub not_true : (a : Bool) → not a ≡ false → a ≡ true
not_true true e = refl
not_true false e = sym e

-- numbers that the test finds equal are equal
pub eq_from : (a b : ℕ) → eqb a b ≡ true → a ≡ b
eq_from a b e = grind arith

-- the test finds equal numbers equal
pub eq_to : (a b : ℕ) → a ≡ b → eqb a b ≡ true
eq_to a b e = grind arith

-- stamps that the test finds equal are equal
pub stamp_from : (s t : Stamp) → is_stamp s t ≡ true → s ≡ t
stamp_from s t e = ties_are_equal stamp_exact s t e

-- a stamp up to another has no later time
pub time_up_to : (s t : Stamp) → IsUpTo s t → s.time ≤ t.time
time_up_to s t h = grind arith

-- a stamp of an earlier time is up to the other
pub earlier_up_to : (s t : Stamp) → s.time < t.time → IsUpTo s t
earlier_up_to s t h = grind arith

-- a stamp is up to itself
pub up_to_itself : (t : Stamp) → IsUpTo t t
up_to_itself t = grind arith

-- the order of stamps, by time and then by node
pub up_to_parts : (s t : Stamp) → IsUpTo s t → (s.time < t.time) ⊎ ((s.time ≡ t.time) × (s.node ≤ t.node))
up_to_parts s t h = grind arith

pub up_to_node : (s t : Stamp) → s.time ≡ t.time → s.node ≤ t.node → IsUpTo s t
up_to_node s t e h = grind arith

-- what is up to a stamp is up to each that this is up to
pub up_to_trans : (s t u : Stamp) → IsUpTo s t → IsUpTo t u → IsUpTo s u
up_to_trans s t u a b = ⊎_elim
    (λ (l : s.time < t.time). earlier_up_to s u (omega (arith, time_up_to t u b)))
    (λ (e : (s.time ≡ t.time) × (s.node ≤ t.node)). ⊎_elim
    (λ (l : t.time < u.time). earlier_up_to s u (omega (arith, e.0)))
    (λ (f : (t.time ≡ u.time) × (t.node ≤ u.node)). up_to_node s u (e.0 ∙ f.0) (omega (arith, e.1, f.1)))
    (up_to_parts t u b))
    (up_to_parts s t a)

-- a number that the test finds in a list is in it
pub In-from_has : (x : ℕ) (xs : List ℕ) → has x xs ≡ true → In x xs
In-from_has x [] e = absurd (cc)
In-from_has x (y ∷ ys) e = ⊎_elim (λ h. inl (eq_from x y h)) (λ h. inr (In-from_has x ys h)) (or_cases (eqb x y) (has x ys) e)

-- the test finds a number that is in the list
pub has-from_In : (x : ℕ) (xs : List ℕ) → In x xs → has x xs ≡ true
has-from_In x [] i = elim i [ ]
has-from_In x (y ∷ ys) (inl e) = let q : eqb x y ≡ true = eq_to x y e in ap (λ (z : Bool). z || has x ys) q
has-from_In x (y ∷ ys) (inr i) = or_true (eqb x y) (has x ys) (has-from_In x ys i)

-- where the test says that all have answered, each of them has
pub answered_all : (xs answered : List ℕ) → all_answered xs answered ≡ true → (x : ℕ) → In x xs → In x answered
answered_all [] answered e x h = elim h [ ]
answered_all (y ∷ ys) answered e x (inl s) = subst (λ (z : ℕ). In z answered) (sym s) (In-from_has y answered (and_left _ (all_answered ys answered) e))
answered_all (y ∷ ys) answered e x (inr h) = answered_all ys answered (and_right (has y answered) _ e) x h
