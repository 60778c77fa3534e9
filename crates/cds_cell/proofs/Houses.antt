-- The houses of a cell, by number and by place.
use Rattle.std.proofs.Common.{◌≡◌, ◌≢◌, ℕ, zero, suc, ◌+◌, List, [], ◌∷◌, ◌++◌, map, Bool, true, false, cond, slice_set, length, ◌<◌, subst, refl, sym}
use Rattle.std.proofs.Common.{◌∙◌, ap, arith}
use Rattle.std.specs.Prelude.{Option, Some, None, MatchOption, is_some, if◌then◌else◌, ◌==◌, ◌||◌, slice_get}
use Rattle.std.specs.List.{position_from, list_any}
use Rattle.std.proofs.Math.ListN.{get_or}
use Rattle.cell_model.specs.Cells.{Cell}
use Rattle.std.proofs.lemmas.Bool.Decides.{nat_tests}
use Rattle.cds_stamps.specs.Keyed.{no_value}
use Rattle.cell_model.specs.Sets.{has}
use Rattle.cell_model.specs.Steps.{stands_twice}
use Rattle.house_directory.specs.HouseMessages.{numbers_of}
use Rattle.cds_cell.specs.declared.house.CellHouse.{CellHouse}
use Rattle.cds_cell.specs.PrivateSteps.{IsPlaceOf}
use Rattle.cds_cell.specs.ModelCells.{house_of, MaybeStandsHouse}

-- the numbers of houses, in their order
abbrev pub house_numbers : List CellHouse → List ℕ
house_numbers hs = numbers_of (map (λ h. h.house) hs)

-- a house of this number
abbrev pub is_house : ℕ → CellHouse → Bool
is_house x h = h.house.0 == x

-- what a search for a number finds
abbrev pub Place : List CellHouse → (x k : ℕ) → Option ℕ → Type 0
Place hs x k None = house_of hs x ≡ None
Place hs x k (Some i) = (j : ℕ) × (i ≡ k + j) × IsPlaceOf hs x j

pub place_found : (x k : ℕ) (hs : List CellHouse) → Place hs x k (position_from (is_house x) k hs)
place_found x k [] = refl
place_found x k (h ∷ hs) = go (h.house.0 == x) refl (place_found x (k + 1) hs)
  where
    behind : h.house.0 ≢ x → (r : Option ℕ) → Place hs x (k + 1) r → (h.house.0 == x) ≡ false → Place (h ∷ hs) x k r
    behind other None found off = rw off found
    behind other (Some i) found off = let j = found.0 in let is = found.1 in (suc j, omega (arith, is), (other, found.2))

    go : (b : Bool) → (h.house.0 == x) ≡ b → Place hs x (k + 1) (position_from (is_house x) (k + 1) hs)
        → Place (h ∷ hs) x k (cond b (Some k) (position_from (is_house x) (k + 1) hs))
    go true on rest = (0, omega arith, grind (arith, nat_tests, on))
    go false off rest = behind (grind (arith, nat_tests, off)) (position_from (is_house x) (k + 1) hs) rest off

-- a house of a list has its number among theirs
pub has_number : (hs : List CellHouse) (x : ℕ) → has x (house_numbers hs) ≡ is_some (house_of hs x)
has_number [] x = refl
has_number (h ∷ hs) x = go (h.house.0 == x) refl (has_number hs x)
  where
    go : (b : Bool) → (h.house.0 == x) ≡ b → has x (house_numbers hs) ≡ is_some (house_of hs x)
        → has x (house_numbers (h ∷ hs)) ≡ is_some (if b then Some h else house_of hs x)
    go true on rest = grind (arith, nat_tests, on)
    go false off rest = grind (arith, nat_tests, off, rest)

-- one house of the list changes, and keeps its number
pub numbers_kept : (hs : List CellHouse) (x i : ℕ) (w : CellHouse) → w.house.0 ≡ x → IsPlaceOf hs x i → house_numbers (slice_set hs i w) ≡ house_numbers hs
numbers_kept [] x i w is there = absurd there
numbers_kept (h ∷ hs) x zero w is there = ap (λ n. n ∷ house_numbers hs) (is ∙ sym there)
numbers_kept (h ∷ hs) x (suc i) w is there = ap (λ ns. h.house.0 ∷ ns) (numbers_kept hs x i w is there.1)

-- the houses after a change of one
pub house_changed : (hs : List CellHouse) (x i : ℕ) (w : CellHouse) → w.house.0 ≡ x → IsPlaceOf hs x i → (y : ℕ)
    → house_of (slice_set hs i w) y ≡ (if w.house.0 == y then Some w else house_of hs y)
house_changed [] x i w is there y = absurd there
house_changed (h ∷ hs) x zero w is there y = go (w.house.0 == y) refl
  where
    go : (b : Bool) → (w.house.0 == y) ≡ b → (if b then Some w else house_of hs y) ≡ (if b then Some w else (if h.house.0 == y then Some h else house_of hs y))
    go true on = refl
    go false off = let other : (h.house.0 == y) ≡ false = grind (arith, nat_tests, off, is, there) in rw other refl
house_changed (h ∷ hs) x (suc i) w is there y = go (h.house.0 == y) refl (house_changed hs x i w is there.1 y)
  where
    go : (b : Bool) → (h.house.0 == y) ≡ b → house_of (slice_set hs i w) y ≡ (if w.house.0 == y then Some w else house_of hs y)
        → (if b then Some h else house_of (slice_set hs i w) y) ≡ (if w.house.0 == y then Some w else (if b then Some h else house_of hs y))
    go true on rest = let apart = there.0 in let other : (w.house.0 == y) ≡ false = grind (arith, nat_tests, on, is, apart) in rw other refl
    go false off rest = rest

-- the house at the place of a number
pub house_at : (hs : List CellHouse) (x i : ℕ) → IsPlaceOf hs x i → (h : CellHouse) × (house_of hs x ≡ Some h) × (h.house.0 ≡ x)
house_at [] x i there = absurd there
house_at (h ∷ hs) x zero there = let on : (h.house.0 == x) ≡ true = grind (arith, nat_tests, there) in (h, rw on refl, there)
house_at (h ∷ hs) x (suc i) there = let apart = there.0 in let off : (h.house.0 == x) ≡ false = grind (arith, nat_tests, apart) in
    let rest = house_at hs x i there.1 in (rest.0, rw off rest.1, rest.2)

-- one house more
new_behind : (h w : CellHouse) (hs : List CellHouse) (b : Bool) → (h.house.0 == w.house.0) ≡ b → (if b then Some h else house_of hs w.house.0) ≡ None
    → (house_of hs w.house.0 ≡ None) × (b ≡ false)
new_behind h w hs true on new = absurd (cc)
new_behind h w hs false off new = (new, refl)

-- the houses after one more
pub house_added : (hs : List CellHouse) (w : CellHouse) → house_of hs w.house.0 ≡ None → (y : ℕ)
    → house_of (hs ++ w ∷ []) y ≡ (if w.house.0 == y then Some w else house_of hs y)
house_added [] w new y = refl
house_added (h ∷ hs) w new y =
    let behind = new_behind h w hs (h.house.0 == w.house.0) refl new in
    go (h.house.0 == y) refl behind.1 (house_added hs w behind.0 y)
  where
    go : (b : Bool) → (h.house.0 == y) ≡ b → (h.house.0 == w.house.0) ≡ false → house_of (hs ++ w ∷ []) y ≡ (if w.house.0 == y then Some w else house_of hs y)
        → (if b then Some h else house_of (hs ++ w ∷ []) y) ≡ (if w.house.0 == y then Some w else (if b then Some h else house_of hs y))
    go true on apart rest = let other : (w.house.0 == y) ≡ false = grind (arith, nat_tests, on, apart) in rw other refl
    go false off apart rest = rest

-- and their numbers
pub numbers_added : (hs : List CellHouse) (w : CellHouse) → house_numbers (hs ++ w ∷ []) ≡ house_numbers hs ++ w.house.0 ∷ []
numbers_added [] w = refl
numbers_added (h ∷ hs) w = ap (λ ns. h.house.0 ∷ ns) (numbers_added hs w)

-- what a search from the front finds
pub found_from_front : (hs : List CellHouse) (x : ℕ) (r : Option ℕ) → r ≡ position_from (is_house x) 0 hs
    → MatchOption r (house_of hs x ≡ None) (IsPlaceOf hs x)
found_from_front hs x r is = at r (subst (Place hs x 0) (sym is) (place_found x 0 hs))
  where
    at : (r : Option ℕ) → Place hs x 0 r → MatchOption r (house_of hs x ≡ None) (IsPlaceOf hs x)
    at None found = found
    at (Some i) found = let j = found.0 in let same : j ≡ i = (let is = found.1 in omega (arith, is)) in subst (IsPlaceOf hs x) same found.2

-- a place is within the list
pub place_within : (hs : List CellHouse) (x i : ℕ) → IsPlaceOf hs x i → i < length hs
place_within [] x i there = absurd there
place_within (h ∷ hs) x zero there = omega arith
place_within (h ∷ hs) x (suc i) there = let less = place_within hs x i there.1 in omega (arith, less)

-- the house at a place, as an index gives it
pub get_at_place : (hs : List CellHouse) (x i : ℕ) (d : CellHouse) → IsPlaceOf hs x i → house_of hs x ≡ Some (get_or hs i d)
get_at_place [] x i d there = absurd there
get_at_place (h ∷ hs) x zero d there = let on : (h.house.0 == x) ≡ true = grind (arith, nat_tests, there) in rw on refl
get_at_place (h ∷ hs) x (suc i) d there = let apart = there.0 in let off : (h.house.0 == x) ≡ false = grind (arith, nat_tests, apart) in
    rw off (get_at_place hs x i d there.1)

-- the house that an index reads at the place of a number
pub house_there : (hs : List CellHouse) (x i : ℕ) (h : CellHouse) → IsPlaceOf hs x i → h ≡ get_or hs i h → (house_of hs x ≡ Some h) × (h.house.0 ≡ x)
house_there hs x i h place is =
    let known = house_at hs x i place in
    let there : house_of hs x ≡ Some h = get_at_place hs x i h place ∙ ap Some (sym is) in
    let same : known.0 ≡ h = cc (known.1, there) in
    (there, ap (λ (h : CellHouse). h.house.0) (sym same) ∙ known.2)

-- a number that none has is no house's
pub not_there : (hs : List CellHouse) (y : ℕ) → has y (house_numbers hs) ≡ false → house_of hs y ≡ None
not_there hs y off = no_value (house_of hs y) (sym (has_number hs y) ∙ off)

-- numbers that stand once, of which the first is taken off
once_behind : (x : ℕ) (xs : List ℕ) → stands_twice (x ∷ xs) ≡ false → (has x xs ≡ false) × (stands_twice xs ≡ false)
once_behind x xs once = (grind (arith, nat_tests, once), grind (arith, nat_tests, once))

-- a house has this number or this node, as the model sees it
abbrev pub is_either : Cell → (x node : ℕ) → ℕ → Bool
is_either g x node y = (y == x) || ((g.house y).node == node)

-- the house has this number or this node
abbrev pub has_either : (x node : ℕ) → CellHouse → Bool
has_either x node h = (h.house.0 == x) || (h.node == node)

-- the program and the model find the number or the node taken alike
pub taken_alike : (g : Cell) (x node : ℕ) (hs : List CellHouse) → stands_twice (house_numbers hs) ≡ false
    → ((y : ℕ) → MaybeStandsHouse (house_of hs y) (g.house y)) → list_any (has_either x node) hs ≡ list_any (is_either g x node) (house_numbers hs)
taken_alike g x node [] once stands = refl
taken_alike g x node (h ∷ hs) once stands =
    let apart = once_behind h.house.0 (house_numbers hs) once in
    cc (head (stands h.house.0), taken_alike g x node hs apart.1 (λ y. rest y (h.house.0 == y) refl apart.0 (stands y)))
  where
    head : MaybeStandsHouse (if h.house.0 == h.house.0 then Some h else house_of hs h.house.0) (g.house h.house.0)
        → has_either x node h ≡ is_either g x node h.house.0
    head there = let same : (h.house.0 == h.house.0) ≡ true = grind (arith, nat_tests) in let house = rw same at there in rw house.node refl

    rest : (y : ℕ) (b : Bool) → (h.house.0 == y) ≡ b → has h.house.0 (house_numbers hs) ≡ false
        → MaybeStandsHouse (if b then Some h else house_of hs y) (g.house y) → MaybeStandsHouse (house_of hs y) (g.house y)
    rest y true on apart there = let is : h.house.0 ≡ y = grind (arith, nat_tests, on) in
        rw (not_there hs y (ap (λ n. has n (house_numbers hs)) (sym is) ∙ apart)) tt
    rest y false off apart there = there

-- one number more
pub once_added : (xs : List ℕ) (x : ℕ) → stands_twice xs ≡ false → has x xs ≡ false → stands_twice (xs ++ x ∷ []) ≡ false
once_added [] x once new = refl
once_added (y ∷ xs) x once new =
    let apart = once_behind y xs once in
    let other : has x xs ≡ false = grind (arith, nat_tests, new) in
    let this : (x == y) ≡ false = grind (arith, nat_tests, new) in
    cc (has_added xs, once_added xs x apart.1 other, apart.0, this, swapped this)
  where
    swapped : (x == y) ≡ false → (y == x) ≡ false
    swapped this = grind (arith, nat_tests, this)

    has_added : (zs : List ℕ) → has y (zs ++ x ∷ []) ≡ (has y zs || (y == x))
    has_added [] = grind (arith, nat_tests)
    has_added (z ∷ zs) = let rest = has_added zs in grind (arith, nat_tests, rest)

-- whether a search found a house
pub found_is : (hs : List CellHouse) (x : ℕ) (r : Option ℕ) → MatchOption r (house_of hs x ≡ None) (IsPlaceOf hs x) → is_some r ≡ is_some (house_of hs x)
found_is hs x None found = ap is_some (sym found)
found_is hs x (Some i) found = let at = house_at hs x i found in ap is_some (sym at.1)

-- the house that is at the place of a number is that of the number
pub house_of_place : (hs : List CellHouse) (x i : ℕ) (h : CellHouse) → IsPlaceOf hs x i → slice_get hs i ≡ Some h → (house_of hs x ≡ Some h) × (h.house.0 ≡ x)
house_of_place [] x i h there is = absurd there
house_of_place (k ∷ hs) x zero h there is =
    let same : k ≡ h = cc in
    let on : (k.house.0 == x) ≡ true = grind (arith, nat_tests, there) in
    (rw on is, ap (λ (h : CellHouse). h.house.0) (sym same) ∙ there)
house_of_place (k ∷ hs) x (suc i) h there is =
    let apart = there.0 in
    let off : (k.house.0 == x) ≡ false = grind (arith, nat_tests, apart) in
    let rest = house_of_place hs x i h there.1 is in
    (rw off rest.0, rest.1)
