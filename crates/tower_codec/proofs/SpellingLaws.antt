-- The relation of the grammar and the spelling as a function are one.
use Rattle.std.proofs.Common.{◌≡◌, ℕ, ◌+◌, ◌/◌, ◌%◌, ◌<◌, ◌^◌, List, [], ◌∷◌, ◌++◌, length, drop, refl, sym, ap, subst, ◌∙◌, append_assoc, arith}
use Rattle.std.specs.List.{flat_map, AllByRecursion}
use Rattle.std.proofs.lemmas.List.{append-nil, append_cancel_right, length_push}
use Rattle.tower_codec.specs.Tower.{Floor, IsNumber, IsPart, IsFloor, AreFloors, IsTower}
use Rattle.tower_codec.specs.Spelling.{number_octets, part_octets, floor_octets, tower_octets, FloorFits, HasSpelling}
use Rattle.tower_codec.proofs.Grammar.{floors_before, floors_once}

-- ---- What is in the grammar is the spelling.

number_spelled : (x : List ℕ) (n : ℕ) (rest : List ℕ) → IsNumber x n rest → (n < 2 ^ 16) × (x ≡ number_octets n ++ rest)
number_spelled [] n rest h = absurd h
number_spelled (a ∷ []) n rest h = absurd h
number_spelled (low ∷ high ∷ x) n rest h =
    let low_is : low ≡ n % 256 = omega (arith, h.0, h.2) in
    let high_is : high ≡ n / 256 = omega (arith, h.0, h.2) in
    (omega (arith, h.0, h.1, h.2), rw (low_is, high_is, h.3) refl)

part_spelled : (x part rest : List ℕ) → IsPart x part rest → (length part < 2 ^ 16) × (x ≡ part_octets part ++ rest)
part_spelled x part rest h = number_spelled x (length part) (part ++ rest) h

floor_spelled : (x : List ℕ) (floor : Floor) (rest : List ℕ) → IsFloor x floor rest → FloorFits floor × (x ≡ floor_octets floor ++ rest)
floor_spelled x floor rest h =
    let left = part_spelled x floor.left h.1.0 h.1.1 in
    let right = part_spelled h.1.0 floor.right rest h.1.2 in (
      record { some = h.0; left = left.0; right = right.0 },
      left.1 ∙ ap (λ (y : List ℕ). part_octets floor.left ++ y) right.1 ∙ sym (append_assoc (part_octets floor.left) (part_octets floor.right) rest),
    )

floors_spelled : (x : List ℕ) (floors : List Floor) (rest : List ℕ) → AreFloors x floors rest → AllByRecursion FloorFits floors
    × (x ≡ flat_map floor_octets floors ++ rest)
floors_spelled x [] rest h = (tt, h)
floors_spelled x (floor ∷ floors) rest h =
    let first = floor_spelled x floor h.0 h.1 in
    let later = floors_spelled h.0 floors rest h.2 in (
      (first.0, later.0),
      first.1 ∙ ap (λ (y : List ℕ). floor_octets floor ++ y) later.1
          ∙ sym (append_assoc (floor_octets floor) (flat_map floor_octets floors) rest),
    )

-- The octets of a tower are its one spelling.
pub tower_spelled : (floors : List Floor) (x : List ℕ) → IsTower floors x → HasSpelling floors × (x ≡ tower_octets floors)
tower_spelled floors x h =
    let count = number_spelled x (length floors) h.0 h.1 in
    let body = floors_spelled h.0 floors [] h.2 in
    ((count.0, body.0), count.1 ∙ ap (λ (y : List ℕ). number_octets (length floors) ++ y) (body.1 ∙ append-nil (flat_map floor_octets floors)))

-- ---- The spelling is in the grammar.

-- The octets of a number are read as it.
pub number_again : (n : ℕ) (rest : List ℕ) → n < 2 ^ 16 → IsNumber (number_octets n ++ rest) n rest
number_again n rest fits = (omega arith, omega arith, omega arith, refl)

part_again : (part rest : List ℕ) → length part < 2 ^ 16 → IsPart (part_octets part ++ rest) part rest
part_again part rest fits = number_again (length part) (part ++ rest) fits

-- The spelling of a floor is read as it.
pub floor_again : (floor : Floor) (rest : List ℕ) → FloorFits floor → IsFloor (floor_octets floor ++ rest) floor rest
floor_again floor rest fits =
    let between = part_octets floor.right ++ rest in
    let left : IsPart (floor_octets floor ++ rest) floor.left between =
    subst (λ (y : List ℕ). IsPart y floor.left between) (sym (append_assoc (part_octets floor.left) (part_octets floor.right) rest))
    (part_again floor.left between fits.left) in
    (fits.some, (between, left, part_again floor.right rest fits.right))

floors_again : (floors : List Floor) (rest : List ℕ) → AllByRecursion FloorFits floors → AreFloors (flat_map floor_octets floors ++ rest) floors rest
floors_again [] rest fits = refl
floors_again (floor ∷ floors) rest fits =
    let between = flat_map floor_octets floors ++ rest in
    let first : IsFloor (flat_map floor_octets (floor ∷ floors) ++ rest) floor between =
    subst (λ (y : List ℕ). IsFloor y floor between) (sym (append_assoc (floor_octets floor) (flat_map floor_octets floors) rest))
    (floor_again floor between fits.0) in
    (between, first, floors_again floors rest fits.1)

-- The spelling of floors is a tower of them.
pub tower_again : (floors : List Floor) → HasSpelling floors → IsTower floors (tower_octets floors)
tower_again floors fits =
    let body = flat_map floor_octets floors in
    let are : AreFloors body floors [] = subst (λ (y : List ℕ). AreFloors y floors []) (append-nil body) (floors_again floors [] fits.1) in
    (body, number_again (length floors) body fits.0, are)

-- ---- One more floor.

push_behind : (x : List ℕ) (floors : List Floor) (behind : List ℕ) (floor : Floor) → AreFloors x floors behind → IsFloor behind floor []
    → AreFloors x (floors ++ floor ∷ []) []
push_behind x [] behind floor h one = ([], subst (λ (y : List ℕ). IsFloor y floor []) (sym h) one, refl)
push_behind x (first ∷ floors) behind floor h one = (h.0, h.1, push_behind h.0 floors behind floor h.2 one)

pub floors_push : (x : List ℕ) (floors : List Floor) (floor : Floor) → AreFloors x floors [] → FloorFits floor
    → AreFloors (x ++ floor_octets floor) (floors ++ floor ∷ []) []
floors_push x floors floor h fits =
    let one : IsFloor (floor_octets floor) floor [] = subst (λ (y : List ℕ). IsFloor y floor []) (append-nil (floor_octets floor))
    (floor_again floor [] fits) in
    push_behind (x ++ floor_octets floor) floors (floor_octets floor) floor (floors_before x floors [] (floor_octets floor) h) one

-- A writer's octets with one more floor after them and counted are the tower of one more floor.
pub tower_push : (floors : List Floor) (x : List ℕ) (floor : Floor) → IsTower floors x → length floors + 1 < 2 ^ 16 → FloorFits floor
    → IsTower (floors ++ floor ∷ []) (number_octets (length floors + 1) ++ drop 2 (x ++ floor_octets floor))
tower_push floors [] floor h room fits = absurd h.1
tower_push floors (a ∷ []) floor h room fits = absurd h.1
tower_push floors (low ∷ high ∷ x) floor h room fits =
    let body = x ++ floor_octets floor in
    let are : AreFloors x floors [] = subst (λ (y : List ℕ). AreFloors y floors []) (sym h.1.3) h.2 in
    let count = subst (λ (n : ℕ). IsNumber (number_octets (length floors + 1) ++ body) n body) (sym (length_push floors floor))
    (number_again (length floors + 1) body room) in
    (body, count, floors_push x floors floor are fits)

-- No tower begins another.
pub towers_apart : (floors others : List Floor) (a b x y : List ℕ) → IsTower floors a → IsTower others b → a ++ x ≡ b ++ y → (floors ≡ others)
    × (a ≡ b) × (x ≡ y)
towers_apart floors others [] b x y g h e = absurd g.1
towers_apart floors others (l ∷ []) b x y g h e = absurd g.1
towers_apart floors others (low ∷ high ∷ a) [] x y g h e = absurd h.1
towers_apart floors others (low ∷ high ∷ a) (l ∷ []) x y g h e = absurd h.1
towers_apart floors others (low ∷ high ∷ a) (low' ∷ high' ∷ b) x y g h e =
    let low_is : low ≡ low' = cc in
    let high_is : high ≡ high' = cc in
    let body_is : a ++ x ≡ b ++ y = cc in
    let g_are : AreFloors a floors [] = subst (λ (t : List ℕ). AreFloors t floors []) (sym g.1.3) g.2 in
    let h_are : AreFloors b others [] = subst (λ (t : List ℕ). AreFloors t others []) (sym h.1.3) h.2 in
    let one = floors_once (b ++ y) floors others x y (omega (arith, g.1.2, h.1.2))
    (subst (λ (t : List ℕ). AreFloors t floors x) body_is (floors_before a floors [] x g_are)) (floors_before b others [] y h_are) in
    let front : a ≡ b = append_cancel_right a b y (ap (λ (t : List ℕ). a ++ t) (sym one.1) ∙ body_is) in
    (one.0, cc, one.1)
