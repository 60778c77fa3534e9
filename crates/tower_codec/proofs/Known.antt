-- Floors that are known to stand there are found again by their lengths.
use Rattle.std.proofs.Common.{◌≡◌, ◌≢◌, ℕ, zero, suc, ◌+◌, ◌-◌, ◌<◌, List, [], ◌∷◌, length, drop, Some, refl, sym, ap, subst, ◌∙◌, arith}
use Rattle.std.specs.Prelude.{slice_get}
use Rattle.std.proofs.lemmas.List.{take_at, drop_at, drop-drop}
use Rattle.tower_codec.specs.Tower.{Floor, IsPart, IsFloor, AreFloors}
use Rattle.tower_codec.specs.TowerReading.{known_part, after_known_part, known_floor, after_known_floor, known_floors}
use Rattle.tower_codec.proofs.Grammar.{same_floor}

known_part_is : (x part rest : List ℕ) → IsPart x part rest → (known_part x ≡ part) × (after_known_part x ≡ rest)
known_part_is [] part rest h = absurd h
known_part_is (a ∷ []) part rest h = absurd h
known_part_is (low ∷ high ∷ x) part rest h =
    (rw (h.3, ← h.2) (take_at part rest (length part) refl), rw (h.3, ← h.2) (drop_at part rest (length part) refl))

pub known_floor_is : (x : List ℕ) (floor : Floor) (rest : List ℕ) → IsFloor x floor rest → (known_floor x ≡ floor) × (after_known_floor x ≡ rest)
known_floor_is x floor rest h =
    let left = known_part_is x floor.left h.1.0 h.1.1 in
    let right = known_part_is h.1.0 floor.right rest h.1.2 in
    let parts : known_part (after_known_part x) ≡ floor.right = ap known_part left.1 ∙ right.0 in
    (same_floor (known_floor x) floor left.0 parts, ap after_known_part left.1 ∙ right.1)

-- Floors that stand in front are the known ones.
pub known_floors_are : (x : List ℕ) (floors : List Floor) (rest : List ℕ) → AreFloors x floors rest → known_floors (length floors) x ≡ floors
unfolding known_floors
known_floors_are x [] rest h = refl
known_floors_are x (floor ∷ floors) rest h =
    let first = known_floor_is x floor h.0 h.1 in
    let later : known_floors (length floors) (after_known_floor x) ≡ floors = ap (known_floors (length floors)) first.1
    ∙ known_floors_are h.0 floors rest h.2 in
    cc (first.0, later)

-- There are as many known floors as are counted.
pub length-known_floors : (count : ℕ) (x : List ℕ) → length (known_floors count x) ≡ count
unfolding known_floors
length-known_floors zero x = refl
length-known_floors (suc count) x = ap suc (length-known_floors count (after_known_floor x))

-- What a walk has in front of it: floors that stand there, the last ones of all.
pub record IsAhead (count i : ℕ) (x : List ℕ) (all : List Floor) : Type 0 where
  pub known : AreFloors x (known_floors (count - i) x) []
  pub floors : known_floors (count - i) x ≡ drop i all

-- The next floor is there.
pub floor_ahead : (count i : ℕ) (x : List ℕ) → i < count → AreFloors x (known_floors (count - i) x) []
    → IsFloor x (known_floor x) (after_known_floor x) × AreFloors (after_known_floor x) (known_floors (count - (i + 1)) (after_known_floor x)) []
unfolding known_floors
floor_ahead count i x within known =
    let m = count - (i + 1) in
    let k : count - i ≡ suc m = omega arith in
    let parts : AreFloors x (known_floor x ∷ known_floors m (after_known_floor x)) [] = rw k at known in
    let rest = (known_floor_is x (known_floor x) parts.0 parts.1).1 in
    (rw rest parts.1, subst (λ (y : List ℕ). AreFloors y (known_floors m (after_known_floor x)) []) (sym rest) parts.2)

-- One floor on, the other floors are known after it.
pub walk_on : (count i : ℕ) (x : List ℕ) (all : List Floor) → i < count → IsAhead count i x all → IsAhead count (i + 1) (after_known_floor x) all
unfolding known_floors
walk_on count i x all within ahead =
    let m = count - (i + 1) in
    let k : count - i ≡ suc m = omega arith in
    let floors : known_floor x ∷ known_floors m (after_known_floor x) ≡ drop i all = rw k at ahead.floors in
    record {
      known = (floor_ahead count i x within ahead.known).1;
      floors = ap (drop 1) floors ∙ drop-drop 1 i all;
    }

slice_get-drop : (i : ℕ) (all : List Floor) → slice_get all i ≡ slice_get (drop i all) 0
slice_get-drop zero all = refl
slice_get-drop (suc i) [] = refl
slice_get-drop (suc i) (floor ∷ all) = slice_get-drop i all

-- The floor after those passed is the next of all.
pub found_ahead : (count i : ℕ) (x : List ℕ) (all : List Floor) → i < count → known_floors (count - i) x ≡ drop i all → Some (known_floor x) ≡ slice_get all i
unfolding known_floors
found_ahead count i x all within floors =
    let k : count - i ≡ suc (count - (i + 1)) = omega arith in
    let parts : known_floor x ∷ known_floors (count - (i + 1)) (after_known_floor x) ≡ drop i all = rw k at floors in
    ap (λ (fs : List Floor). slice_get fs 0) parts ∙ sym (slice_get-drop i all)

-- no floors stand in front of nothing
pub none_ahead : (count : ℕ) (x : List ℕ) → count ≡ 0 → known_floors count x ≡ []
unfolding known_floors
none_ahead zero x none = refl
none_ahead (suc count) x none = absurd (omega arith)

-- the first of some floors, and those after it
pub record StandsFirst (count : ℕ) (x : List ℕ) : Type 0 where
  pub stands : IsFloor x (known_floor x) (after_known_floor x)
  pub behind : AreFloors (after_known_floor x) (known_floors (count - 1) (after_known_floor x)) []
  pub floors : known_floors count x ≡ known_floor x ∷ known_floors (count - 1) (after_known_floor x)

-- The first floor is known, and so are those after it.
pub first_ahead : (count : ℕ) (x : List ℕ) → count ≢ 0 → AreFloors x (known_floors count x) [] → StandsFirst count x
unfolding known_floors
first_ahead count x some known =
    let whole : count ≡ count - 0 = omega arith in
    let next : count ≡ suc (count - 1) = omega arith in
    let ahead = floor_ahead count 0 x (omega arith) (subst (λ (n : ℕ). AreFloors x (known_floors n x) []) whole known) in
    record {
      stands = ahead.0;
      behind = ahead.1;
      floors = ap (λ (n : ℕ). known_floors n x) next;
    }
