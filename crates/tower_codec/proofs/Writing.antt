-- What a writer holds after one more floor.
use Rattle.std.proofs.Common.{◌≡◌, ℕ, ◌+◌, ◌<◌, ◌^◌, List, [], ◌∷◌, ◌++◌, length, drop, sym, ap, subst, ◌∙◌, arith}
use Rattle.std.proofs.lemmas.List.{length_push}
use Rattle.tower_codec.specs.Tower.{Floor, AreFloors, IsTower}
use Rattle.tower_codec.specs.Spelling.{number_octets, floor_octets, FloorFits}
use Rattle.tower_codec.specs.TowerReading.{known_floors}
use Rattle.tower_codec.proofs.Known.{known_floors_are, length-known_floors}
use Rattle.tower_codec.proofs.SpellingLaws.{tower_push}

-- The floors of a tower are found after their number.
pub tower_known : (floors : List Floor) (x : List ℕ) → IsTower floors x → known_floors (length floors) (drop 2 x) ≡ floors
tower_known floors [] h = absurd h.1
tower_known floors (a ∷ []) h = absurd h.1
tower_known floors (low ∷ high ∷ x) h = known_floors_are x floors [] (subst (λ (y : List ℕ). AreFloors y floors []) (sym h.1.3) h.2)

-- The octets after show one floor more than those before.
pub record IsPushed (count : ℕ) (before after : List ℕ) (floor : Floor) : Type 0 where
  pub view : known_floors (count + 1) (drop 2 after) ≡ known_floors count (drop 2 before) ++ floor ∷ []
  pub tower : IsTower (known_floors (count + 1) (drop 2 after)) after

-- What is written after the floors so far is one floor more.
pub writer_push : (count : ℕ) (before after : List ℕ) (floor : Floor) → IsTower (known_floors count (drop 2 before)) before → count + 1 < 2 ^ 16
    → FloorFits floor
    → after ≡ number_octets (count + 1) ++ drop 2 (before ++ floor_octets floor) → IsPushed count before after floor
writer_push count before after floor h room fits e =
    let floors = known_floors count (drop 2 before) in
    let len : length floors ≡ count = length-known_floors count (drop 2 before) in
    let pushed = tower_push floors before floor h (omega (arith, len)) fits in
    let same : number_octets (length floors + 1) ++ drop 2 (before ++ floor_octets floor) ≡ after = ap (λ (n : ℕ). number_octets (n + 1) ++ drop 2
    (before ++ floor_octets floor)) len ∙ sym e in
    let tower : IsTower (floors ++ floor ∷ []) after = subst (λ (x : List ℕ). IsTower (floors ++ floor ∷ []) x) same pushed in
    let more : count + 1 ≡ length (floors ++ floor ∷ []) = ap (λ (n : ℕ). n + 1) (sym len) ∙ sym (length_push floors floor) in
    let view : known_floors (count + 1) (drop 2 after) ≡ floors ++ floor ∷ [] = ap (λ (n : ℕ). known_floors n (drop 2 after)) more
    ∙ tower_known (floors ++ floor ∷ []) after tower in
    record {
      view = view;
      tower = subst (λ (fs : List Floor). IsTower fs after) (sym view) tower;
    }
