-- Lines of tower text, word by word.
use Rattle.std.proofs.Common.{◌≡◌, ℕ, ◌+◌, ◌≤◌, ◌<◌, true, false, List, [], ◌∷◌, ◌++◌, length, refl, sym, ◌∙◌, ap, arith, append_assoc, append-nil}
use Rattle.std.proofs.Common.{length-append}
use Rattle.std.specs.Prelude.{Option, Some, None, nat_le}
use Rattle.std.specs.List.{flat_map}
use Rattle.std.specs.Option.{option_map, option_and_then}
use Rattle.std.proofs.lemmas.Bool.Decides.{nat_tests}
use Rattle.tower_codec.specs.Tower.{Floor}
use Rattle.tower_codec.specs.declared.view.FloorView.{FloorView}
use Rattle.tower_codec.specs.FloorView.{floor_of}
use Rattle.tower_codec.specs.Spelling.{floor_octets, tower_octets}
use Rattle.reply_buffer.specs.TowerTexts.{SaysTower, NoTower, floor_text, floor_said, floors_said, short_tower}
use Rattle.reply_buffer.specs.PrivateTowers.{AddsFloor}

-- ---- lengths

pub floors_length : (fs gs : List Floor) → length (flat_map floor_octets (fs ++ gs)) ≡ length (flat_map floor_octets fs) + length (flat_map floor_octets gs)
floors_length [] gs = omega arith
floors_length (f ∷ fs) gs =
    let later = floors_length fs gs in
    omega (arith, later, length-append (floor_octets f) (flat_map floor_octets (fs ++ gs)), length-append (floor_octets f) (flat_map floor_octets fs))

-- each floor has an octet at least
pub few_floors : (fs : List Floor) → length fs ≤ length (flat_map floor_octets fs)
few_floors [] = omega arith
few_floors (f ∷ fs) =
    let later = few_floors fs in
    omega (arith, later, length-append (floor_octets f) (flat_map floor_octets fs))

-- a tower of few octets has few floors
pub tower_room : (fs : List Floor) → length (tower_octets fs) ≤ 1024 → length fs < 65535
tower_room fs few = omega (arith, few, few_floors fs)

-- ---- the floors of a tower as text

-- the floors that are left, from the next one on
abbrev pub left_floors : Option (FloorView × List Floor) → List Floor
left_floors None = []
left_floors (Some p) = floor_of p.0 ∷ p.1

-- the text grew, and with the floors that are left it is that of all; these are not long
pub record FloorsLeft (before text : List ℕ) (all left : List Floor) : Type 0 where
  pub more : List ℕ
  pub grown : text ≡ before ++ more
  pub whole : text ++ flat_map (λ f. 32 ∷ floor_text f) left ≡ before ++ flat_map (λ f. 32 ∷ floor_text f) all
  pub few : length (flat_map floor_octets left) ≤ 1022

-- ---- what a line says

too_long : (fs : List Floor) → 1024 < length (tower_octets fs) → short_tower (Some fs) ≡ NoTower
too_long fs long = let no : nat_le (length (tower_octets fs)) 1024 ≡ false = grind (arith, nat_tests) in rw no refl

-- a tower of few octets is said
pub short : (fs : List Floor) → length (tower_octets fs) ≤ 1024 → short_tower (Some fs) ≡ SaysTower fs
short fs few = let yes_it_is : nat_le (length (tower_octets fs)) 1024 ≡ true = grind (arith, nat_tests) in rw yes_it_is refl

-- the floors that were read, and those that the words left say, make what all words say
pub record FloorsRead (words all : List (List ℕ)) (tower : List Floor) : Type 0 where
  pub few : length (tower_octets tower) ≤ 1024
  pub rest : short_tower (option_map (λ fs. tower ++ fs) (floors_said words)) ≡ short_tower (floors_said all)

pub floors_start : (all : List (List ℕ)) (tower : List Floor) → tower ≡ [] → FloorsRead all all tower
floors_start all tower none = record { few = rw none (omega arith); rest = rw none (by_said (floors_said all)) }
  where
    by_said : (o : Option (List Floor)) → short_tower (option_map (λ fs. [] ++ fs) o) ≡ short_tower o
    by_said None = refl
    by_said (Some fs) = refl

-- one more word says a floor
pub floors_on : (word : List ℕ) (words all : List (List ℕ)) (tower tower' : List Floor) → FloorsRead (word ∷ words) all tower
    → AddsFloor true (floor_said word) tower tower' → FloorsRead words all tower'
floors_on word words all tower tower' read adds = by_floor (floor_said word) refl adds
  where
    joined : (f : Floor) (o : Option (List Floor)) → option_map (λ fs. (tower ++ f ∷ []) ++ fs) o ≡ option_map (λ fs. tower ++ fs) (option_map (λ fs. f ∷ fs) o)
    joined f None = refl
    joined f (Some fs) = ap Some (append_assoc tower (f ∷ []) fs)

    by_floor : (o : Option Floor) → floor_said word ≡ o → AddsFloor true o tower tower' → FloorsRead words all tower'
    by_floor None is adds = absurd adds
    by_floor (Some f) is adds = record {
      few = adds.1;
      rest =
          ap (λ (t : List Floor). short_tower (option_map (λ fs. t ++ fs) (floors_said words))) adds.0
          ∙ ap short_tower (joined f (floors_said words))
          ∙ ap (λ (o : Option Floor). short_tower (option_map (λ fs. tower ++ fs)
          (option_and_then (λ floor. option_map (λ floors. floor ∷ floors) (floors_said words)) o))) (sym is)
          ∙ read.rest;
    }

-- one more word says none, or one too long
pub floors_fail : (word : List ℕ) (words all : List (List ℕ)) (tower tower' : List Floor) → FloorsRead (word ∷ words) all tower
    → AddsFloor false (floor_said word) tower tower' → short_tower (floors_said all) ≡ NoTower
floors_fail word words all tower tower' read adds = sym read.rest ∙ by_floor (floor_said word) adds
  where
    by_rest : (f : Floor) → 1024 < length (tower_octets (tower ++ f ∷ [])) → (o : Option (List Floor))
        → short_tower (option_map (λ fs. tower ++ fs) (option_map (λ fs. f ∷ fs) o)) ≡ NoTower
    by_rest f long None = refl
    by_rest f long (Some fs) =
        too_long (tower ++ f ∷ fs)
        (omega (
          arith,
          long,
          floors_length tower (f ∷ fs),
          floors_length tower (f ∷ []),
          length-append (floor_octets f)
              (flat_map floor_octets fs),
          length-append (floor_octets f) [],
        ))

    by_floor : (o : Option Floor) → AddsFloor false o tower tower' → short_tower
        (option_map (λ fs. tower ++ fs) (option_and_then (λ floor. option_map (λ floors. floor ∷ floors) (floors_said words)) o)) ≡ NoTower
    by_floor None adds = refl
    by_floor (Some f) adds = by_rest f adds (floors_said words)

-- no word is left
pub floors_end : (all : List (List ℕ)) (tower : List Floor) → FloorsRead [] all tower → short_tower (floors_said all) ≡ SaysTower tower
floors_end all tower read = sym read.rest ∙ ap (λ (fs : List Floor). short_tower (Some fs)) (append-nil tower) ∙ short tower read.few
