-- What octets show of a tower, and that any octets demand something of `towers`.
use Rattle.std.proofs.Common.{◌≡◌, ◌⊎◌, inl, inr, ⊎_elim, ℕ, zero, suc, ◌+◌, ◌≤◌, ◌<◌, Bool, true, false, List, [], ◌∷◌, ◌++◌, length, take, drop, refl}
use Rattle.std.proofs.Common.{sym, ◌∙◌, ap, subst, arith, length-take, length-drop, take-append-drop}
use Rattle.std.specs.Prelude.{Result, Ok, Err, nat_lt, if◌then◌else◌}
use Rattle.std.proofs.lemmas.Bool.Decides.{nat_tests, leb_tells}
use Rattle.std.proofs.lemmas.List.{take_all, take-take}
use Rattle.tower_codec.specs.declared.fault.TowerFault.{TowerFault}
use Rattle.tower_codec.specs.declared.fault.TowerFault.TheVariants.{ShortCount, ShortLength, ShortPart, EmptyLeft}
use Rattle.tower_codec.specs.Tower.{Floor, IsTower, IsFault}
use Rattle.tower_codec.specs.TowerReading.{body_at, known_floors}
use Rattle.tower_codec.proofs.Grammar.{IsBytes, IsBytes-rest, IsBytes-tail}
use Rattle.tower_codec.proofs.TowersRead.{body_read, body_again}
use Rattle.tower_codec.proofs.FaultsRead.{fault_read, fault_again}
use Rattle.tower_codec.proofs.SpellingLaws.{towers_apart}
use Rattle.cell_replay.specs.declared.towers.StreamFault.TheVariants as stream
use Rattle.cell_replay.specs.declared.towers.Seen.TheVariants as seen
use Rattle.reply_buffer.specs.TowerTexts.{tower_text}
use Rattle.cell_replay.specs.TowerDemand.{in_sight, ShowsFault, EndsWithin, Rest, Nothing, AtFault, PartOf, IsRest, rest_demand, TowersDemand}
use Rattle.line_forms.specs.Demand.{Demand, with_front}
use Rattle.cell_replay.specs.PrivateSights.{Sees, part_seen, seen_fault}

-- one number is at most the other, or above it
pub le_or_lt : (a b : ℕ) → (a ≤ b) ⊎ (b < a)
le_or_lt a b = ⊎_elim (λ p. inl p.1) (λ p. inr p.1) (leb_tells a b)

abbrev Reading : Type 0
Reading = Result (ℕ × List ℕ) TowerFault

never_both : (x : ℕ × List ℕ) (fault : TowerFault) → ◌≡◌ {A = Reading} (Ok x) (Err fault) → ⊥
never_both x fault e = cc

-- octets that begin with a tower have no fault
pub tower_or_fault : (octets : List ℕ) (floors : List Floor) (front rest : List ℕ) (fault : TowerFault) → IsTower floors front
    → octets ≡ front ++ rest → IsFault octets fault → ⊥
tower_or_fault octets floors front rest fault tower split is =
    let again = body_again floors front rest tower in
    never_both (length floors, again.body) fault (sym again.read ∙ ap body_at (sym split) ∙ fault_again octets fault is)

-- the fault is one in which octets are missing
abbrev pub IsShort : TowerFault → Type 0
IsShort (ShortCount place) = Unit {0}
IsShort (ShortLength place) = Unit {0}
IsShort (ShortPart place) = Unit {0}
IsShort (EmptyLeft place) = ⊥

-- octets have one fault
pub one_fault : (octets : List ℕ) (a b : TowerFault) → IsFault octets a → IsFault octets b → a ≡ b
one_fault octets a b first second =
    let same : ◌≡◌ {A = Reading} (Err a) (Err b) = sym (fault_again octets a first) ∙ fault_again octets b second in
    cc (same)

short_not_empty : (octets : List ℕ) (fault : TowerFault) (place : ℕ) → IsShort fault → IsFault octets fault → IsFault octets (EmptyLeft place) → ⊥
short_not_empty octets fault place short is other = subst IsShort (one_fault octets fault (EmptyLeft place) is other) short

-- ---- too long

-- few octets are all in sight
pub sight_whole : (octets : List ℕ) → length octets ≤ 1025 → in_sight octets ≡ octets
sight_whole octets few = take_all 1025 octets few

-- a part of a tower that has 1,025 octets already
pub too_long_part : (number : ℕ) (octets : List ℕ) (fault : TowerFault) → number ≤ 16777216 → 1024 < length octets → IsShort fault
    → IsFault (in_sight octets) fault → ShowsFault number octets stream.TooLong
too_long_part number octets fault counted long short is = (
  counted,
  long,
  λ begins. tower_or_fault (in_sight octets) begins.0 begins.1 begins.2 fault begins.3.2 begins.4 is,
  λ place other. short_not_empty (in_sight octets) fault place short is other,
)

-- a tower of 1,025 octets
pub too_long_tower : (number : ℕ) (octets : List ℕ) (floors : List Floor) (n : ℕ) → number ≤ 16777216 → n ≤ length (in_sight octets) → 1024 < n
    → IsTower floors (take n (in_sight octets)) → ShowsFault number octets stream.TooLong
too_long_tower number octets floors n counted within long tower =
    let split : in_sight octets ≡ take n (in_sight octets) ++ drop n (in_sight octets) = sym (take-append-drop n (in_sight octets)) in
    let size : length (take n (in_sight octets)) ≡ n = omega (arith, within, length-take n (in_sight octets)) in (
      counted,
      omega (arith, within, long, length-take 1025 octets),
      λ begins.
          let apart = towers_apart floors begins.0 (take n (in_sight octets)) begins.1 (drop n (in_sight octets)) begins.2 tower begins.3.2
          (sym split ∙ begins.4) in
          let same = ap length apart.1 in
          let few = begins.3.1 in
          absurd (omega (arith, same, size, few, long)),
      λ place other. tower_or_fault (in_sight octets) floors (take n (in_sight octets)) (drop n (in_sight octets)) (EmptyLeft place) tower split other,
    )

-- ---- what is seen

part_sees : (number : ℕ) (octets : List ℕ) (fault : TowerFault) (ended : Bool) → number ≤ 16777216 → 0 < length octets → length octets ≤ 1025
    → IsShort fault → IsFault octets fault
    → (length octets ≤ 1024 → EndsWithin number octets fault) → Sees number octets ended (part_seen (length octets) fault ended)
part_sees number octets fault ended counted some few short is within = by_length (le_or_lt (length octets) 1024)
  where
    by_end : length octets ≤ 1024 → (e : Bool) → Sees number octets e (if e then seen.Fault (stream.Tower fault) else seen.More)
    by_end le true = inr (refl, within le)
    by_end le false = (refl, omega (arith, le), inr (fault, within le))

    by_length : (length octets ≤ 1024) ⊎ (1024 < length octets) → Sees number octets ended (part_seen (length octets) fault ended)
    by_length (inl le) = let no_it_is : nat_lt 1024 (length octets) ≡ false = grind (arith, nat_tests) in rw no_it_is (by_end le ended)
    by_length (inr long) =
        let it_is : nat_lt 1024 (length octets) ≡ true = grind (arith, nat_tests) in
        rw it_is (inl (too_long_part number octets fault counted long short (subst (λ (l : List ℕ). IsFault l fault) (sym (sight_whole octets few)) is)))

-- octets that begin no tower
pub fault_sees : (number : ℕ) (octets : List ℕ) (fault : TowerFault) (ended : Bool) → number ≤ 16777216 → 0 < length octets → length octets ≤ 1025
    → IsFault octets fault → Sees number octets ended (seen_fault (length octets) fault ended)
fault_sees number octets (EmptyLeft place) ended counted some few is = inl
    (counted, subst (λ (l : List ℕ). IsFault l (EmptyLeft place)) (sym (sight_whole octets few)) is)
fault_sees number octets (ShortCount place) ended counted some few is = part_sees number octets (ShortCount place) ended counted some few tt is
    (λ le. (counted, some, le, is))
fault_sees number octets (ShortLength place) ended counted some few is = part_sees number octets (ShortLength place) ended counted some few tt is
    (λ le. (counted, some, le, is))
fault_sees number octets (ShortPart place) ended counted some few is = part_sees number octets (ShortPart place) ended counted some few tt is
    (λ le. (counted, some, le, is))

-- a tower that is too long
pub long_sees : (number : ℕ) (octets : List ℕ) (floors : List Floor) (n : ℕ) → number ≤ 16777216 → length octets ≤ 1025 → n ≤ length octets → 1024 < n
    → IsTower floors (take n octets) → ShowsFault number octets stream.TooLong
long_sees number octets floors n counted few within long tower =
    let whole = sym (sight_whole octets few) in
    too_long_tower number octets floors n counted (subst (λ (l : List ℕ). n ≤ length l) whole within) long
    (subst (λ (l : List ℕ). IsTower floors (take n l)) whole tower)

-- ---- any octets demand something

abbrev Demanding : ℕ → List ℕ → Type 0
Demanding number octets = (d : Demand) × TowersDemand number octets d

rest_only : (number : ℕ) (octets : List ℕ) (rest : Rest) → IsRest number octets rest → Demanding number octets
rest_only number octets rest is = (rest_demand number rest, ([], rest, is, refl))

fault_demands : (number : ℕ) (octets : List ℕ) (fault : TowerFault) → number ≤ 16777216 → 0 < length octets → IsFault (in_sight octets) fault
    → Demanding number octets
fault_demands number octets (EmptyLeft place) counted some is = rest_only number octets (AtFault (stream.Tower (EmptyLeft place))) (counted, is)
fault_demands number octets fault counted some is = by_length (le_or_lt (length octets) 1024)
  where
    part : (f : TowerFault) → IsShort f → IsFault (in_sight octets) f → (length octets ≤ 1024 → EndsWithin number octets f) → (length octets ≤ 1024)
        ⊎ (1024 < length octets) → Demanding number octets
    part f short is within (inl le) = rest_only number octets (PartOf f) (within le)
    part f short is within (inr long) = rest_only number octets (AtFault stream.TooLong) (too_long_part number octets f counted long short is)

    whole : (f : TowerFault) → length octets ≤ 1024 → IsFault (in_sight octets) f → IsFault octets f
    whole f le is = subst (λ (l : List ℕ). IsFault l f) (sight_whole octets (omega (arith, le))) is

    by_fault : (f : TowerFault) → IsFault (in_sight octets) f → (length octets ≤ 1024) ⊎ (1024 < length octets) → Demanding number octets
    by_fault (EmptyLeft place) is size = rest_only number octets (AtFault (stream.Tower (EmptyLeft place))) (counted, is)
    by_fault (ShortCount place) is size = part (ShortCount place) tt is (λ le. (counted, some, le, whole (ShortCount place) le is)) size
    by_fault (ShortLength place) is size = part (ShortLength place) tt is (λ le. (counted, some, le, whole (ShortLength place) le is)) size
    by_fault (ShortPart place) is size = part (ShortPart place) tt is (λ le. (counted, some, le, whole (ShortPart place) le is)) size

    by_length : (length octets ≤ 1024) ⊎ (1024 < length octets) → Demanding number octets
    by_length size = by_fault fault is size

-- a front of octets is octets
pub IsBytes-front : (n : ℕ) (octets : List ℕ) → IsBytes octets → IsBytes (take n octets)
IsBytes-front zero octets bytes i = omega arith
IsBytes-front (suc n) [] bytes i = omega arith
IsBytes-front (suc n) (b ∷ bs) bytes zero = bytes zero
IsBytes-front (suc n) (b ∷ bs) bytes (suc i) = IsBytes-front n bs (IsBytes-tail b bs bytes) i

-- octets, at most as many as this
total_within : (most number : ℕ) (octets : List ℕ) → length octets ≤ most → IsBytes octets → Demanding number octets
total_within zero number octets few bytes = rest_only number octets Nothing (none_of octets few)
  where
    none_of : (l : List ℕ) → length l ≤ 0 → l ≡ []
    none_of [] le = refl
    none_of (b ∷ bs) le = absurd (omega (arith, le))
total_within (suc most) number [] few bytes = rest_only number [] Nothing refl
total_within (suc most) number (b ∷ bs) few bytes =
    by_number (λ number octets few bytes. total_within most number octets few bytes) (le_or_lt number 16777216)
  where
    octets : List ℕ
    octets = b ∷ bs

    by_tower : ((number : ℕ) (octets : List ℕ) → length octets ≤ most → IsBytes octets → Demanding number octets) → number ≤ 16777216
        → (floors : List Floor) (n : ℕ) → 2 ≤ n → n ≤ length (in_sight octets) → IsTower floors (take n (in_sight octets)) → (n ≤ 1024) ⊎ (1024 < n)
        → Demanding number octets
    by_tower behind counted floors n some within tower (inr long) = rest_only number octets (AtFault stream.TooLong)
        (too_long_tower number octets floors n counted within long tower)
    by_tower behind counted floors n some within tower (inl few_octets) =
        let front : take n (in_sight octets) ≡ take n octets = take-take n 1025 octets (omega (arith, few_octets)) in
        let rest : Demanding (number + 1) (drop n octets) = behind (number + 1) (drop n octets) (omega (arith, few, some, length-drop n octets))
        (IsBytes-rest (take n octets) (drop n octets) (subst IsBytes (sym (take-append-drop n octets)) bytes)) in (
          with_front (tower_text floors) rest.0,
          (
            floors ∷ rest.1.0,
            rest.1.1,
            (
              take n octets,
              drop n octets,
              sym (take-append-drop n octets),
              (counted, omega (arith, few_octets, length-take n octets), subst (IsTower floors) front tower),
              rest.1.2,
            ),
            ap (with_front (tower_text floors)) rest.1.3,
          ),
        )

    by_reading : ((number : ℕ) (octets : List ℕ) → length octets ≤ most → IsBytes octets → Demanding number octets) → number ≤ 16777216
        → (r : Result (ℕ × List ℕ) TowerFault) → body_at (in_sight octets) ≡ r → Demanding number octets
    by_reading behind counted (Ok p) is =
        let body = body_read (in_sight octets) p.0 p.1 (IsBytes-front 1025 octets bytes) is in
        by_tower behind counted (known_floors p.0 p.1) (length p.1 + 2) (omega arith) body.within body.tower (le_or_lt (length p.1 + 2) 1024)
    by_reading behind counted (Err fault) is = fault_demands number octets fault counted (omega arith)
        (fault_read (in_sight octets) fault (IsBytes-front 1025 octets bytes) is)

    by_number : ((number : ℕ) (octets : List ℕ) → length octets ≤ most → IsBytes octets → Demanding number octets) → (number ≤ 16777216)
        ⊎ (16777216 < number) → Demanding number octets
    by_number behind (inl counted) = by_reading behind counted (body_at (in_sight octets)) refl
    by_number behind (inr beyond) = rest_only number octets (AtFault stream.TooManyTowers) (beyond, omega arith)

-- octets demand something of `towers`
pub total : (number : ℕ) (octets : List ℕ) → IsBytes octets → (d : Demand) × TowersDemand number octets d
total number octets bytes = total_within (length octets) number octets (omega arith) bytes
