-- Houses that ascend and leave out the master, house by house.
use Rattle.std.proofs.Common.{suc, zero, add-one, ◌≢◌, ℕ, ◌+◌, ◌≤◌, ◌<◌, List, [], ◌∷◌, length, get_or, arith}
use Rattle.std.specs.List.{All}
use Rattle.std.specs.List.Sorted.{IsStrictlyIncreasing}
use Rattle.std.proofs.lemmas.List.Elements.{All-head, All-tail, All-nil, All-cons}
use native.Mathlib.Numerals.{unary_clauses}
use Rattle.cell_names.specs.Houses.{IsHouses, most_houses}

-- the houses ascend from this least on, and none is the master
abbrev pub Rises : (master least : ℕ) → List ℕ → Type 0
Rises master least [] = Unit {0}
Rises master least (h ∷ hs) = (h ≢ master) × (least ≤ h) × Rises master (h + 1) hs

-- the first house is not below the least
abbrev BeginsFrom : ℕ → List ℕ → Type 0
BeginsFrom least [] = Unit {0}
BeginsFrom least (h ∷ hs) = least ≤ h

rising-tail : (h : ℕ) (hs : List ℕ) → IsStrictlyIncreasing (h ∷ hs) → IsStrictlyIncreasing hs
rising-tail h hs up k lt = let next = up (suc k) (omega arith) in rw add-one (simp unary_clauses at next)

rising-next : (h : ℕ) (hs : List ℕ) → IsStrictlyIncreasing (h ∷ hs) → BeginsFrom (h + 1) hs
rising-next h [] up = tt
rising-next h (i ∷ hs) up = omega (arith, up 0 (omega arith))

rises : (master least : ℕ) (hs : List ℕ) → IsStrictlyIncreasing hs → All (λ h. h ≢ master) hs → BeginsFrom least hs → Rises master least hs
rises master least [] up apart from = tt
rises master least (h ∷ hs) up apart from =
    (All-head (λ h. h ≢ master) h hs apart, from, rises master (h + 1) hs (rising-tail h hs up) (All-tail (λ h. h ≢ master) h hs apart) (rising-next h hs up))

rises-from : (master least : ℕ) (hs : List ℕ) → Rises master least hs → BeginsFrom least hs
rises-from master least [] r = tt
rises-from master least (h ∷ hs) r = r.1

rising-cons : (h : ℕ) (hs : List ℕ) → BeginsFrom (h + 1) hs → IsStrictlyIncreasing hs → IsStrictlyIncreasing (h ∷ hs)
rising-cons h hs from up zero lt = first hs from lt
  where
    first : (hs : List ℕ) → BeginsFrom (h + 1) hs → 1 < length (h ∷ hs) → h < get_or (h ∷ hs) 1 0
    first [] from lt = absurd (omega arith)
    first (i ∷ hs) from lt = omega arith
rising-cons h hs from up (suc k) lt = let before = up k (omega arith) in simp unary_clauses (simp unary_clauses at before)

rises-ascending : (master least : ℕ) (hs : List ℕ) → Rises master least hs → IsStrictlyIncreasing hs
rises-ascending master least [] r = λ k lt. absurd (omega arith)
rises-ascending master least (h ∷ hs) r = rising-cons h hs (rises-from master (h + 1) hs r.2) (rises-ascending master (h + 1) hs r.2)

rises-apart : (master least : ℕ) (hs : List ℕ) → Rises master least hs → All (λ h. h ≢ master) hs
rises-apart master least [] r = All-nil (λ h. h ≢ master)
rises-apart master least (h ∷ hs) r = All-cons (λ h. h ≢ master) h hs r.0 (rises-apart master (h + 1) hs r.2)

-- houses of the grammar rise
pub houses_rise : (master : ℕ) (others : List ℕ) → IsHouses (record { master = master; others = others }) → Rises master 0 others
houses_rise master others lawful = rises master 0 others lawful.ascending lawful.apart (from_none others)
  where
    from_none : (hs : List ℕ) → BeginsFrom 0 hs
    from_none [] = tt
    from_none (h ∷ hs) = omega arith

-- and those that rise are of the grammar, where they are not too many
pub rises-houses : (master : ℕ) (others : List ℕ) → Rises master 0 others → 1 + length others ≤ most_houses
    → IsHouses (record { master = master; others = others })
rises-houses master others r few = record { ascending = rises-ascending master 0 others r; apart = rises-apart master 0 others r; few = few }
