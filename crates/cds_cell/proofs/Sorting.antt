-- What a sort of houses gives.
use Rattle.std.proofs.Common.{◌≡◌, ℕ, suc, ◌+◌, ◌≤◌, ◌<◌, List, [], ◌∷◌, length, Bool, refl, sym, ◌∙◌, ap, arith, get_or}
use Rattle.std.specs.Prelude.{◌==◌, ◌||◌}
use Rattle.std.specs.List.{AllByRecursion}
use Rattle.std.specs.List.Sorted.{IsPermutation, IsNonDecreasingBy}
use Rattle.std.proofs.lemmas.List.Sorted.{sum_by-IsPermutation, sum_by_pushed, IsPermutation-refl, IsNonDecreasingBy-drop}
use Rattle.std.specs.List.{sum_by, list_any}
use Rattle.cds_stamps.specs.declared.numbers.HouseNo.{HouseNo}
use Rattle.house_directory.specs.HouseMessages.{numbers_of}
use Rattle.cds_cell.proofs.Ascending.{Rises, times, one_if}

-- how often a number is among houses
times_summed : (z : ℕ) (hs : List HouseNo) → times z (numbers_of hs) ≡ sum_by (λ (h : HouseNo). one_if (h.0 == z)) hs
unfolding times
times_summed z [] = refl
times_summed z (h ∷ hs) =
    ap (λ n. one_if (h.0 == z) + n) (times_summed z hs)
    ∙ sym (sum_by_pushed (λ (x : HouseNo). one_if (x.0 == z)) h hs (h ∷ hs) (IsPermutation-refl (h ∷ hs)))

-- sorting leaves each number as often as before
pub sorted_times : (z : ℕ) (xs ys : List HouseNo) → IsPermutation xs ys → times z (numbers_of ys) ≡ times z (numbers_of xs)
sorted_times z xs ys moved = times_summed z ys ∙ sum_by-IsPermutation (λ (h : HouseNo). one_if (h.0 == z)) xs ys moved ∙ sym (times_summed z xs)

-- every house from this one on is at least it
all_by_place : (x : ℕ) (hs : List HouseNo) → ((k : ℕ) (d : HouseNo) → k < length hs → x ≤ (get_or hs k d).0) → AllByRecursion (λ y. x ≤ y) (numbers_of hs)
all_by_place x [] each = tt
all_by_place x (h ∷ hs) each = (each 0 h (omega arith), all_by_place x hs (λ k d less. each (suc k) d (omega (arith, less))))

-- sorted houses have ascending numbers
pub sorted_rises : (hs : List HouseNo) → IsNonDecreasingBy (λ (h : HouseNo). h.0) hs → Rises (numbers_of hs)
sorted_rises [] sorted = tt
sorted_rises (h ∷ hs) sorted = (
  all_by_place h.0 hs (λ k d less. sorted 0 (suc k) d (omega arith) (omega (arith, less))),
  sorted_rises hs (IsNonDecreasingBy-drop (λ (x : HouseNo). x.0) 1 (h ∷ hs) sorted),
)

-- a test of numbers, over houses
pub any_of_numbers : (f : ℕ → Bool) (hs : List HouseNo) → list_any (λ (h : HouseNo). f h.0) hs ≡ list_any f (numbers_of hs)
any_of_numbers f [] = refl
any_of_numbers f (h ∷ hs) = ap (λ b. f h.0 || b) (any_of_numbers f hs)
