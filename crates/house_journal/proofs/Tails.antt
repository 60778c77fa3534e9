-- The end of octets, gone over by itself: what is done there is what is done to the whole, where
-- all is at no place before it.
use Rattle.std.proofs.Common.{◌≡◌, ℕ, suc, ◌+◌, ◌-◌, ◌≤◌, max, Bool, true, false, MatchBool, List, [], ◌∷◌, ◌++◌}
use Rattle.std.proofs.Common.{length, take, drop, replicate, sym, ◌∙◌, ap, arith, append_assoc, length-append}
use Rattle.std.proofs.lemmas.List.{drop_at, drop-drop}
use Rattle.house_journal.specs.declared.step.Step.{Step}
use Rattle.house_journal.specs.declared.step.Tear.{Tear}
use Rattle.house_journal.specs.Disks.{with_piece}
use Rattle.house_journal.specs.MemoryDisks.{before_step}
use Rattle.house_journal.specs.Restarts.{filled_to}
use Rattle.house_journal.specs.Unwindings.{AreFrom, TearFrom, torn_onto}

take_on : (front end : List ℕ) (k : ℕ) → take (length front + k) (front ++ end) ≡ front ++ take k end
take_on [] end k = let on : 0 + k ≡ k = omega arith in ap (λ (n : ℕ). take n end) on
take_on (x ∷ front) end k =
    let on : length (x ∷ front) + k ≡ suc (length front + k) = omega arith in
    ap (λ (n : ℕ). take n (x ∷ front ++ end)) on ∙ ap (λ (l : List ℕ). x ∷ l) (take_on front end k)

module _ (front end : List ℕ) (low : ℕ) (size : length front ≡ low) where
  pub take_past : (n : ℕ) → low ≤ n → take n (front ++ end) ≡ front ++ take (n - low) end
  take_past n le =
      let on : n ≡ length front + (n - low) = omega (arith, le, size) in
      ap (λ (k : ℕ). take k (front ++ end)) on ∙ take_on front end (n - low)

  pub drop_past : (n : ℕ) → low ≤ n → drop n (front ++ end) ≡ drop (n - low) end
  drop_past n le =
      let on : n ≡ low + (n - low) = omega (arith, le) in
      ap (λ (k : ℕ). drop k (front ++ end)) on ∙ sym (drop-drop (n - low) low (front ++ end)) ∙ ap (drop (n - low)) (drop_at front end low size)

  -- a piece in place of some octets
  pub pasted : (at n : ℕ) → low ≤ at → (piece : List ℕ) → front ++ (take (at - low) end ++ (piece ++ drop (at - low + n) end))
      ≡ take at (front ++ end) ++ (piece ++ drop (at + n) (front ++ end))
  pasted at n le piece =
      let on : at - low + n ≡ at + n - low = omega (arith, le) in
      sym (append_assoc front (take (at - low) end) (piece ++ drop (at - low + n) end))
      ∙ (λ i. sym (take_past at le) i ++ (piece ++ (ap (λ (k : ℕ). drop k end) on ∙ sym (drop_past (at + n) (omega (arith, le)))) i))

  -- the octets before a step
  pub before_past : (s : Step) → low ≤ s.at → (v : List ℕ) → v ≡ take (s.at - low) end ++ (s.gone ++ drop (s.at - low + s.len) end)
      → front ++ v ≡ before_step s (front ++ end)
  before_past s le v is = ap (λ (l : List ℕ). front ++ l) is ∙ pasted s.at s.len le s.gone

  -- and after a write
  pub written_past : (at : ℕ) → low ≤ at → (piece : List ℕ) → front ++ with_piece end (at - low) piece ≡ with_piece (front ++ end) at piece
  written_past at le piece = pasted at (length piece) le piece

  pub filled_past : (to n : ℕ) → n ≡ max (length end) (to - low) → front ++ (end ++ replicate (n - length end) 255) ≡ filled_to to (front ++ end)
  filled_past to n is =
      let sum = length-append front end in
      let same : n - length end ≡ to - length (front ++ end) = omega (arith, sum, size, is) in
      sym (append_assoc front end (replicate (n - length end) 255)) ∙ ap (λ (k : ℕ). (front ++ end) ++ replicate k 255) same

-- the first half of a write over the end
pub torn_past : (front end : List ℕ) (low : ℕ) → length front ≡ low → (t : Tear) → low ≤ t.at → (n : ℕ) → n ≡ max (length end) (t.end - low)
    → (long v : List ℕ) → long ≡ end ++ replicate (n - length end) 255 → v ≡ with_piece long (t.at - low) t.half → front ++ v ≡ torn_onto t (front ++ end)
torn_past front end low size t le n is long v long_is v_is =
    ap (λ (l : List ℕ). front ++ l) v_is
    ∙ written_past front long low size t.at le t.half
    ∙ ap (λ (l : List ℕ). with_piece l t.at t.half) (ap (λ (l : List ℕ). front ++ l) long_is ∙ filled_past front end low size t.end n is)

-- first halves of writes, one more at the end
pub from_more : (low : ℕ) (tears : List Tear) (t : Tear) → TearFrom low tears → low ≤ t.at → TearFrom low (tears ++ t ∷ [])
from_more low [] t are le = (le, tt)
from_more low (x ∷ tears) t are le = (are.0, from_more low tears t are.1 le)

pub from_front : (low : ℕ) (tears : List Tear) (t : Tear) → TearFrom low (tears ++ t ∷ []) → TearFrom low tears × (low ≤ t.at)
from_front low [] t are = (tt, are.0)
from_front low (x ∷ tears) t are = let rest = from_front low tears t are.1 in ((are.0, rest.0), rest.1)

-- the steps from a place on, where one is taken off
pub from_newest : (low : ℕ) (s : Step) (earlier : List Step) → s.synced ≡ false → AreFrom low (s ∷ earlier) → (low ≤ s.at) × AreFrom low earlier
from_newest low s earlier off are = rw off at are

pub from_synced : (low : ℕ) (s : Step) (earlier : List Step) → s.synced ≡ true → AreFrom low (s ∷ earlier)
from_synced low s earlier on = rw on tt

pub from_step : (low : ℕ) (s : Step) (earlier : List Step) → low ≤ s.at → AreFrom low earlier → AreFrom low (s ∷ earlier)
from_step low s earlier le are = by_synced s.synced
  where
    by_synced : (b : Bool) → MatchBool b (Unit {0}) ((low ≤ s.at) × AreFrom low earlier)
    by_synced true = tt
    by_synced false = (le, are)
