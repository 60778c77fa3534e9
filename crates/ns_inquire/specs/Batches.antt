-- Lists in batches.
use Rattle.std.specs.Prelude.{ℕ, ◌+◌, ◌==◌, List, [], ◌∷◌, ◌++◌, length, take, Option, Some, None, Result, if◌then◌else◌}
use Rattle.std.specs.Result.{result_map_both}
use Rattle.tower_codec.specs.declared.binding.StringBinding.{StringBinding}
use Rattle.ns_import.specs.declared.fault.ImportFault.{ImportFault}

module _ {A : Type 0} where
  -- a last batch, unless it is empty
  abbrev pub last_batch : List A → List (List A)
  last_batch [] = []
  last_batch (x ∷ xs) = (x ∷ xs) ∷ []

  -- the batches of what is left, where these items are in the one at hand: each is full, but for
  -- the last
  abbrev pub batches_from : (most : ℕ) → (batch left : List A) → List (List A)
  batches_from most batch [] = last_batch batch
  batches_from most batch (x ∷ xs) =
      if length batch + 1 == most then (batch ++ x ∷ []) ∷ batches_from most [] xs
      else batches_from most (batch ++ x ∷ []) xs

  -- a list in batches of at most so many items
  abbrev pub batches : (most : ℕ) → List A → List (List A)
  batches most left = batches_from most [] left

  -- the next batch, if any item is left
  abbrev pub first_batch : (most : ℕ) → List A → Option (List A)
  first_batch most [] = None
  first_batch most (x ∷ xs) = Some (take most (x ∷ xs))

-- a look-up: how many bindings a batch has at most, and the bindings that are still to come, none
-- where it is spent
pub record Batching : Type 0 where
  pub most : ℕ
  pub left : Option (List StringBinding)

-- a look-up that has begun so: all its bindings are still to come
abbrev pub begin_lookup : (most : ℕ) → Result (List StringBinding) ImportFault → Result Batching ImportFault
begin_lookup most found = result_map_both (λ bindings. record { most = most; left = Some bindings }) (λ fault. fault) found
