-- A search that goes on from each item at its edges, before what waits, and passes over what it
-- came to before.
use Rattle.std.specs.Prelude.{ℕ, zero, suc, Bool, List, [], ◌∷◌, ◌++◌, if◌then◌else◌}
use Rattle.cds_stamps.specs.Firsts.{has}

module _ {A : Type 0} (same : A → A → Bool) where
  -- the list from its first item on that was not seen
  abbrev pub behind_seen : (seen rest : List A) → List A
  behind_seen seen [] = []
  behind_seen seen (f ∷ fs) = if has same f seen then behind_seen seen fs else f ∷ fs

module _ {A : Type 0} (same : A → A → Bool) (edges : A → List A) where
  -- the first of these is entered, and its edges come before the others; `go` is what comes after
  -- it
  abbrev pub enter_first : (go : List A → List A → List A) → (seen rest : List A) → List A
  enter_first go seen [] = []
  enter_first go seen (f ∷ fs) = f ∷ go (seen ++ f ∷ []) (edges f ++ fs)

  -- what a search still comes to that enters at most so many items, where these were seen and these
  -- wait
  abbrev pub depth_first : (steps : ℕ) → (seen rest : List A) → List A
  depth_first zero seen rest = []
  depth_first (suc k) seen rest = enter_first (λ seen rest. depth_first k seen rest) seen (behind_seen same seen rest)
