-- What a skulk whose messages come leaves, if nothing is accepted meanwhile (own, after C705,
-- skulks and the convergence of replicas).
use Rattle.std.specs.Prelude.{◌≡◌, ◌↔◌, ℕ, true, List, [], ◌∷◌, ◌++◌, Option, Some, None}
use Rattle.cds_stamps.specs.declared.stamp.Stamp.{Stamp}
use Rattle.cds_stamps.specs.Members.{Member, is_listed}
use Rattle.directory.specs.Histories.{Mark}
use Rattle.directory.specs.Shown.{shown_of_name}
use Rattle.cell_model.specs.Cells.{Replica, IsHeld}
use Rattle.cell_model.specs.Commands.{Command, Skulk, Accepted}
use Rattle.cell_model.specs.Sets.{In, IsUpTo}
use Rattle.cell_model.specs.Steps.{replay, accepted_from}
use Rattle.fair_runs.specs.Fairness.{Begins, IsUndisturbed, IsFair}

-- each house of the list holds the directory in epoch k at each moment of what follows (own)
abbrev pub AllStay : (early late : List Command) → (d k : ℕ) → List Member → Type 0
AllStay early late d k members =
    (past left : List Command) → past ++ left ≡ late
    → (x : ℕ) → is_listed x members ≡ true
    → (q : Replica) × IsHeld (replay (early ++ past)) x d q × (q.epoch ≡ k)

-- no house accepts an update of the directory in what follows (own)
abbrev pub IsQuiet : (early late : List Command) → (d : ℕ) → Type 0
IsQuiet early late d =
    (a : Accepted) → In a (accepted_from (replay early) late) → a.dir ≡ d → ⊥

-- an AllUpTo is t or later (own)
abbrev pub IsAllUpTo : Stamp → Option Stamp → Type 0
IsAllUpTo t None = ⊥
IsAllUpTo t (Some u) = IsUpTo t u

-- two replicas have the same marks, show the same of each name, and each AllUpTo is t or later
-- (own, after C705, skulks and AllUpTo)
pub record HaveConverged (t : Stamp) (p q : Replica) : Type 0 where
  pub marks : (j : Mark) → In j p.history ↔ In j q.history
  pub shown : (n : List ℕ) → shown_of_name p.history n ≡ shown_of_name q.history n
  pub first : IsAllUpTo t p.all_up_to
  pub second : IsAllUpTo t q.all_up_to

-- after a skulk that nothing disturbs, whose messages are delivered, and in which no update is
-- accepted and each house of its list stays in the epoch, any two of these houses have converged
-- (own)
abbrev pub CellsConverge : (early late : List Command) → Type 0
CellsConverge early late =
    (h d : ℕ) (t : Stamp) (r : Replica) → Begins early h d t r
    → IsUndisturbed (early ++ Skulk h d ∷ []) late h d r.epoch t
    → IsFair (early ++ Skulk h d ∷ []) late d t
    → AllStay (early ++ Skulk h d ∷ []) late d r.epoch r.members
    → IsQuiet (early ++ Skulk h d ∷ []) late d
    → (x y : ℕ) (p q : Replica) → is_listed x r.members ≡ true → is_listed y r.members ≡ true
    → IsHeld (replay ((early ++ Skulk h d ∷ []) ++ late)) x d p
    → IsHeld (replay ((early ++ Skulk h d ∷ []) ++ late)) y d q → HaveConverged t p q
