-- Skulks of houses whose journals are in an order (own, after C705, skulks).
use Rattle.std.specs.Prelude.{◌≡◌, ℕ, List, [], ◌∷◌, ◌++◌}
use Rattle.cds_stamps.specs.declared.stamp.Stamp.{Stamp}
use Rattle.cell_model.specs.Cells.{Replica}
use Rattle.cell_model.specs.Commands.{Command, Skulk, Complete}
use Rattle.cell_model.specs.Sets.{In}
use Rattle.cell_runs.specs.Entries.{TurnEntry, Entry, Turned, Take}
use Rattle.cell_runs.specs.LineAnswers.{answer_said}
use Rattle.cell_runs.specs.Orders.{MadeHouse, commands_of}
use Rattle.fair_runs.specs.Fairness.{Begins, IsUndisturbed, IsFair}

-- an entry of these says that a message was taken, and that the skulk t is complete (own)
pub record SaysComplete (log : List Entry) (t : Stamp) : Type 0 where
  pub turn : TurnEntry
  pub octets : List ℕ
  pub here : In (Turned turn) log
  pub order : turn.order ≡ Take octets
  pub answer : turn.answer ≡ answer_said (Complete t [])

-- if a skulk begins in the commands of an order, nothing disturbs it in those that follow, and each
-- of its messages is delivered in them, the entries of its master say that it is complete (own)
abbrev pub OrdersEnd : List MadeHouse → (logs : ℕ → List Entry) → List (ℕ × Entry) → Type 0
OrdersEnd houses logs line =
    (early late : List Command) (h d : ℕ) (t : Stamp) (r : Replica)
    → commands_of houses line ≡ (early ++ Skulk h d ∷ []) ++ late
    → Begins early h d t r
    → IsUndisturbed (early ++ Skulk h d ∷ []) late h d r.epoch t
    → IsFair (early ++ Skulk h d ∷ []) late d t
    → SaysComplete (logs h) t
