-- Skulks that completed, and what AllUpTo tells (own, after C705, skulks and AllUpTo).
use Rattle.std.specs.Prelude.{◌≡◌, ℕ, ◌≤◌, List, [], ◌∷◌, ◌++◌, Some}
use Rattle.cds_stamps.specs.declared.stamp.Stamp.{Stamp}
use Rattle.cell_model.specs.Cells.{Replica, Message, IsHeld}
use Rattle.cell_model.specs.Bodies.{up_to_in}
use Rattle.cell_model.specs.Commands.{Command, Complete}
use Rattle.cell_model.specs.Sets.{In}
use Rattle.cell_model.specs.Steps.{outcome, replay}
use Rattle.cell_model.specs.Agreement.{place_of}

-- in this list of commands the skulk t of the directory d completed, at a house that then held
-- epoch k (own)
pub record IsCompleted (commands : List Command) (d : ℕ) (t : Stamp) (k : ℕ) : Type 0 where
  pub early : List Command
  pub command : Command
  pub late : List Command
  pub serials : List ℕ
  pub parts : early ++ command ∷ late ≡ commands
  pub answer : (outcome (replay early) command).answer ≡ Complete t serials
  pub house : ℕ
  pub replica : Replica
  pub place : place_of (replay early) command ≡ Some (house, d)
  pub held : IsHeld (replay (early ++ command ∷ [])) house d replica
  pub epoch : replica.epoch ≡ k

-- each AllUpTo of a house or a message of epoch e is the stamp of a completed skulk of epoch e or
-- an earlier one (own)
pub record AdvancesHold (commands : List Command) : Type 0 where
  pub houses : (x d : ℕ) (r : Replica) (t : Stamp) → IsHeld (replay commands) x d r → r.all_up_to ≡ Some t
      → (k : ℕ) × (k ≤ r.epoch) × IsCompleted commands d t k
  pub messages : (m : Message) (t : Stamp) → In m (replay commands).bag → up_to_in m.body ≡ Some t → (k : ℕ) × (k ≤ m.epoch) × IsCompleted commands m.dir t k

-- in the step that completes a skulk, the master's AllUpTo becomes its stamp (own)
abbrev pub RaisesUpTo : List Command → Command → Type 0
RaisesUpTo commands c =
    (t : Stamp) (ns : List ℕ) → (outcome (replay commands) c).answer ≡ Complete t ns →
    (h d : ℕ) × (r : Replica) × (place_of (replay commands) c ≡ Some (h, d)) × IsHeld (outcome (replay commands) c).cell h d r × (r.all_up_to ≡ Some t)
