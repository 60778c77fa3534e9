-- What a skulk needs to be complete (own, after C705, skulks).
use Rattle.std.specs.Prelude.{◌≡◌, ◌↔◌, ℕ, List, [], ◌∷◌, ◌++◌, Some}
use Rattle.cds_stamps.specs.declared.stamp.Stamp.{Stamp}
use Rattle.cds_stamps.specs.Members.{others_of}
use Rattle.cell_model.specs.Cells.{Replica, Copy, Body, Gather, Gathered, Spread, SpreadAck}
use Rattle.cell_model.specs.Cells.{Message, IsHeld}
use Rattle.cell_model.specs.Commands.{Command, Skulk, Complete}
use Rattle.cell_model.specs.Sets.{In}
use Rattle.cell_model.specs.Steps.{outcome, replay}
use Rattle.cell_model.specs.Agreement.{place_of}
use Rattle.fair_runs.specs.Fairness.{Begins, IsUndisturbed, IsDelivered, IsComplete}

-- at some place of what follows a message about the directory, from x to y, with this body, was
-- delivered (own)
pub record WasDelivered (early late : List Command) (d x y : ℕ) (b : Body) : Type 0 where
  pub message : Message
  pub dir : message.dir ≡ d
  pub sender : message.sender ≡ x
  pub receiver : message.receiver ≡ y
  pub body : message.body ≡ b
  pub delivered : IsDelivered early late message

-- the question of each round of the skulk t of the master h was delivered to the house y, and an
-- answer of y to each of them was delivered to h (own, after C705, skulks)
pub record HasAnswered (commands : List Command) (d h y : ℕ) (t : Stamp) : Type 0 where
  pub gather : WasDelivered [] commands d h y (Gather t)
  pub first : Copy
  pub gathered : WasDelivered [] commands d y h (Gathered t first)
  pub second : Copy
  pub spread : WasDelivered [] commands d h y (Spread t second)
  pub ack : WasDelivered [] commands d y h (SpreadAck t)

-- if a command answers that the skulk t is complete at the house h, which held r before it, then so
-- it is of each other member of r: if one of these four is never delivered, t is never complete
-- (own)
abbrev pub SkulkNeeds : List Command → Command → Type 0
SkulkNeeds commands c =
    (h d : ℕ) (r : Replica) (t : Stamp) (ns : List ℕ)
    → (outcome (replay commands) c).answer ≡ Complete t ns
    → place_of (replay commands) c ≡ Some (h, d) → IsHeld (replay commands) h d r
    → (y : ℕ) → In y (others_of h r.members) → HasAnswered (commands ++ c ∷ []) d h y t

-- an answer of the house y to each round of the skulk t was delivered to its master h (own)
pub record IsHeard (early late : List Command) (d h y : ℕ) (t : Stamp) : Type 0 where
  pub copy : Copy
  pub gathered : WasDelivered early late d y h (Gathered t copy)
  pub ack : WasDelivered early late d y h (SpreadAck t)

-- a skulk that nothing disturbs is complete exactly if each other member is heard in each round, by
-- one answer of it, whatever happens to all other messages (own)
abbrev pub SkulksEndIfHeard : (early late : List Command) → Type 0
SkulksEndIfHeard early late =
    (h d : ℕ) (t : Stamp) (r : Replica) → Begins early h d t r
    → IsUndisturbed (early ++ Skulk h d ∷ []) late h d r.epoch t
    → IsComplete (early ++ Skulk h d ∷ []) late h d t
    ↔ ((y : ℕ) → In y (others_of h r.members) → IsHeard (early ++ Skulk h d ∷ []) late d h y t)
