-- Messages of the model without a stamp of a node that is later than the floor of its house (own,
-- after C705, timestamps).
use Rattle.std.specs.Prelude.{◌≡◌, ℕ, ◌≤◌, true, Some}
use Rattle.cds_stamps.specs.declared.stamp.Stamp.{Stamp}
use Rattle.directory.specs.Histories.{Mark, stamp_in}
use Rattle.cell_model.specs.Bodies.{marks_in, round_of, up_to_in}
use Rattle.cell_model.specs.Cells.{Cell, Message}
use Rattle.cell_model.specs.Sets.{In, has}

-- the stamp is of another node, or not later than the floor (own)
abbrev pub IsKnown : (node floor : ℕ) → Stamp → Type 0
IsKnown node floor s = s.node ≡ node → s.time ≤ floor

-- so is each stamp that a message carries: those of its marks, its AllUpTo, and that of its skulk
-- (own)
pub record NoneIsLater (node floor : ℕ) (m : Message) : Type 0 where
  pub marks : (k : Mark) → In k (marks_in m.body) → IsKnown node floor (stamp_in k)
  pub all_up_to : (t : Stamp) → up_to_in m.body ≡ Some t → IsKnown node floor t
  pub round : (t : Stamp) → round_of m.body ≡ Some t → IsKnown node floor t

-- so is each message of a cell for each house that was made: it gave the stamps of its node, and
-- its floor is not below them (own)
abbrev pub HousesGaveTheirs : Cell → Type 0
HousesGaveTheirs g =
    (m : Message) (x : ℕ) → In m g.bag → has x g.made ≡ true
    → NoneIsLater (g.house x).node (g.house x).floor m
