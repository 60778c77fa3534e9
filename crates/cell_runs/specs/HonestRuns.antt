-- Entries that a house wrote which does as the model does.
use Rattle.std.specs.Prelude.{◌≡◌, ℕ, false, List, [], ◌∷◌}
use Rattle.std.specs.FinMap.{get}
use Rattle.cds_messages.specs.declared.image.Image.{Image}
use Rattle.cds_records.specs.RecordOctets.{image_octets}
use Rattle.cds_stamps.specs.declared.numbers.DirId.{DirId}
use Rattle.cell_model.specs.Cells.{House, Message}
use Rattle.cell_model.specs.Steps.{is_bad_list}
use Rattle.cell_model.specs.Turns.{HouseStep, Turns, Turn, crashed_house, started_house}
use Rattle.cds_cell.specs.Recorded.{kept_in}
use Rattle.cell_runs.specs.Entries.{Order, Root, Mkdir, Entry, Started, Turned, TurnEntry}
use Rattle.cell_runs.specs.LineAnswers.{answer_said}
use Rattle.cell_runs.specs.OrderSteps.{ArePosts, Carries, order_step}

-- octets are the image of the house x of the model: its number, its node, its floor, and what it
-- has of each directory
pub record IsImageOf (x : ℕ) (now : House) (octets : List ℕ) : Type 0 where
  pub image : Image
  pub octets_are : octets ≡ image_octets image
  pub house : image.house.0 ≡ x
  pub node : image.node ≡ now.node
  pub floor : image.floor ≡ now.floor
  pub dirs : (d : DirId) → get image.dirs d ≡ kept_in (now.slots d.0)

-- an entry is a turn of the house x: its posts are the turn's, its answer is, and its image is that
-- of the house after it
pub record IsTurnOf (x : ℕ) (e : TurnEntry) (step : HouseStep) (t : Turn) : Type 0 where
  pub step_is : step ≡ Turns t
  pub posts : ArePosts e.posts t.posts
  pub answer : (ns : List ℕ) → e.answer ≡ answer_said (t.answer ns)
  pub image : IsImageOf x t.house e.image

-- a house with another clock
abbrev pub at_clock : House → ℕ → House
at_clock now clock = record now { clock = clock }

-- a new directory has no house twice, and not more than a member list can have (own, after C705,
-- replica sets)
abbrev pub HasGoodList : (x : ℕ) → Order → Type 0
HasGoodList x (Root rs ss) = is_bad_list (x ∷ rs) ≡ false
HasGoodList x (Mkdir d n made rs ss) = is_bad_list (x ∷ rs) ≡ false
HasGoodList x other = Unit {0}

-- a house that crashed and started again
abbrev pub restarted_house : House → House
restarted_house now = started_house (crashed_house now)

-- entries of the house x from this house of the model on: whichever message of the model the octets
-- were that it took, each turn is the step of the model
abbrev pub IsHonest : (x : ℕ) → House → List Entry → Type 0
IsHonest x now [] = Unit {0}
IsHonest x now (Started image ∷ es) = IsImageOf x (restarted_house now) image
    × IsHonest x (restarted_house now) es
IsHonest x now (Turned e ∷ es) =
    HasGoodList x e.order
    × ((m : Message) → Carries x (at_clock now e.clock) e.order m
    → (t : Turn) × IsTurnOf x e (order_step x (at_clock now e.clock) e.order m) t
    × IsHonest x t.house es)
