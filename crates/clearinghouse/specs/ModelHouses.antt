-- Which house of the model a clearinghouse stands for (own, after C705, clearinghouses and
-- replicas).
use Rattle.std.specs.Prelude.{◌≡◌, ℕ}
use Rattle.std.specs.FinMap.{get}
use Rattle.cds_stamps.specs.declared.numbers.DirId.{DirId}
use Rattle.cell_model.specs.Cells as model
use Rattle.clearinghouse.specs.declared.house.Clearinghouse.{Clearinghouse}
use Rattle.house_directory.specs.ModelReplicas.{LooksSlot, StandsSlot}

-- a clearinghouse looks like a house of the model in what it has of a directory (own)
abbrev pub LooksHouse : Clearinghouse → DirId → model.House → Type 0
LooksHouse c dir now = LooksSlot c.house.0 (get c.dirs dir) (now.slots dir.0)

-- a clearinghouse stands for a house of the model; whether that is up, and its clock, are the
-- cell's (own)
pub record StandsHouse (c : Clearinghouse) (now : model.House) : Type 0 where
  pub node : now.node ≡ c.node
  pub floor : now.floor ≡ c.floor.time
  pub slots : (d : ℕ) → StandsSlot c.house.0 c.floor.time (get c.dirs (record { 0 = d })) (now.slots d)
