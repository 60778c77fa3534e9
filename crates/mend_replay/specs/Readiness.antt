-- Whether the houses of a directory are ready for a skulk, as a test (own, after C705, skulks).
use Rattle.std.specs.Prelude.{ℕ, Bool, false, ◌&&◌, not, ◌==◌, List}
use Rattle.std.specs.List.{list_all}
use Rattle.cds_stamps.specs.Members.{Member}
use Rattle.cell_model.specs.Cells.{Slot, Absent, Gone, Held, Cell}
use Rattle.cell_model.specs.Steps.{is_unknown}

-- what a house has of a directory is a replica of this epoch (own)
abbrev pub holds_at : Slot → ℕ → Bool
holds_at Absent k = false
holds_at (Gone e) k = false
holds_at (Held r) k = r.epoch == k

-- the house is up, and holds the directory at this epoch (own)
abbrev pub is_held_at : Cell → (x d k : ℕ) → Bool
is_held_at g x d k = (g.house x).up && holds_at ((g.house x).slots d) k

-- so it is at each house of a list (own)
abbrev pub is_held_by : Cell → (d k : ℕ) → List Member → Bool
is_held_by g d k ms = list_all (λ m. is_held_at g m.house d k) ms

-- there is such a directory, and each house of the console's present list is up, and holds it at
-- the console's last epoch (own)
abbrev pub is_ready : Cell → ℕ → Bool
is_ready g d = not (is_unknown g d) && is_held_by g d (g.top d) (g.present d)
