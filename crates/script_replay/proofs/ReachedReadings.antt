-- Each object that a cell shows to which commands lead is listed.
use Rattle.std.proofs.Common.{ℕ, Bool, subst}
use Rattle.std.specs.Prelude.{Option}
use Rattle.cell_model.specs.Cells.{Cell}
use Rattle.cell_model.specs.Reached.{IsReached}
use Rattle.resolver.specs.Readers.{ShowsOnly}
use Rattle.cds_cell.specs.Readings.{objects_of, cell_reader}
use Rattle.cds_cell.proofs.ModelObjects.{reading_shows_only}

pub reached_shows_only : (g : Cell) → IsReached g → (prefer : Option ℕ) (high : Bool) → ShowsOnly (cell_reader g prefer high) (objects_of g)
reached_shows_only g reached prefer high =
    subst (λ (g : Cell). ShowsOnly (cell_reader g prefer high) (objects_of g)) reached.leads (reading_shows_only reached.commands prefer high)
