use Rattle.std.proofs.Common.{length}
use Rattle.cell_model.specs.Cells.{Cell}
use Rattle.cds_cell.specs.ModelCells.{Stands}
use Rattle.cds_explain.proofs.ComparingLemmas.{PostAlike}
use Rattle.cds_explain.proofs.comparing.are_posted.Given as goal

abbrev pub invariant-posts : goal.invariant-posts
invariant-posts l = (g : Cell) → Stands l.cell g → PostAlike g l.fn.first l.fn.posts l.serial l.rest

abbrev pub decreases-posts : goal.decreases-posts
decreases-posts l = length l.rest
