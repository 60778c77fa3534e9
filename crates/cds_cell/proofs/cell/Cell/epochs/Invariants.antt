use Rattle.std.proofs.Common.{◌≡◌}
use Rattle.std.specs.Prelude.{max, drop}
use Rattle.cds_cell.specs.ModelCells.{greatest_epoch}
use Rattle.cds_cell.proofs.cell.Cell.epochs.Given as goal

-- the greatest of those that were seen and of the rest is that of all
abbrev pub invariant-loop-listing : goal.invariant-loop-listing
invariant-loop-listing l = max l.greatest (greatest_epoch (drop l.listing-index l.fn.self.directories.items)) ≡ greatest_epoch l.fn.self.directories.items
