use Rattle.std.proofs.Common.{ap}
use Rattle.std.specs.Prelude.{sum_by}
use Rattle.directory.specs.Held.{held_in_cell}
use Rattle.directory.proofs.Counts.{all_counted}
use Rattle.directory.proofs.entry.EntryCell.held.Goals as goal

pub returns : goal.returns
returns c = all_counted _ _ _ (ap (sum_by (λ a. held_in_cell a.1)) c.in-None.ensures.steps.0) c.loop-cell.invariant.fits c.loop-cell.invariant.counted
