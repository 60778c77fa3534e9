use Rattle.std.proofs.Common.{ap}
use Rattle.std.specs.Prelude.{sum_by}
use Rattle.directory.specs.Held.{held_in_entry}
use Rattle.directory.proofs.Counts.{all_counted}
use Rattle.purge_rule.proofs.held.held_in.Goals as goal

pub returns : goal.returns
returns c = all_counted _ _ _ (ap (sum_by (λ e. held_in_entry e.1)) c.in-None.ensures.steps.0) c.loop-entry.invariant.fits c.loop-entry.invariant.counted
