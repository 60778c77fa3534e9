use Rattle.std.proofs.Common.{refl}
use Rattle.cell_script.proofs.Rounds.{range_more}
use Rattle.cell_script.proofs.work.Work.rest.Goals as goal

pub returns-in-Houses-clause-commands : goal.returns-in-Houses-clause-commands
returns-in-Houses-clause-commands c = rw c.in-Houses.is (rw (range_more c.in-Houses.house 4 c.if-house-lt4.true) refl)
