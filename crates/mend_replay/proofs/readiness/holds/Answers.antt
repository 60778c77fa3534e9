use Rattle.std.specs.Prelude.{None}
use Rattle.cds_cell.proofs.Refusals.{down_where}
use Rattle.mend_replay.proofs.Readying.{not_up_holds}
use Rattle.mend_replay.proofs.readiness.holds.Goals as goal

pub returns-in-None : goal.returns-in-None
returns-in-None c g s =
    not_up_holds g c.args.house.0 c.args.dir.0 c.args.epoch.0 (down_where c.args.cell.now g c.args.house.0 None s c.in-None.ensures)
