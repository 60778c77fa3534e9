use Rattle.mend_replay.proofs.Readying.{none_there, unmade_since}
use Rattle.mend_replay.proofs.masters.held_since.Goals as goal

pub returns-in-None : goal.returns-in-None
returns-in-None c g s =
    unmade_since c.args.cell.now g c.args.house.0 c.args.dir.0 c.args.since.0 s (none_there c.args.cell.now c.args.house.0 c.in-None.ensures)
