use Rattle.mend_replay.proofs.Readying.{none_there, stamp_where, state_where, unmade_stamp}
use Rattle.mend_replay.proofs.readiness.has_stamp.Goals as goal

pub returns-in_ok-floor-in-Some : goal.returns-in_ok-floor-in-Some
returns-in_ok-floor-in-Some c g s =
    let at = state_where c.args.cell.now g c.args.house.0 c.in-Some.state.now s c.in-Some.ensures in
    stamp_where (g.house c.args.house.0) c.in_ok-floor-in-Some.floor c.is_below_last.result c.is_below_last.ensures
    (c.in_ok-floor-in-Some.ensures at.0 (g.house c.args.house.0) at.1)

pub returns-in-None : goal.returns-in-None
returns-in-None c g s = unmade_stamp c.args.cell.now g c.args.house.0 s (none_there c.args.cell.now c.args.house.0 c.in-None.ensures)
