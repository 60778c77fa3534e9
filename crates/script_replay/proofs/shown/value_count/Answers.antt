use Rattle.script_replay.proofs.LoadTurns.{values_go_on}
use Rattle.script_replay.proofs.shown.value_count.Goals as goal

pub loop-cell-preserved : goal.loop-cell-preserved
loop-cell-preserved c =
    values_go_on c.loop-cell.count c.present_values.result c.in_ok-count.count _ c.loop-cell.cell-iterator c.next.new.self _ _ c.in-Some.ensures.steps
    c.loop-cell.invariant c.present_values.ensures c.in_ok-count.ensures
