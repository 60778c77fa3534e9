use Rattle.std.proofs.Common.{◌+◌, ◌-◌, ◌*◌, length}
use Rattle.cell_replay.proofs.TowerTurns.{IsAmong, reads_left}
use Rattle.cell_replay.proofs.towers.print_each.Given as goal

abbrev pub invariant-towers : goal.invariant-towers
invariant-towers g l =
    IsAmong (g.S.Source.left l.fn.source) (g.S.Source.left l.source) (g.K.Sink.written l.fn.sink) (g.K.Sink.written l.sink)
    (g.S.Source.faults l.fn.source) (g.S.Source.faults l.source) (g.K.Sink.faults l.fn.sink) (g.K.Sink.faults l.sink)
    l.window l.number l.ended l.waiting

abbrev pub decreases-towers : goal.decreases-towers
decreases-towers g l = 2 * (16777218 - l.number) + reads_left l.ended (length l.window.octets)
