use Rattle.std.proofs.Common.{◌≡◌, ◌*◌, false, []}
use Rattle.cell_replay.specs.PrivateWholes.{IsPartRead}
use Rattle.cell_replay.proofs.whole.read_whole.Given as goal

-- so many parts were read, and the window is empty
abbrev pub invariant-loop : goal.invariant-loop
invariant-loop g l = record {
  part : IsPartRead (24929 * l.counter) (g.S.Source.left l.fn.source) (g.S.Source.left l.source) l.fn.held.items l.held.items false;
  calm : g.S.Source.faults l.source ≡ g.S.Source.faults l.fn.source;
  empty : l.window.octets ≡ [];
  room : l.window.room ≡ 24929;
}
