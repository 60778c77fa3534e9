use Rattle.std.proofs.Common.{length}
use Rattle.reply_buffer.proofs.TowerLines.{FloorsLeft, left_floors}
use Rattle.reply_buffer.proofs.tower_text.append_floors.Given as goal

abbrev pub invariant-floors : goal.invariant-floors
invariant-floors l = FloorsLeft l.fn.text.items l.text.items l.fn.floors (left_floors l.next)

abbrev pub decreases-floors : goal.decreases-floors
decreases-floors l = length (left_floors l.next)
