use Rattle.std.proofs.Common.{map, drop}
use Rattle.reply_buffer.proofs.TowerLines.{FloorsRead}
use Rattle.reply_buffer.proofs.untowers.Speller.read_floors.Given as goal

abbrev pub invariant-loop-word : goal.invariant-loop-word
invariant-loop-word l = FloorsRead (map (λ w. w.now) (drop l.word-index l.words)) (map (λ w. w.now) l.words) l.self.tower
