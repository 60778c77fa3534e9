use Rattle.std.proofs.Common.{◌≡◌}
use Rattle.cds_explain.proofs.replay.Replay.note.Given as goal

abbrev pub invariant-loop-post : goal.invariant-loop-post
invariant-loop-post l = record {
  text : l.self.text ≡ l.fn.self.text;
  lines : l.self.lines ≡ l.fn.self.lines;
  replayer : l.self.replayer ≡ l.fn.self.replayer;
}
