use Rattle.std.proofs.Common.{◌≡◌, drop}
use Rattle.cds_clerk.specs.Heards.{told_of}
use Rattle.cds_clerk.proofs.heard.Answers.told.Given as goal

abbrev pub invariant-loop-answer : goal.invariant-loop-answer
invariant-loop-answer l = told_of l.self l.dir.0 l.house.0 l.name ≡ told_of (drop l.answer-index l.self) l.dir.0 l.house.0 l.name
