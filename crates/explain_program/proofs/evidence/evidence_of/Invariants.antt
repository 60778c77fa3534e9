use Rattle.std.proofs.Common.{take}
use Rattle.explain_program.specs.Folders.{IsEvidence}
use Rattle.explain_program.proofs.evidence.evidence_of.Given as goal

abbrev pub invariant-loop-at : goal.invariant-loop-at
invariant-loop-at l = IsEvidence (take l.at l.folders) l.evidence.logs.items l.evidence.faults.items
