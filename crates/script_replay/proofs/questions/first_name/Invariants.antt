use Rattle.std.proofs.Common.{◌≡◌, drop}
use Rattle.directory.specs.Shown.{targets}
use Rattle.script_replay.proofs.questions.first_name.Given as goal

abbrev pub invariant-loop-value : goal.invariant-loop-value
invariant-loop-value l = targets l.values ≡ targets (drop l.value-index l.values)
