use Rattle.std.proofs.Common.{◌≡◌, ◌+◌}
use Rattle.std.specs.Prelude.{sum_by}
use Rattle.script_replay.specs.Loading.{shown_count, values_shown}
use Rattle.script_replay.proofs.shown.values_shown.Given as goal

abbrev pub invariant-loop-entry : goal.invariant-loop-entry
invariant-loop-entry l = l.count + sum_by (λ e. shown_count e.1) l.entry-iterator ≡ values_shown l.table
