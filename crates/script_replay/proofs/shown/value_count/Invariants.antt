use Rattle.std.proofs.Common.{◌≡◌, ◌+◌, length}
use Rattle.std.specs.Prelude.{sum_by}
use Rattle.attr_sets.specs.AttributeCells.{cell_values}
use Rattle.script_replay.specs.Loading.{value_count}
use Rattle.script_replay.proofs.shown.value_count.Given as goal

abbrev pub invariant-loop-cell : goal.invariant-loop-cell
invariant-loop-cell l = l.count + sum_by (λ a. length (cell_values a.1)) l.cell-iterator ≡ value_count l.entry
