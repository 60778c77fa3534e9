use Rattle.std.proofs.Common.{◌≡◌, filter}
use Rattle.std.specs.Prelude.{option_copied}
use Rattle.std.specs.List.{cons_option}
use Rattle.attr_sets.specs.AttributeCells.{present_in, cell_values}
use Rattle.directory.specs.Shown.{is_readable}
use Rattle.directory.proofs.entry.only_readable.Given as goal

-- the value found so far and those to come are those of the cell
abbrev pub invariant-loop-value : goal.invariant-loop-value
invariant-loop-value l =
    cons_option (option_copied l.found) (filter (is_readable l.kind) (present_in l.value-iterator)) ≡ filter (is_readable l.kind) (cell_values l.cell)
