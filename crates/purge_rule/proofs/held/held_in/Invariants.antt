use Rattle.std.proofs.Common.{◌≡◌, ◌+◌, ◌≤◌, min}
use Rattle.std.specs.Prelude.{sum_by}
use Rattle.directory.specs.Held.{held_in, held_in_entry, most_held}
use Rattle.purge_rule.proofs.held.held_in.Given as goal

abbrev pub invariant-loop-entry : goal.invariant-loop-entry
invariant-loop-entry l = record {
  counted : min (l.sum + sum_by (λ e. held_in_entry e.1) l.entry-iterator) most_held ≡ min (held_in l.table) most_held;
  fits : l.sum ≤ most_held;
}
