use Rattle.std.proofs.Common.{◌≡◌, max}
use Rattle.purge_rule.specs.Latest.{greatest_of, latest_in_entry}
use Rattle.purge_rule.proofs.latest.latest_in.Given as goal

abbrev pub invariant-loop-entry : goal.invariant-loop-entry
invariant-loop-entry l =
    max l.time (greatest_of (λ e. latest_in_entry e.1) l.entry-iterator) ≡ greatest_of (λ e. latest_in_entry e.1) l.fn.entries
