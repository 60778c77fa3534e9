use Rattle.std.proofs.Common.{◌≡◌, max}
use Rattle.purge_rule.specs.Latest.{greatest_of}
use Rattle.own_stamps.specs.OwnStamps.{own_in_entry}
use Rattle.own_stamps.proofs.latest.own_in.Given as goal

abbrev pub invariant-loop-entry : goal.invariant-loop-entry
invariant-loop-entry l =
    max l.time (greatest_of (λ e. own_in_entry l.fn.node e.1) l.entry-iterator)
    ≡ greatest_of (λ e. own_in_entry l.fn.node e.1) l.fn.entries
