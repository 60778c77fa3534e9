use Rattle.std.proofs.Common.{◌≤◌}
use Rattle.directory.specs.Held.{held_in}
use Rattle.purge_rule.proofs.StepLaws.{IsOnTheWay, Spends}
use Rattle.purge_rule.proofs.steps.forget.Given as goal

abbrev pub invariant-loop-first : goal.invariant-loop-first
invariant-loop-first g l = record {
  way : IsOnTheWay l.t l.fn.table l.table;
  fewer : held_in l.table ≤ held_in l.fn.table;
  spends : Spends l.fn.steps (held_in l.fn.table) l.steps (held_in l.table);
}

abbrev pub decreases-loop-first : goal.decreases-loop-first
decreases-loop-first g l = held_in l.table
