-- The counts of a cell that is loaded.
use Rattle.std.specs.Prelude.{ℕ, ◌≤◌}
use Rattle.script_replay.specs.declared.replayer.Replayer.{Replayer}

-- a step for each command at most, and at most one thing is counted of it
pub record IsCounting (replayer : Replayer) (commands accepted complete : ℕ) : Type 0 where
  pub few_steps : replayer.steps ≤ commands
  pub few_changes : accepted ≤ commands
  pub few_skulks : complete ≤ commands
