-- A house is kept on its disk in one way at most.
use mathlib.Core.Sum.{⊎_set}
use Rattle.std.specs.Prelude.{Option, Some, None}
use Rattle.std.proofs.Props.{props}
use Rattle.house_journal.specs.Disks.{Change}
use Rattle.house_journal.specs.MemoryDisks.{MemState}
use Rattle.house_journal.specs.declared.leave.Leave.{Leave}
use Rattle.house_journal.specs.declared.step.Step.{Step}
use Rattle.house_journal.specs.declared.step.Stop.{Stop}
use Rattle.disk_journals.specs.KeptJournals.{IsKept}
use Rattle.disk_journals.specs.declared.kept.KeptHouse.{KeptHouse}

leave_set : IsSet Leave
leave_set = hlevel (props, ⊎_set)

stop_set : IsSet Stop
stop_set = hlevel (props, ⊎_set, leave_set)

step_set : IsSet Step
step_set = hlevel props

change_set : IsSet Change
change_set = hlevel (props, ⊎_set)

pub kept_prop : (h : Option KeptHouse) (m : MemState) → IsProp (IsKept h m)
kept_prop None m = hlevel (props, stop_set, step_set)
kept_prop (Some k) m = hlevel (props, stop_set, change_set)
