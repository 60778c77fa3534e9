-- What the calls of a disk do, what a crash between two syncs may make of its octets, and what a
-- disk tells of itself.
use Rattle.std.specs.Prelude.{◌≡◌, ◌⊎◌, ℕ, zero, suc, ◌+◌, ◌≤◌, ◌<◌, min, max, Bool, true, false, ◌||◌, if◌then◌else◌, List, [], ◌∷◌, ◌++◌}
use Rattle.std.specs.Prelude.{length, take, drop, slice_index, Option, Some, None, Result, Ok, Err, OnOk, OnErr}
use Rattle.cds_base.specs.Counts.{next_count, Rose}
use Rattle.house_journal.specs.declared.leave.Leave.{Leave}
use Rattle.house_journal.specs.declared.disk.DiskError.{DiskError}
use Rattle.house_journal.specs.declared.disk.DiskError.TheVariants.{Failed, OutOfMemory}

-- ---- octets

-- a file with a piece at a place
abbrev pub with_piece : List ℕ → (at : ℕ) → List ℕ → List ℕ
with_piece file at piece = take at file ++ (piece ++ drop (at + length piece) file)

-- what a crash may make of a write of n octets at a place: any octets there and past the old end,
-- the same elsewhere
pub record Torn (at n : ℕ) (old new : List ℕ) : Type 0 where
  pub longer : length old ≤ length new
  pub within : length new ≤ max (length old) (at + n)
  pub stays : (i : ℕ) → i < length old → (i < at) ⊎ (at + n ≤ i) → slice_index new i ≡ slice_index old i

-- what a crash may make of a cut to n octets: any size between, and any octets in what was to go
pub record CutBack (n : ℕ) (old new : List ℕ) : Type 0 where
  pub kept : min n (length old) ≤ length new
  pub within : length new ≤ length old
  pub stays : (i : ℕ) → i < n → i < length new → slice_index new i ≡ slice_index old i

-- each new outcome of a crash is an old one after a step
abbrev pub Follows : (List ℕ → List ℕ → Type 0) → (old new : List ℕ → Type 0) → Type 0
Follows step old new = (c : List ℕ) → new c → (d : List ℕ) × old d × step d c

-- a crash leaves this and nothing else
abbrev pub Only : List ℕ → (List ℕ → Type 0) → Type 0
Only file outcomes = (c : List ℕ) → outcomes c → c ≡ file

-- ---- time

-- time goes on: a crash since t may have left what it may have left before, or what it may leave
-- now
pub record Elapses (before now : ℕ) (past since : ℕ → List ℕ → Type 0) (may_leave : List ℕ → Type 0) : Type 0 where
  pub later : before ≤ now
  pub nothing_else : (t : ℕ) (c : List ℕ) → t ≤ before → since t c → past t c ⊎ may_leave c
  pub keeps : (t : ℕ) (c : List ℕ) → t ≤ before → past t c → since t c

-- ---- what a disk tells

-- a write, or a cut
pub data Change : Type 0 where
  Wrote : (at : ℕ) → (piece : List ℕ) → Change
  CutTo : (size : ℕ) → Change

-- whether a disk is to stop: nobody knows; never; once so many calls more are done, by the call
-- after them; it has stopped. Only calls that write, cut or sync count
pub data Plan : Type 0 where
  Unknown : Plan
  Never : Plan
  Stops : (left : ℕ) → (leave : Leave) → Plan
  Stopped : (leave : Leave) → Plan

-- the octets at the last sync that succeeded; the writes and cuts since, up to and with the first
-- call that failed, and whether one did; how many calls there were that write, cut or sync; and the
-- plan
pub record Told : Type 0 where
  pub synced : List ℕ
  pub changes : List Change
  pub closed : Bool
  pub calls : ℕ
  pub plan : Plan

-- the plan after a call
abbrev pub plan_after : Plan → Plan
plan_after Unknown = Unknown
plan_after Never = Never
plan_after (Stops zero leave) = Stopped leave
plan_after (Stops (suc left) leave) = Stops left leave
plan_after (Stopped leave) = Stopped leave

-- a call may fail
abbrev pub may_fail : Plan → Bool
may_fail Unknown = true
may_fail Never = false
may_fail (Stops zero leave) = true
may_fail (Stops (suc left) leave) = false
may_fail (Stopped leave) = true

-- a call may answer
abbrev pub may_answer : Plan → Bool
may_answer Unknown = true
may_answer Never = true
may_answer (Stops zero leave) = false
may_answer (Stops (suc left) leave) = true
may_answer (Stopped leave) = false

-- a call that reads may fail
abbrev pub may_miss : Plan → Bool
may_miss Unknown = true
may_miss Never = false
may_miss (Stops left leave) = false
may_miss (Stopped leave) = true

-- a call that reads may answer
abbrev pub may_read : Plan → Bool
may_read Unknown = true
may_read Never = true
may_read (Stops left leave) = true
may_read (Stopped leave) = false

-- what is told after a write or a cut that was done, or that failed
abbrev pub told_change : Change → (failed : Bool) → Told → Told
told_change change failed t =
    record {
      synced = t.synced;
      changes = if t.closed then t.changes else t.changes ++ change ∷ [];
      closed = t.closed || failed;
      calls = next_count t.calls;
      plan = plan_after t.plan;
    }

-- what is told after a sync of what is read
abbrev pub told_sync : List ℕ → (failed : Bool) → Told → Told
told_sync file failed t =
    record {
      synced = if failed then t.synced else file;
      changes = if failed then t.changes else [];
      closed = failed;
      calls = next_count t.calls;
      plan = plan_after t.plan;
    }

-- ---- what the clauses of calls say

-- a call failed or answered as the plan allows, where one is told
abbrev pub PlanAllows : {T E : Type 0} → Option Told → (failed : Type 0) → Result T E → Type 0
PlanAllows None failed result = Unit {0}
PlanAllows (Some t) failed result = (failed → may_fail t.plan ≡ true) × OnOk result (may_answer t.plan ≡ true)

-- the same of a call that reads
abbrev pub StopsReads : {T E : Type 0} → Option Told → Result T E → Type 0
StopsReads None result = Unit {0}
StopsReads (Some t) result = OnErr result (may_miss t.plan ≡ true) × OnOk result (may_read t.plan ≡ true)

-- a call that changes nothing: no more may be left, and time goes on
pub record OnlyReads {D : Type 0} (reads : D → List ℕ) (told : D → Option Told) (may_leave : D → List ℕ → Type 0) (moment : D → ℕ)
    (left_since : D → ℕ → List ℕ → Type 0) (old new : D) : Type 0 where
  pub same : reads new ≡ reads old
  pub tells : told new ≡ told old
  pub crash : (c : List ℕ) → may_leave new c → may_leave old c
  pub time : Elapses (moment old) (moment new) (left_since old) (left_since new) (may_leave new)

-- a call was done, or it failed: memory did not run out
abbrev pub IsDone : Result (Unit {0}) DiskError → Type 0
IsDone (Ok x) = Unit {0}
IsDone (Err Failed) = Unit {0}
IsDone (Err OutOfMemory) = ⊥

-- a call answers Failed only where the count of failures rose, which it does at no other answer
abbrev pub HasDiskCause : {T : Type 0} → (before now : ℕ) → Result T DiskError → Type 0
HasDiskCause before now (Ok x) = now ≡ before
HasDiskCause before now (Err Failed) = (before ≤ now) × Rose before now
HasDiskCause before now (Err OutOfMemory) = now ≡ before
