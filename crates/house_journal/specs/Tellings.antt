-- What a disk tells after some of the calls of a put, or of an open.
use Rattle.std.specs.Prelude.{◌≡◌, ◌⊎◌, ℕ, zero, suc, ◌+◌, ◌≤◌, ◌<◌, ◌==◌, min, Bool, true, false, if◌then◌else◌, List, [], ◌∷◌, length, take, drop, Option, Some, Result, Ok, Err, slice_get}
use Rattle.std.specs.Option.{option_map_or}
use Rattle.house_journal.specs.declared.disk.DiskError.{DiskError}
use Rattle.house_journal.specs.declared.disk.DiskError.TheVariants as error
use Rattle.house_journal.specs.JournalRecords.{gate_of}
use Rattle.house_journal.specs.Disks.{Told, Change, Wrote, CutTo, Plan, plan_after, may_fail, may_answer, told_change, told_sync, with_piece}

-- a call that writes, cuts or syncs
pub data Call : Type 0 where
  Writes : (at : ℕ) → (piece : List ℕ) → Call
  Cuts : (size : ℕ) → Call
  Syncs : Call

-- what is read after it
abbrev pub read_by : Call → List ℕ → List ℕ
read_by (Writes at piece) file = with_piece file at piece
read_by (Cuts size) file = take size file
read_by Syncs file = file

-- what is told after it
abbrev pub told_by : Call → (failed : Bool) → List ℕ → Told → Told
told_by (Writes at piece) failed file t = told_change (Wrote at piece) failed t
told_by (Cuts size) failed file t = told_change (CutTo size) failed t
told_by Syncs failed file t = told_sync file failed t

-- what is told after the first k of these calls were done
abbrev pub told_after : ℕ → List Call → List ℕ → Told → Told
told_after zero calls file t = t
told_after (suc k) [] file t = t
told_after (suc k) (call ∷ calls) file t = told_after k calls (read_by call file) (told_by call false file t)

-- what is told where the call after those failed
abbrev pub told_failed : ℕ → List Call → List ℕ → Told → Told
told_failed k [] file t = t
told_failed zero (call ∷ calls) file t = told_by call true file t
told_failed (suc k) (call ∷ calls) file t = told_failed k calls (read_by call file) (told_by call false file t)

-- the calls of a put: the record without its gate, a sync, the gate, a sync
abbrev pub put_calls : (place : ℕ) → List ℕ → List Call
put_calls place octets = Writes (place + 1) (drop 1 octets) ∷ Syncs ∷ Writes place (take 1 octets) ∷ Syncs ∷ []

-- the gate is closed: it is there, and 0
abbrev pub is_closed : Option ℕ → Bool
is_closed gate = option_map_or (λ b. b == 0) gate false

-- the calls that close a gate: none where it is closed; else 0 is written there, and synced
abbrev pub gate_calls : (place : ℕ) → (gate : Option ℕ) → List Call
gate_calls place gate = if is_closed gate then [] else Writes place (0 ∷ []) ∷ Syncs ∷ []

-- the calls that put the end of a journal in order: all after the gate that ends the list is cut
-- off, that is synced, and the gate is closed
abbrev pub close_calls : List ℕ → List Call
close_calls file = Cuts (min (length file) (gate_of file + 1)) ∷ Syncs ∷ gate_calls (gate_of file) (slice_get file (gate_of file))

-- the calls of an open of a disk that reads so: a sync, and those
abbrev pub open_calls : List ℕ → List Call
open_calls file = Syncs ∷ close_calls file

-- the octets at the last sync are these, and one change came since
abbrev pub TellsOne : List ℕ → Change → Told → Type 0
TellsOne synced change t = (t.synced ≡ synced) × (t.changes ≡ change ∷ [])

-- the plan after so many calls
abbrev pub plan_after_calls : ℕ → Plan → Plan
plan_after_calls zero plan = plan
plan_after_calls (suc k) plan = plan_after_calls k (plan_after plan)

-- the first so many calls may all answer
abbrev pub MayAnswer : ℕ → Plan → Type 0
MayAnswer zero plan = Unit {0}
MayAnswer (suc k) plan = (may_answer plan ≡ true) × MayAnswer k (plan_after plan)

-- k calls were done, and this is told
pub record Done (calls : List Call) (file : List ℕ) (t : Told) (k : ℕ) (new : Option Told) : Type 0 where
  pub answered : MayAnswer k t.plan
  pub tells : new ≡ Some (told_after k calls file t)

-- k calls were done and the next failed, and this is told
pub record Failed (calls : List Call) (file : List ℕ) (t : Told) (k : ℕ) (new : Option Told) : Type 0 where
  pub few : k < 4
  pub answered : MayAnswer k t.plan
  pub fails : may_fail (plan_after_calls k t.plan) ≡ true
  pub tells : new ≡ Some (told_failed k calls file t)

-- what is told after the calls of a put: all four were done; or one failed; or memory ran out
-- before one
abbrev pub TellsPut : List Call → List ℕ → Told → Result (Unit {0}) DiskError → Option Told → Type 0
TellsPut calls file t (Ok x) new = Done calls file t 4 new
TellsPut calls file t (Err error.Failed) new = (k : ℕ) × Failed calls file t k new
TellsPut calls file t (Err error.OutOfMemory) new = (k : ℕ) × (k < 4) × Done calls file t k new

-- k calls of these were done and the next failed, and this is told
pub record FailedAt (calls : List Call) (file : List ℕ) (t : Told) (k : ℕ) (new : Option Told) : Type 0 where
  pub few : k < length calls
  pub answered : MayAnswer k t.plan
  pub fails : may_fail (plan_after_calls k t.plan) ≡ true
  pub tells : new ≡ Some (told_failed k calls file t)

-- what is told after calls: all were done; or one failed; or memory ran out before one
abbrev pub TellsRun : {T : Type 0} → List Call → List ℕ → Told → Result T DiskError → Option Told → Type 0
TellsRun calls file t (Ok x) new = Done calls file t (length calls) new
TellsRun calls file t (Err error.Failed) new = (k : ℕ) × FailedAt calls file t k new
TellsRun calls file t (Err error.OutOfMemory) new = (k : ℕ) × (k < length calls) × Done calls file t k new

-- the same, where reads come after so many of them: or one of those failed; memory runs out no
-- earlier
abbrev pub TellsReading : {T : Type 0} → (reads : ℕ) → List Call → List ℕ → Told → Result T DiskError → Option Told → Type 0
TellsReading reads calls file t (Ok x) new = Done calls file t (length calls) new
TellsReading reads calls file t (Err error.Failed) new = ((k : ℕ) × FailedAt calls file t k new) ⊎ Done calls file t reads new
TellsReading reads calls file t (Err error.OutOfMemory) new = (k : ℕ) × (reads ≤ k) × (k < length calls) × Done calls file t k new
