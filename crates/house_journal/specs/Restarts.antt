-- What a disk in memory reads as after a stop.
use Rattle.std.specs.Prelude.{◌≢◌, ℕ, ◌+◌, ◌-◌, ◌/◌, List, [], ◌∷◌, ◌++◌, length, take, replicate}
use Rattle.house_journal.specs.Disks.{Change, Wrote, CutTo, with_piece}
use Rattle.house_journal.specs.MemoryDisks.{MemState, left_now, synced_in, changes_in}
use Rattle.house_journal.specs.JournalRecords.{IsOpenable}
use Rattle.house_journal.specs.declared.leave.Leave.{Leave}
use Rattle.house_journal.specs.declared.leave.Leave.TheVariants.{Keep, Drop, Torn}
use Rattle.house_journal.specs.declared.step.Stop.{Stop}
use Rattle.house_journal.specs.declared.step.Stop.TheVariants.{Never, After, Stopped}

-- the octets after a write or a cut
abbrev pub done_by : Change → List ℕ → List ℕ
done_by (Wrote at piece) file = with_piece file at piece
done_by (CutTo size) file = take size file

-- these octets, and 255 from their end up to a place
abbrev pub filled_to : ℕ → List ℕ → List ℕ
filled_to end file = file ++ replicate (end - length file) 255

-- the octets after a write of which the first half, rounded down, is kept; no cut is
abbrev pub torn_by : Change → List ℕ → List ℕ
torn_by (Wrote at piece) file = with_piece (filled_to (at + length piece) file) at (take (length piece / 2) piece)
torn_by (CutTo size) file = file

-- the octets after several, the oldest first
abbrev pub after_all : (Change → List ℕ → List ℕ) → List Change → List ℕ → List ℕ
after_all by [] file = file
after_all by (change ∷ later) file = after_all by later (by change file)

-- what is left of the octets at the last sync and the writes and cuts since then
abbrev pub left_by : Leave → List ℕ → List Change → List ℕ
left_by Keep synced changes = after_all done_by changes synced
left_by Drop synced changes = synced
left_by Torn synced changes = after_all torn_by changes synced

-- a disk that begins anew with these octets
abbrev pub begun_with : List ℕ → MemState → MemState
begun_with octets m = record { octets = octets; steps = []; calls = m.calls; faults = m.faults; stop = Never }

-- what a stop leaves of a disk
abbrev pub left_of : Leave → MemState → List ℕ
left_of leave m = left_by leave (synced_in m.steps m.octets) (changes_in m.steps m.octets)

-- a disk after the end of such a stop, if it is one
abbrev pub restarted_by : Stop → MemState → MemState
restarted_by Never m = m
restarted_by (After left leave) m = begun_with (left_of leave m) m
restarted_by (Stopped leave) m = begun_with (left_of leave m) m

-- a disk after a restart
abbrev pub disk_after_restart : MemState → MemState
disk_after_restart m = restarted_by m.stop m

-- a journal can be opened, whatever a crash leaves of the disk
abbrev pub CanBeOpened : MemState → Type 0
CanBeOpened m = (c : List ℕ) → left_now m.steps m.octets c → IsOpenable c

-- a stop takes back something that was written or cut since the last sync
abbrev pub MayLose : Leave → MemState → Type 0
MayLose Keep m = ⊥
MayLose Drop m = changes_in m.steps m.octets ≢ []
MayLose Torn m = changes_in m.steps m.octets ≢ []

-- and so does the end of such a stop
abbrev pub MayLoseBy : Stop → MemState → Type 0
MayLoseBy Never m = ⊥
MayLoseBy (After left leave) m = MayLose leave m
MayLoseBy (Stopped leave) m = MayLose leave m
