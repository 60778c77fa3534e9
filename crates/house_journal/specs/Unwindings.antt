-- How a disk in memory goes back over its steps.
use Rattle.std.specs.Prelude.{ℕ, ◌≤◌, if◌then◌else◌, MatchBool, List, [], ◌∷◌}
use Rattle.house_journal.specs.Disks.{with_piece}
use Rattle.house_journal.specs.MemoryDisks.{before_step, change_of}
use Rattle.house_journal.specs.Restarts.{filled_to, torn_by}
use Rattle.house_journal.specs.declared.step.Step.{Step}
use Rattle.house_journal.specs.declared.step.Tear.{Tear}

-- the octets after the first half of a write, with 255 in the rest of what lay past the end
abbrev pub torn_onto : Tear → List ℕ → List ℕ
torn_onto t file = with_piece (filled_to t.end file) t.at t.half

-- the octets after several, the newest first
abbrev pub all_torn : List Tear → List ℕ → List ℕ
all_torn [] file = file
all_torn (t ∷ earlier) file = torn_onto t (all_torn earlier file)

-- what a tear leaves of steps, the newest first, and of the octets after them
abbrev pub torn_in : List Step → List ℕ → List ℕ
torn_in [] file = file
torn_in (s ∷ earlier) file = if s.synced then file else torn_by (change_of s file) (torn_in earlier (before_step s file))

-- ---- the end of the octets that they touch

-- of steps, the newest first, those since the last sync are at no place before this one
abbrev pub AreFrom : ℕ → List Step → Type 0
AreFrom low [] = Unit {0}
AreFrom low (s ∷ earlier) = MatchBool s.synced (Unit {0}) ((low ≤ s.at) × AreFrom low earlier)

-- nor are these first halves of writes
abbrev pub TearFrom : ℕ → List Tear → Type 0
TearFrom low [] = Unit {0}
TearFrom low (t ∷ tears) = (low ≤ t.at) × TearFrom low tears
