-- Words of the worked examples alone: what shows at a house of the model that is up, and what is
-- left in its purged table.
use Rattle.std.specs.Prelude.{ℕ, Bool, false, if◌then◌else◌, List, Option, Some, None}
use Rattle.std.specs.Option.{option_map, option_map_or, option_and_then}
use Rattle.cds_stamps.specs.declared.members.MemberKind.{MemberKind}
use Rattle.cds_stamps.specs.declared.stamp.Stamp.{Stamp}
use Rattle.cds_stamps.specs.Members.{Member}
use Rattle.attr_sets.specs.declared.mark.ValueMark.{ValueMark}
use Rattle.attr_sets.specs.Marks.{mark_after_clear}
use Rattle.attr_sets.specs.AttributeCells.{AttrMark, greatest_clear, greatest_mark}
use Rattle.directory.specs.declared.entry.EntryCell.{EntryCell}
use Rattle.directory.specs.Histories.{entry_of, attr_history}
use Rattle.directory.specs.Purges.{entry_left}
use Rattle.directory.specs.Shown.{Shown, shown_of_name}
use Rattle.cell_model.specs.Cells.{Replica, Slot, Absent, Gone, Held, Cell}

-- a stamp by time and node, and a member by house and since
abbrev pub at : ℕ → ℕ → Stamp
at time node = record { time = time; node = node }

-- a member by house, since and kind
abbrev pub listed : ℕ → ℕ → MemberKind → Member
listed house since kind = record { house = house; since = since; kind = kind }

-- the replica in a slot
abbrev pub replica_in : Slot → Option Replica
replica_in Absent = None
replica_in (Gone e) = None
replica_in (Held r) = Some r

-- the replica at a house that is up
abbrev pub replica_at : Cell → (h d : ℕ) → Option Replica
replica_at g h d = if (g.house h).up then replica_in ((g.house h).slots d) else None

-- the greatest mark of a value is present, and not earlier than a clear
abbrev pub is_present : List AttrMark → List ℕ → Bool
is_present h v = option_map_or (λ (m : ValueMark). m.present) (mark_after_clear (greatest_clear h) (greatest_mark h v)) false

-- where the entry n shows: the value v of its attribute a shows
abbrev pub value_of : (n a v : List ℕ) → Replica → Option Bool
value_of n a v r = option_map (λ (e : Shown). is_present (attr_history r.history n e.birth a) v) (shown_of_name r.history n)

-- and at a house
abbrev pub value_at : Cell → (h d : ℕ) → (n a v : List ℕ) → Option Bool
value_at g h d n a v = option_and_then (value_of n a v) (replica_at g h d)

-- the epoch, AllUpTo and members of a replica
abbrev pub state_at : Cell → (h d : ℕ) → Option (ℕ × Option Stamp × List Member)
state_at g h d = option_map (λ (r : Replica). (r.epoch, r.all_up_to, r.members)) (replica_at g h d)

-- what the purged table has of a name: the birth and the death of the entry that is left
abbrev pub left_if_some : Option Stamp → EntryCell → Option EntryCell
left_if_some None e = Some e
left_if_some (Some t) e = entry_left t e

-- in a replica
abbrev pub left_of : List ℕ → Replica → Option (Stamp × Option Stamp)
left_of n r = option_map (λ (e : EntryCell). (e.birth, e.death)) (option_and_then (left_if_some r.all_up_to) (entry_of r.history n))

-- and at a house
abbrev pub left_at : Cell → (h d : ℕ) → (n : List ℕ) → Option (Stamp × Option Stamp)
left_at g h d n = option_and_then (left_of n) (replica_at g h d)
