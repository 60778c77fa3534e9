-- Deletions in a table: of what, in which order, and what is left without one (own, after C705,
-- deletions and their timestamps).
use Rattle.std.specs.Prelude.{Bool, true, false, not, ◌&&◌, ◌≡◌, ℕ, List, [], Option, Some, None}
use Rattle.std.specs.declared.cmp.Ordering.{Ordering}
use Rattle.std.specs.Ordering.{nat_cmp, ordering_then, is_lt, eq_by_cmp}
use Rattle.std.specs.FinMap.{FinMap, get, insert, remove}
use Rattle.std.specs.Option.{option_and_then}
use Rattle.cds_stamps.specs.declared.stamp.Stamp.{Stamp}
use Rattle.cds_stamps.specs.Stamps.{stamp_cmp, is_stamp}
use Rattle.cds_stamps.specs.Octets.{octets_cmp}
use Rattle.attr_sets.specs.declared.mark.ValueMark.{ValueMark}
use Rattle.attr_sets.specs.declared.cell.AttrCell.{AttrCell}
use Rattle.attr_sets.specs.CellPurges.{some_cell}
use Rattle.directory.specs.declared.entry.EntryCell.{EntryCell}
use Rattle.directory.specs.declared.deletions.What.{What}
use Rattle.directory.specs.declared.deletions.What.TheVariants.{Death, Clear, Absent}
use Rattle.directory.specs.declared.deletions.Deletion.{Deletion}
use Rattle.directory.specs.Entries.{Entries}
use Rattle.directory.specs.Kinds.{replicas}
use Rattle.directory.specs.Updates as change
use Rattle.directory.specs.Updates.{Change, Create, MakeLink, MakeChild, Delete, Add, Remove, Put, Repoint}

-- a stamp is known, and is s (own)
abbrev pub is_at : Option Stamp → Stamp → Bool
is_at None s = false
is_at (Some x) s = is_stamp x s

-- a value is absent since s (own)
abbrev pub is_absent : Option ValueMark → Stamp → Bool
is_absent None s = false
is_absent (Some m) s = not m.present && is_stamp m.stamp s

-- what an entry lost at s: it died, an attribute was cleared, or a value was removed (own)
abbrev pub has_lost : EntryCell → Stamp → What → Bool
has_lost e s Death = is_at e.death s
has_lost e s (Clear a) = is_at (option_and_then (λ c. c.cleared) (get e.attrs a)) s
has_lost e s (Absent a v) = is_absent (option_and_then (λ c. get c.values v) (get e.attrs a)) s

-- the same of an entry, if there is one (own)
abbrev pub is_lost : Option EntryCell → Stamp → What → Bool
is_lost None s w = false
is_lost (Some e) s w = has_lost e s w

-- a table has the deletion d (own)
abbrev pub has_deletion : Entries → Deletion → Bool
has_deletion m d = is_lost (get m d.name) d.stamp d.what

-- deaths come first, then clears, then values (own)
abbrev pub rank : What → ℕ
rank Death = 0
rank (Clear a) = 1
rank (Absent a v) = 2

-- an attribute was cleared, or a value of it removed (own)
abbrev pub is_of_attr : What → Bool
is_of_attr Death = false
is_of_attr (Clear a) = true
is_of_attr (Absent a v) = true

-- the attribute that was cleared, or of which a value was removed (own)
abbrev pub attr_of : What → List ℕ
attr_of Death = []
attr_of (Clear a) = a
attr_of (Absent a v) = a

-- the value that was removed (own)
abbrev pub value_of : What → List ℕ
value_of Death = []
value_of (Clear a) = []
value_of (Absent a v) = v

-- deaths before clears before values; then by the attribute, then by the value (own)
abbrev pub what_cmp : What → What → Ordering
what_cmp v w = ordering_then (nat_cmp (rank v) (rank w)) (ordering_then (octets_cmp (attr_of v) (attr_of w)) (octets_cmp (value_of v) (value_of w)))

-- by the stamp, then by the name, then by what was deleted (own)
abbrev pub deletion_cmp : Deletion → Deletion → Ordering
deletion_cmp d e = ordering_then (stamp_cmp d.stamp e.stamp) (ordering_then (octets_cmp d.name e.name) (what_cmp d.what e.what))

-- d is before e (own)
abbrev pub is_before : Deletion → Deletion → Bool
is_before d e = is_lt (deletion_cmp d e)

-- d is the first deletion of a table (own)
abbrev pub IsFirst : Entries → Deletion → Type 0
IsFirst m d = (has_deletion m d ≡ true) × ((e : Deletion) → has_deletion m e ≡ true → is_before e d ≡ false)

-- a table has no deletion (own)
abbrev pub HasNone : Entries → Type 0
HasNone m = (d : Deletion) → has_deletion m d ≡ false

-- a map with x at k, or with nothing there (own)
abbrev pub set_at : {X : Type 0} → FinMap octets_cmp X → List ℕ → Option X → FinMap octets_cmp X
set_at m k None = remove m k
set_at m k (Some x) = insert m k x

-- a map with what f leaves of what it has at k (own)
abbrev pub change_at : {X : Type 0} → FinMap octets_cmp X → List ℕ → (X → Option X) → FinMap octets_cmp X
change_at m k f = set_at m k (option_and_then f (get m k))

-- a cell without its clear, or without the mark of a value; nothing, where it is then empty (own)
abbrev pub cell_without : What → AttrCell → Option AttrCell
cell_without Death c = Some c
cell_without (Clear a) c = some_cell (record c { cleared = None })
cell_without (Absent a v) c = some_cell (record c { values = remove c.values v })

-- an entry without what was deleted of it: of one that died nothing is left (own)
abbrev pub entry_without : What → EntryCell → Option EntryCell
entry_without Death e = None
entry_without (Clear a) e = Some (record e { attrs = change_at e.attrs a (cell_without (Clear a)) })
entry_without (Absent a v) e = Some (record e { attrs = change_at e.attrs a (cell_without (Absent a v)) })

-- a table without the deletion d (own)
abbrev pub without : Entries → Deletion → Entries
without m d = change_at m d.name (entry_without d.what)

-- the deletions are one (own)
abbrev pub is_deletion : Deletion → Deletion → Bool
is_deletion = eq_by_cmp deletion_cmp

-- what an update with a stamp deletes, if anything (own)
abbrev pub deleted_by : Change → Stamp → Option Deletion
deleted_by (Create n) s = None
deleted_by (MakeLink n target) s = None
deleted_by (MakeChild n pointer) s = None
deleted_by (Delete n) s = Some (record { stamp = s; name = n; what = Death })
deleted_by (Add n a v) s = None
deleted_by (Remove n a v) s = Some (record { stamp = s; name = n; what = Absent a v })
deleted_by (Put n a v) s = Some (record { stamp = s; name = n; what = Clear a })
deleted_by (change.Clear n a) s = Some (record { stamp = s; name = n; what = Clear a })
deleted_by (Repoint n master others) s = Some (record { stamp = s; name = n; what = Clear replicas })
