-- Words of private contracts: the index of a table's deletions. It may also know of deletions that
-- the table has no more, but its first one is none of these.
use Rattle.std.specs.Prelude.{Bool, true, false, ◌&&◌, ◌≡◌, ◌≢◌, ◌≤◌, ◌<◌, ◌*◌, max, ℕ, List, Option, Some, IfSome}
use Rattle.std.specs.BTreeSet.{contains, btree_set_len}
use Rattle.std.specs.FinMap.{get, empty, insert}
use Rattle.std.specs.List.{fold}
use Rattle.cds_stamps.specs.declared.stamp.Stamp.{Stamp}
use Rattle.cds_stamps.specs.Octets.{is_octets}
use Rattle.cds_stamps.specs.Undos.{LogsChange}
use Rattle.attr_sets.specs.declared.mark.ValueMark.{ValueMark}
use Rattle.attr_sets.specs.declared.cell.AttrCell.{AttrCell}
use Rattle.directory.specs.declared.entry.EntryCell.{EntryCell}
use Rattle.directory.specs.declared.deletions.What.{What}
use Rattle.directory.specs.declared.deletions.What.TheVariants.{Death, Clear, Absent}
use Rattle.directory.specs.declared.deletions.Deletion.{Deletion}
use Rattle.directory.specs.declared.deletions.Deletions.{Deletions}
use Rattle.directory.specs.declared.undo.EntryUndo.{EntryUndo}
use Rattle.directory.specs.Entries.{Entries, IsValidTable}
use Rattle.directory.specs.EntryUndoWords.{undo_entry}
use Rattle.directory.specs.Deletions.{deletion_cmp, has_deletion, is_before, is_at, is_absent}
use Rattle.directory.specs.Held.{held_in}
use Rattle.directory.specs.Updates.{Change, Add, Remove, changed_name}

-- the index knows of d
abbrev pub is_indexed : Deletions → Deletion → Bool
is_indexed x d = contains deletion_cmp x.known d

-- each deletion that the one index knows of the other knows too
abbrev pub Keeps : Deletions → Deletions → Type 0
Keeps x y = (d : Deletion) → is_indexed x d ≡ true → is_indexed y d ≡ true

-- the other index knows of the same and of some deletions more, all of them in the entry of the
-- name n
abbrev pub AddsAt : List ℕ → Deletions → Deletions → Type 0
AddsAt n x y = Keeps x y × ((d : Deletion) → d.name ≢ n → is_indexed y d ≡ is_indexed x d)

-- the other index knows of the same, and of the one deletion more, if there is one
abbrev pub AddsOnly : Option Deletion → Deletions → Deletions → Type 0
AddsOnly o x y = Keeps x y × ((d : Deletion) → o ≢ Some d → is_indexed y d ≡ is_indexed x d)

-- the index knows that w was deleted at a stamp, if there is one, in the entry of the name n
abbrev pub KnowsAt : Deletions → List ℕ → What → Option Stamp → Type 0
KnowsAt x n w o = (s : Stamp) → is_at o s ≡ true → is_indexed x (record { stamp = s; name = n; what = w }) ≡ true

-- the index knows of a deletion that the mark of the value v of the attribute a is, in the entry of
-- the name n
abbrev pub KnowsMark : Deletions → List ℕ → List ℕ → List ℕ → ValueMark → Type 0
KnowsMark x n a v m = (s : Stamp) → is_absent (Some m) s ≡ true → is_indexed x (record { stamp = s; name = n; what = Absent a v }) ≡ true

-- the index knows of each deletion in the cell of the attribute a, in the entry of the name n
abbrev pub KnowsCell : Deletions → List ℕ → List ℕ → AttrCell → Type 0
KnowsCell x n a c = KnowsAt x n (Clear a) c.cleared × ((v : List ℕ) → IfSome (get c.values v) (KnowsMark x n a v))

-- the index knows of each deletion of the table
abbrev pub KnowsAll : Deletions → Entries → Type 0
KnowsAll x m = (d : Deletion) → has_deletion m d ≡ true → is_indexed x d ≡ true

-- what the index knows of and has none before it is a deletion of the table
abbrev pub BeginsWell : Deletions → Entries → Type 0
BeginsWell x m = (d : Deletion) → is_indexed x d ≡ true → ((e : Deletion) → is_indexed x e ≡ true → is_before e d ≡ false) → has_deletion m d ≡ true

-- the same, if what comes first is no deletion in the entry of the name n
abbrev pub BeginsWellElsewhere : List ℕ → Deletions → Entries → Type 0
BeginsWellElsewhere n x m =
    (d : Deletion) → d.name ≢ n → is_indexed x d ≡ true → ((e : Deletion) → is_indexed x e ≡ true → is_before e d ≡ false) → has_deletion m d ≡ true

-- what was deleted is the value v of the attribute a
abbrev pub is_absence : List ℕ → List ℕ → What → Bool
is_absence a v Death = false
is_absence a v (Clear b) = false
is_absence a v (Absent b w) = is_octets b a && is_octets w v

-- what an update may undo of the deletions of its entry: one of a value the absence of that value
-- alone, any other each
abbrev pub may_undo : Change → What → Bool
may_undo (Add n a v) w = is_absence a v w
may_undo (Remove n a v) w = is_absence a v w
may_undo u w = true

-- an update may undo the deletion d
abbrev pub touches : Change → Deletion → Bool
touches u d = is_octets d.name (changed_name u) && may_undo u d.what

-- what the index knows of and has none before it is a deletion of the table, if the update cannot
-- have undone it
abbrev pub BeginsWellBeside : Change → Deletions → Entries → Type 0
BeginsWellBeside u x m =
    (d : Deletion) → touches u d ≡ false → is_indexed x d ≡ true → ((e : Deletion) → is_indexed x e ≡ true → is_before e d ≡ false)
    → has_deletion m d ≡ true

-- how many deletions the index keeps, those that the table has no more among them
abbrev pub deletion_count : Deletions → ℕ
deletion_count x = btree_set_len x.known

-- how many it may keep at least
abbrev pub few : ℕ
few = 64

-- the settled index y of a table keeps no more than it may. How many that is changes only where the
-- index x, from which it comes, kept more: then it is at most twice what the table holds, or few
pub record IsSettled (x y : Deletions) (m : Entries) : Type 0 where
  pub within : deletion_count y ≤ y.most
  pub spared : deletion_count x ≤ x.most → y.most ≡ x.most
  pub swept : x.most < deletion_count x → y.most ≤ max few (2 * held_in m)

-- the index is that of the table, whose entries are valid, and keeps no more than it may
pub record IsIndexed (x : Deletions) (m : Entries) : Type 0 where
  pub valid : IsValidTable m
  pub all : KnowsAll x m
  pub first : BeginsWell x m
  pub within : deletion_count x ≤ x.most

-- before the index settles: the entries are valid, and it knows of all their deletions
pub record IsKnown (x : Deletions) (m : Entries) : Type 0 where
  pub valid : IsValidTable m
  pub all : KnowsAll x m

-- a change of the entries is logged, and the index keeps the deletions that it knows of, and its
-- room
pub record IsLogged (old new : Entries) (x y : Deletions) (log next : List (List ℕ × Option EntryUndo)) : Type 0 where
  pub back : LogsChange undo_entry old new log next
  pub keeps : Keeps x y
  pub room : y.most ≡ x.most

-- the table of these entries, inserted in turn
abbrev pub insert_each : List (List ℕ × EntryCell) → Entries
insert_each = fold (λ m p. insert m p.0 p.1) empty
