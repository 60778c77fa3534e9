-- Updates of an entry that a table has: a deletion, and changes of an attribute (own, after C705,
-- updates to replicas).
use Rattle.std.specs.Prelude.{◌≡◌, ℕ, Bool, true, false, List, Option, Some, None, Result, IfOk, OnOk, OnErr}
use Rattle.std.specs.Result.{result_err}
use Rattle.cds_stamps.specs.declared.stamp.Stamp.{Stamp}
use Rattle.attr_sets.specs.CellChanges.{change_marks}
use Rattle.directory.specs.declared.entry.EntryCell.{EntryCell}
use Rattle.directory.specs.declared.entry.Kind.{Kind}
use Rattle.directory.specs.declared.update.OwnUpdate.{OwnUpdate}
use Rattle.directory.specs.declared.update.OwnUpdate.TheVariants as own
use Rattle.directory.specs.declared.update.UpdateRefusal.{UpdateRefusal}
use Rattle.directory.specs.declared.update.UpdateRefusal.TheVariants.{NoSuchEntry}
use Rattle.directory.specs.Applied.{changed_entry, deleted_entry, TakesOwn, LeavesOthers}
use Rattle.directory.specs.Entries.{Entries, join_entries, IsValidEntry}
use Rattle.directory.specs.Histories.{entry_of}
use Rattle.directory.specs.Kinds.{is_child}
use Rattle.directory.specs.Shown.{Shown, is_reserved, live_refusal, refusal_of, marks_of, face_of, shown_entry, shown_in}
use Rattle.directory.specs.Updates.{Change, Create, MakeLink, MakeChild, Repoint, changed_name}

-- an update deletes an entry that the table has, or changes an attribute of it (own)
abbrev pub is_own : Change → Bool
is_own (Create n) = false
is_own (MakeLink n target) = false
is_own (MakeChild n pointer) = false
is_own (Repoint n master others) = false
is_own u = true

-- an update of an entry of this kind is refused: the deletion of a child, or a change of a reserved
-- attribute (own)
abbrev pub is_wrong : OwnUpdate → Kind → Bool
is_wrong own.Delete k = is_child k
is_wrong (own.Change a c) k = is_reserved a.now

-- why an update of an entry is refused, by what shows of it (own)
abbrev pub own_refusal : Option Shown → OwnUpdate → Option UpdateRefusal
own_refusal None o = Some NoSuchEntry
own_refusal (Some e) o = live_refusal (is_wrong o e.kind)

-- what an update of the entry e with stamp s adds to it (own)
abbrev pub own_made : OwnUpdate → EntryCell → Stamp → EntryCell
own_made own.Delete e s = deleted_entry e s
own_made (own.Change a c) e s = changed_entry e a.now (change_marks c s)

-- o is what the update u does to an entry: it is refused as u is, and makes what the marks of u
-- make (own)
pub record IsOwnUpdate (u : Change) (o : OwnUpdate) : Type 0 where
  pub refusal : (e : Option Shown) → refusal_of e u ≡ own_refusal e o
  pub entry : (e : EntryCell) (s : Stamp) → entry_of (marks_of (Some (face_of e)) u s) (changed_name u) ≡ Some (own_made o e s)

-- an entry takes an update with a stamp, or it is told why not (own)
pub record AcceptsEntry {A E : Type 0} (old new : EntryCell) (o : OwnUpdate) (s : Stamp) (r : Result (Result A UpdateRefusal) E) : Type 0 where
  pub answer : IfOk r (λ a. result_err a ≡ own_refusal (shown_entry old) o)
  pub ok : IfOk r (λ a. OnOk a (IsValidEntry old → new ≡ join_entries old (own_made o old s)))
  pub refused : IfOk r (λ a. OnErr a (new ≡ old))
  pub err : OnErr r (new ≡ old)

-- the entry of the name n takes an update with a stamp, or it is told why not (own)
pub record AcceptsOwn {A E : Type 0} (old new : Entries) (n : List ℕ) (o : OwnUpdate) (s : Stamp) (r : Result (Result A UpdateRefusal) E) : Type 0 where
  pub answer : IfOk r (λ a. result_err a ≡ own_refusal (shown_in old n) o)
  pub ok : IfOk r (λ a. OnOk a (TakesOwn old new n (λ e. own_made o e s)))
  pub others : LeavesOthers old new n
  pub refused : IfOk r (λ a. OnErr a (new ≡ old))
  pub err : OnErr r (new ≡ old)
