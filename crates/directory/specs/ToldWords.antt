-- What is answered to an update that is applied in place (own, after C705, updates to replicas).
use Rattle.std.specs.Prelude.{◌≡◌, Some, None, Result, IfOk, OnOk, OnErr}
use Rattle.std.specs.Result.{result_err}
use Rattle.cds_stamps.specs.declared.stamp.Stamp.{Stamp}
use Rattle.cds_stamps.specs.Outcomes.{ok_unless}
use Rattle.directory.specs.declared.entry.Fragment.{Fragment}
use Rattle.directory.specs.declared.update.UpdateRefusal.{UpdateRefusal}
use Rattle.directory.specs.Entries.{Entries}
use Rattle.directory.specs.Histories.{entry_of}
use Rattle.directory.specs.Shown.{shown_in, refusal_of, marks_of}
use Rattle.directory.specs.Updates.{Change, changed_name}
use Rattle.directory.specs.Applied.{TakesIn, LeavesOthers}

-- an update is accepted by what a table shows of its name (own)
abbrev pub IsAccepted : Entries → Change → Type 0
IsAccepted m u = refusal_of (shown_in m (changed_name u)) u ≡ None

-- the marks of an update with a stamp are joined in (own)
abbrev pub TakesMarksOf : Entries → Entries → Change → Stamp → Type 0
TakesMarksOf old new u s = TakesIn old new (changed_name u) (marks_of (shown_in old (changed_name u)) u s)

-- a fragment is what the marks of an update with a stamp make (own)
abbrev pub HasMarksOf : Entries → Change → Stamp → Fragment → Type 0
HasMarksOf m u s f = entry_of (marks_of (shown_in m (changed_name u)) u s) f.name ≡ Some f.entry

-- an update with a stamp is applied, or it is told why it is refused (own)
pub record AcceptsUpdate {E : Type 0} (old new : Entries) (u : Change) (s : Stamp) (r : Result (Result (Unit {0}) UpdateRefusal) E) : Type 0 where
  pub answer : IfOk r (λ a. a ≡ ok_unless (refusal_of (shown_in old (changed_name u)) u) tt)
  pub ok : IfOk r (λ a. OnOk a (TakesMarksOf old new u s))
  pub others : LeavesOthers old new (changed_name u)
  pub refused : IfOk r (λ a. OnErr a (new ≡ old))
  pub err : OnErr r (new ≡ old)

-- an update with a stamp is applied, and its fragment is told; or it is told why it is refused
-- (own)
pub record TellsUpdate {E : Type 0} (old new : Entries) (u : Change) (s : Stamp) (r : Result (Result Fragment UpdateRefusal) E) : Type 0 where
  pub answer : IfOk r (λ a. result_err a ≡ refusal_of (shown_in old (changed_name u)) u)
  pub ok : IfOk r (λ a. OnOk a (TakesMarksOf old new u s))
  pub name : IfOk r (λ a. IfOk a (λ f. f.name ≡ changed_name u))
  pub entry : IfOk r (λ a. IfOk a (HasMarksOf old u s))
  pub others : LeavesOthers old new (changed_name u)
  pub refused : IfOk r (λ a. OnErr a (new ≡ old))
  pub err : OnErr r (new ≡ old)
