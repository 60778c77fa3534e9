-- What keeps what is held valid, with no time above the floor.
use Rattle.std.proofs.Common.{◌≡◌, ℕ, ◌<◌, ◌≤◌, Bool, true, false, cond, List, [], ◌∷◌, Option, Some, None, refl, subst, arith, inl, inr, le_trans}
use Rattle.std.specs.Prelude.{IfSome, option_and_then}
use Rattle.std.specs.List.{AllByRecursion}
use Rattle.std.specs.FinMap.{get}
use Rattle.std.specs.Option.{IsSomeAnd}
use Rattle.cds_stamps.specs.declared.stamp.Stamp.{Stamp}
use Rattle.cds_stamps.specs.Undos.{RaisesAt}
use Rattle.directory.specs.declared.entry.EntryCell.{EntryCell}
use Rattle.directory.specs.declared.entry.Fragment.{Fragment}
use Rattle.directory.specs.Applied.{TakesIn}
use Rattle.directory.specs.Entries.{Entries, IsValidEntry, join_entries}
use Rattle.directory.specs.Histories.{Mark, stamp_in, born_in, entry_of}
use Rattle.directory.specs.Updates.{Change, changed_name}
use Rattle.directory.specs.Shown.{Shown, leads, face_of, shown_entry, shown_if_live, shown_in, refusal_of, marks_of}
use Rattle.directory.proofs.TableLaws.{entry_of-valid}
use Rattle.purge_rule.specs.declared.replica.Replica.{Replica}
use Rattle.purge_rule.specs.Latest.{EntryUpTo, MarkUpTo, ReplicaUpTo, TableUpTo}
use Rattle.purge_rule.proofs.ReplicaLaws.{raised_table-valid}
use Rattle.purge_rule.proofs.Times.{entry_of-up_to, latest_time-≤, raised-up_to}
use Rattle.cell_model.specs.Sets.{In}
use Rattle.cell_model.proofs.Lists.{earlier_up_to, time_up_to}
use Rattle.cell_model.proofs.Marks.{marks_made}
use Rattle.house_directory.specs.declared.states.Held.{Held}
use Rattle.house_directory.specs.LawfulDirectories.{IsLawfulHeld}

-- what holds of the value of an option
some_of : {A : Type 0} (P : A → Type 0) (o : Option A) (x : A) → o ≡ Some x → IfSome o P → P x
some_of P o x is h = subst (λ o. IfSome o P) is h

-- an entry that shows is that of the table, with its birth
shown_birth : (d : Option Stamp) (f e : Shown) → shown_if_live d f ≡ Some e → f ≡ e
shown_birth None f e is = test (leads f.kind f.values) is
  where
    test : (t : Bool) → cond t (Some f) None ≡ Some e → f ≡ e
    test true is = cc
    test false is = absurd (cc)
shown_birth (Some s) f e is = absurd (cc)

table_birth : (n : ℕ) (t : Entries) (name : List ℕ) (e : Shown) → TableUpTo n t → shown_in t name ≡ Some e → e.birth.time ≤ n
table_birth n t name e up is = at (get t name) (up name) is
  where
    at : (o : Option EntryCell) → IfSome o (EntryUpTo n) → option_and_then shown_entry o ≡ Some e → e.birth.time ≤ n
    at None h is = absurd (cc)
    at (Some c) h is = subst (λ (f : Shown). f.birth.time ≤ n) (shown_birth c.death (face_of c) e is) h.birth

-- what holds of each mark, as a list
pub each_mark : (n : ℕ) (ms : List Mark) → ((k : Mark) → In k ms → MarkUpTo n k) → AllByRecursion (MarkUpTo n) ms
each_mark n [] h = tt
each_mark n (k ∷ ks) h = (h k (inl refl), each_mark n ks (λ j i. h j (inr i)))

-- no time of the fragment of an accepted update is above its stamp's
pub update_times : (t : Entries) (u : Change) (s : Stamp) (f : Fragment) (floor : ℕ) → refusal_of (shown_in t (changed_name u)) u ≡ None
    → entry_of (marks_of (shown_in t (changed_name u)) u s) f.name ≡ Some f.entry → TableUpTo floor t → floor < s.time → EntryUpTo s.time f.entry
update_times t u s f floor fine entry up above =
    let made = marks_made (shown_in t (changed_name u)) u s fine
    (λ e is. let low = table_birth floor t (changed_name u) e up is in earlier_up_to e.birth s (omega arith)) in
    some_of (EntryUpTo s.time) (entry_of (marks_of (shown_in t (changed_name u)) u s) f.name) f.entry entry
    (entry_of-up_to s.time (marks_of (shown_in t (changed_name u)) u s) f.name (each_mark s.time (marks_of (shown_in t (changed_name u)) u s)
    (λ k i. let stamped = time_up_to (stamp_in k) s (made.stamped k i) in
    let born = time_up_to (born_in k) (stamp_in k) (made.ordered k i) in (stamped, omega arith))))

-- with a later floor
pub up_to_later : (r : Replica) (a b : ℕ) → a ≤ b → ReplicaUpTo a r → ReplicaUpTo b r
up_to_later r a b le h = (latest_time-≤ b r).0 (le_trans ((latest_time-≤ a r).1 h) le)

-- what a house holds stays lawful with a later floor
pub lawful_later : (me a b : ℕ) (h : Held) → a ≤ b → IsLawfulHeld me a h → IsLawfulHeld me b h
lawful_later me a b h le w = record {
  valid = w.valid;
  replica = up_to_later h.replica a b le w.replica;
  skulk = λ t is. let runs = w.skulk t is in
      record { time = le_trans runs.time le; place = runs.place; member = runs.member; round = runs.round };
}

-- the marks of an accepted update, added in place
pub adds_lawful : (held : Held) (table : Entries) (u : Change) (s : Stamp) → refusal_of (shown_in held.replica.table (changed_name u)) u ≡ None
    → TakesIn held.replica.table table (changed_name u) (marks_of (shown_in held.replica.table (changed_name u)) u s) → (me floor : ℕ)
    → IsLawfulHeld me floor held → floor < s.time → IsLawfulHeld me s.time (record held { replica = record held.replica { table = table } })
adds_lawful held table u s fine takes me floor lawful above =
    by_entry (entry_of (marks_of (shown_in held.replica.table (changed_name u)) u s) (changed_name u)) refl takes
  where
    by_entry : (o : Option EntryCell) → entry_of (marks_of (shown_in held.replica.table (changed_name u)) u s) (changed_name u) ≡ o
        → IsSomeAnd o (λ e. IfSome (get held.replica.table (changed_name u)) IsValidEntry → RaisesAt join_entries held.replica.table table (changed_name u) e)
        → IsLawfulHeld me s.time (record held { replica = record held.replica { table = table } })
    by_entry None is joins = absurd joins
    by_entry (Some e) is joins =
        let f : Fragment = record { name = changed_name u; entry = e } in
        let valid : IsValidEntry e =
        some_of IsValidEntry (entry_of (marks_of (shown_in held.replica.table (changed_name u)) u s) (changed_name u)) e is
        (entry_of-valid (marks_of (shown_in held.replica.table (changed_name u)) u s) (changed_name u)) in
        let raises = joins (lawful.valid (changed_name u)) in
        let after = lawful_later me floor s.time held (omega arith) lawful in
        record {
          valid = raised_table-valid None held.replica.table table f lawful.valid valid raises;
          replica = record {
            table =
                raised-up_to s.time held.replica.table table (changed_name u) e after.replica.table
                (update_times held.replica.table u s f floor fine is lawful.replica.table above) raises;
            all_up_to = after.replica.all_up_to;
          };
          skulk = after.skulk;
        }
