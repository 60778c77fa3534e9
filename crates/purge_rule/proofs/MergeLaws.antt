-- Tables and entries that are merged up to an AllUpTo: valid, with no later time, and those of both
-- histories.
use Rattle.std.proofs.Common.{◌≡◌, ℕ, ◌≤◌, Bool, true, false, List, ◌++◌, Option, Some, None, Result, Ok, Err, refl, sym, ap, subst, ◌∙◌}
use Rattle.std.specs.Prelude.{◌&&◌, ◌||◌, not, IfSome, OnOk, if◌then◌else◌}
use Rattle.std.specs.FinMap.{get}
use Rattle.std.specs.List.{AllByRecursion}
use Rattle.std.specs.Option.{option_and_then, option_map}
use Rattle.std.specs.Cmp.Lexicographic.{nat_list_cmp_total}
use Rattle.cds_stamps.specs.declared.stamp.Stamp.{Stamp}
use Rattle.cds_stamps.specs.Joins.{EachValue}
use Rattle.cds_stamps.specs.Keyed.{ties_are_equal, get-merge}
use Rattle.cds_stamps.specs.Octets.{octets_exact, is_octets}
use Rattle.cds_stamps.specs.Semilattice.{maybe}
use Rattle.cds_stamps.specs.Stamps.{is_up_to, later_stamp}
use Rattle.cds_stamps.specs.Undos.{RaisesAt}
use Rattle.attr_sets.specs.declared.mark.ValueMark.{ValueMark}
use Rattle.attr_sets.specs.declared.cell.AttrCell.{AttrCell}
use Rattle.attr_sets.specs.CellLawProofs.{clears}
use Rattle.attr_sets.specs.CellPurges.{mark_left, mark_after, clear_left, purged_cell, after_cell, is_empty_cell, some_cell, cell_left, cell_after}
use Rattle.directory.specs.declared.entry.EntryCell.{EntryCell}
use Rattle.directory.specs.declared.entry.Fragment.{Fragment}
use Rattle.directory.specs.Entries.{Entries, join_entries, join_tables, IsValidEntry, IsValidTable}
use Rattle.directory.specs.EntryLawProofs.{entry_join, table_join}
use Rattle.directory.specs.Histories.{Mark, entry_at, entry_of, table_of, CanMerge}
use Rattle.directory.specs.Purges.{purged_entry, is_dead_up_to, entry_left, purged_table, purged_entries, after_entry, is_passed, taken_entry, take_entry, take_table}
use Rattle.directory.specs.Purges.{is_bare, delta_entry, delta_table}
use Rattle.directory.proofs.DropLaws.{dropped-taken}
use Rattle.directory.proofs.DeltaLaws.{dropped-delta}
use Rattle.directory.proofs.HistoryLaws.{get-table_of, entries_joined, join_tables-table_of}
use Rattle.directory.proofs.PurgeLaws.{each_some, after_entry-valid, purged_table-valid}
use Rattle.directory.proofs.TableLaws.{birth_of-other}
use Rattle.directory.proofs.TakeLaws.{entry_taken, get-purged, none_right, some_same}
use Rattle.purge_rule.specs.Latest.{StampUpTo, CellUpTo, EntryUpTo, TableUpTo, MarkUpTo}
use Rattle.purge_rule.specs.Replicas.{together, merged_table, merged_entry, IsFragmentOf}
use Rattle.purge_rule.proofs.Times.{maybe-holds, join_entries-up_to, join_tables-up_to, table_of-up_to}

-- ---- what holds of each entry

module _ (P : EntryCell → Type 0) (t : Stamp) (joins : (x y : EntryCell) → P x → P y → P (join_entries x y))
    (after : (e : EntryCell) → P e → P (after_entry t e)) where
  taken-holds : (own e : Option EntryCell) → IfSome e P → IfSome (option_and_then (taken_entry t own) e) P
  taken-holds own None p = tt
  taken-holds own (Some e) p = at (is_passed t own e)
    where
      at : (passed : Bool) → IfSome (if passed then None else Some (after_entry t e)) P
      at true = tt
      at false = after e p

  -- an entry with what is taken of another
  pub take_entry-holds : (own e : Option EntryCell) → IfSome own P → IfSome e P → IfSome (take_entry t own e) P
  take_entry-holds own e p q = maybe-holds P join_entries joins own (option_and_then (taken_entry t own) e) p (taken-holds own e q)

  -- so it is of tables
  pub take_table-holds : (own other : Entries) → EachValue P own → EachValue P other → EachValue P (take_table t own other)
  take_table-holds own other p q k =
      subst (λ x. IfSome x P) (sym (get-merge nat_list_cmp_total octets_exact (take_entry t) refl own other k))
      (take_entry-holds (get own k) (get other k) (p k) (q k))

-- ---- valid

-- two valid tables, merged
pub merged_table-valid : (t : Option Stamp) (own other : Entries) → IsValidTable own → IsValidTable other → IsValidTable (merged_table t own other)
merged_table-valid None own other p q = table_join.keeps own other p q
merged_table-valid (Some t) own other p q =
    purged_table-valid t (take_table t own other) (take_table-holds IsValidEntry t entry_join.keeps (after_entry-valid t) own other p q)

-- and two valid entries
pub merged_entry-valid : (t : Option Stamp) (own e : Option EntryCell) → IfSome own IsValidEntry → IfSome e IsValidEntry
    → IfSome (merged_entry t own e) IsValidEntry
merged_entry-valid None own e p q = maybe-holds IsValidEntry join_entries entry_join.keeps own e p q
merged_entry-valid (Some t) own e p q = take_entry-holds IsValidEntry t entry_join.keeps (after_entry-valid t) own e p q

-- ---- times

-- a cell, if it has anything
pub some_cell-up_to : (n : ℕ) (c : AttrCell) → CellUpTo n c → IfSome (some_cell c) (CellUpTo n)
some_cell-up_to n c p = at (is_empty_cell c)
  where
    at : (b : Bool) → IfSome (if b then None else Some c) (CellUpTo n)
    at true = tt
    at false = p

module _ (n : ℕ) (t : Stamp) where
  clear_left-up_to : (s : Option Stamp) → StampUpTo n s → StampUpTo n (option_and_then (clear_left t) s)
  clear_left-up_to None p = tt
  clear_left-up_to (Some s) p = at (is_up_to t s)
    where
      at : (b : Bool) → StampUpTo n (if b then None else Some s)
      at true = tt
      at false = p

  mark_left-up_to : (m : ValueMark) → m.stamp.time ≤ n → IfSome (mark_left t m) (λ x. x.stamp.time ≤ n)
  mark_left-up_to m p = at (m.present || not (is_up_to t m.stamp))
    where
      at : (b : Bool) → IfSome (if b then Some m else None) (λ (x : ValueMark). x.stamp.time ≤ n)
      at true = p
      at false = tt

  mark_after-up_to : (m : ValueMark) → m.stamp.time ≤ n → IfSome (mark_after t m) (λ x. x.stamp.time ≤ n)
  mark_after-up_to m p = at (is_up_to t m.stamp)
    where
      at : (b : Bool) → IfSome (if b then None else Some m) (λ (x : ValueMark). x.stamp.time ≤ n)
      at true = tt
      at false = p

  cell_left-up_to : (c : AttrCell) → CellUpTo n c → IfSome (cell_left t c) (CellUpTo n)
  cell_left-up_to c p = some_cell-up_to n (purged_cell t c) (record {
    cleared = clear_left-up_to c.cleared p.cleared;
    values = each_some nat_list_cmp_total octets_exact (λ m. m.stamp.time ≤ n) (mark_left t) mark_left-up_to c.values p.values;
  })

  cell_after-up_to : (c : AttrCell) → CellUpTo n c → IfSome (cell_after t c) (CellUpTo n)
  cell_after-up_to c p = some_cell-up_to n (after_cell t c) (record {
    cleared = clear_left-up_to c.cleared p.cleared;
    values = each_some nat_list_cmp_total octets_exact (λ m. m.stamp.time ≤ n) (mark_after t) mark_after-up_to c.values p.values;
  })

  entry_left-up_to : (e : EntryCell) → EntryUpTo n e → IfSome (entry_left t e) (EntryUpTo n)
  entry_left-up_to e p = at (is_dead_up_to t e.death)
    where
      at : (b : Bool) → IfSome (if b then None else Some (purged_entry t e)) (EntryUpTo n)
      at true = tt
      at false = record {
        birth = p.birth;
        death = p.death;
        attrs = each_some nat_list_cmp_total octets_exact (CellUpTo n) (cell_left t) cell_left-up_to e.attrs p.attrs;
      }

  after_entry-up_to : (e : EntryCell) → EntryUpTo n e → EntryUpTo n (after_entry t e)
  after_entry-up_to e p = record {
    birth = p.birth;
    death = clear_left-up_to e.death p.death;
    attrs = each_some nat_list_cmp_total octets_exact (CellUpTo n) (cell_after t) cell_after-up_to e.attrs p.attrs;
  }

  -- what is left of a table has no later time
  pub purged_table-up_to : (m : Entries) → TableUpTo n m → TableUpTo n (purged_table t m)
  purged_table-up_to m p = each_some nat_list_cmp_total octets_exact (EntryUpTo n) (entry_left t) entry_left-up_to m p

-- nor has what is later of a table
pub delta_table-up_to : (n : ℕ) (t : Option Stamp) (m : Entries) → TableUpTo n m → TableUpTo n (delta_table t m)
delta_table-up_to n None m p = p
delta_table-up_to n (Some t) m p = each_some nat_list_cmp_total octets_exact (EntryUpTo n) (delta_entry t) at m p
  where
    at : (e : EntryCell) → EntryUpTo n e → IfSome (delta_entry t e) (EntryUpTo n)
    at e q = by_case (is_up_to t e.birth && is_bare (after_entry t e))
      where
        by_case : (b : Bool) → IfSome (if b then None else Some (after_entry t e)) (EntryUpTo n)
        by_case true = tt
        by_case false = after_entry-up_to n t e q

-- nor has the purged table of marks
pub purged-up_to : (n : ℕ) (h : List Mark) (t : Option Stamp) → AllByRecursion (MarkUpTo n) h → TableUpTo n (purged_entries h t)
purged-up_to n h None all = table_of-up_to n h all
purged-up_to n h (Some t) all = purged_table-up_to n t (table_of h) (table_of-up_to n h all)

-- nor have two tables, merged
pub merged_table-up_to : (n : ℕ) (t : Option Stamp) (own other : Entries) → TableUpTo n own → TableUpTo n other → TableUpTo n (merged_table t own other)
merged_table-up_to n None own other p q = join_tables-up_to n own other p q
merged_table-up_to n (Some t) own other p q =
    purged_table-up_to n t (take_table t own other) (take_table-holds (EntryUpTo n) t (join_entries-up_to n) (after_entry-up_to n t) own other p q)

-- and two entries
pub merged_entry-up_to : (n : ℕ) (t : Option Stamp) (own e : Option EntryCell) → IfSome own (EntryUpTo n) → IfSome e (EntryUpTo n)
    → IfSome (merged_entry t own e) (EntryUpTo n)
merged_entry-up_to n None own e p q = maybe-holds (EntryUpTo n) join_entries (join_entries-up_to n) own e p q
merged_entry-up_to n (Some t) own e p q = take_entry-holds (EntryUpTo n) t (join_entries-up_to n) (after_entry-up_to n t) own e p q

-- ---- histories

-- the later of two stamps is not earlier than the first
pub above_left : (a b t : Option Stamp) → together a b ≡ t → maybe later_stamp a t ≡ t
above_left a b t e =
    ap (maybe later_stamp a) (sym e) ∙ sym (clears.assoc a a b) ∙ ap (λ x. maybe later_stamp x b) (clears.idem a) ∙ e

-- nor than the second
pub above_right : (a b t : Option Stamp) → together a b ≡ t → maybe later_stamp b t ≡ t
above_right a b t e =
    ap (maybe later_stamp b) (sym e) ∙ clears.comm b (maybe later_stamp a b) ∙ clears.assoc a b b ∙ ap (maybe later_stamp a) (clears.idem b) ∙ e

neither : (a b : Option Stamp) → together a b ≡ None → (a ≡ None) × (b ≡ None)
neither None b e = (refl, e)
neither (Some a) None e = cc (e)
neither (Some a) (Some b) e = cc (e)

-- the purged tables of two histories, merged up to the later AllUpTo, are that of both
pub merged_purged : (h g : List Mark) (a b t : Option Stamp) → together a b ≡ t → CanMerge h g t
    → merged_table t (purged_entries h a) (purged_entries g b) ≡ purged_entries (h ++ g) t
merged_purged h g a b None e can =
    let none = neither a b e in
    ap (λ a. join_tables (purged_entries h a) (purged_entries g b)) none.0 ∙ ap (λ b. join_tables (table_of h) (purged_entries g b)) none.1
    ∙ join_tables-table_of h g can.mine.births can.theirs.births
merged_purged h g a b (Some t) e can = dropped-taken h g a b t (above_left a b (Some t) e) (above_right a b (Some t) e) can

-- and so are the table of one and the delta of the other
pub merged_delta : (h g : List Mark) (a b t : Option Stamp) → together a b ≡ t → CanMerge h g t
    → merged_table t (purged_entries h a) (delta_table b (purged_entries g b)) ≡ purged_entries (h ++ g) t
merged_delta h g a None t e can = merged_purged h g a None t e can
merged_delta h g a (Some s) None e can = cc ((neither a (Some s) e).1)
merged_delta h g a (Some s) (Some t) e can =
    dropped-delta h g a (Some s) t (above_left a (Some s) (Some t) e) (above_right a (Some s) (Some t) e) can

-- the entry of a fragment is that of its marks
pub fragment_at : (marks : List Mark) (f : Fragment) → IsFragmentOf marks f → (q : List ℕ)
    → (if is_octets q f.name then Some f.entry else None) ≡ entry_of marks q
fragment_at marks f fragment q = at (is_octets q f.name) refl
  where
    at : (b : Bool) → is_octets q f.name ≡ b → (if b then Some f.entry else None) ≡ entry_of marks q
    at true same = sym (ap (entry_of marks) (ties_are_equal octets_exact q f.name same) ∙ fragment.entry)
    at false apart = sym (ap (option_map (entry_at marks q)) (birth_of-other marks f.name q fragment.named apart))

-- one name of the purged table of a history, with the entry of marks
pub merged_name : (h marks : List Mark) (t : Option Stamp) → CanMerge h marks t → (q : List ℕ)
    → merged_entry t (get (purged_entries h t) q) (entry_of marks q) ≡ get (purged_entries (h ++ marks) t) q
merged_name h marks None can q =
    ap (λ x. maybe join_entries x (entry_of marks q)) (get-table_of h q) ∙ entries_joined h marks q can.mine.births can.theirs.births
    ∙ sym (get-table_of (h ++ marks) q)
merged_name h marks (Some t) can q =
    ap (λ x. take_entry t x (entry_of marks q)) (get-purged h (Some t) q)
    ∙ ap (take_entry t (option_and_then (entry_left t) (entry_of h q))) (some_same (entry_of marks q))
    ∙ entry_taken t h marks can q None refl ∙ sym (get-purged (h ++ marks) (Some t) q)

-- ---- the entry of one name

-- an entry that is passed by
pub entry_passed : (t : Stamp) (old : Entries) (name : List ℕ) (e : EntryCell) → is_passed t (get old name) e ≡ true → (q : List ℕ)
    → get old q ≡ take_entry t (get old q) (if is_octets q name then Some e else None)
entry_passed t old name e passed q = at (is_octets q name) refl
  where
    at : (b : Bool) → is_octets q name ≡ b → get old q ≡ take_entry t (get old q) (if b then Some e else None)
    at false apart = sym (none_right join_entries (get old q))
    at true same =
        let here : is_passed t (get old q) e ≡ true = ap (λ k. is_passed t (get old k) e) (ties_are_equal octets_exact q name same) ∙ passed in
        sym (none_right join_entries (get old q)) ∙ ap (λ b. maybe join_entries (get old q) (if b then None else Some (after_entry t e))) (sym here)

-- an entry of which what is later is joined in
pub entry_raised : (t : Stamp) (old new : Entries) (name : List ℕ) (e : EntryCell) → is_passed t (get old name) e ≡ false
    → RaisesAt join_entries old new name (after_entry t e) → (q : List ℕ)
    → get new q ≡ take_entry t (get old q) (if is_octets q name then Some e else None)
entry_raised t old new name e stays raises q = raises q ∙ at (is_octets q name) refl
  where
    at : (b : Bool) → is_octets q name ≡ b
        → maybe join_entries (get old q) (if b then Some (after_entry t e) else None) ≡ take_entry t (get old q) (if b then Some e else None)
    at false apart = refl
    at true same =
        let here : is_passed t (get old q) e ≡ false = ap (λ k. is_passed t (get old k) e) (ties_are_equal octets_exact q name same) ∙ stays in
        ap (λ b. maybe join_entries (get old q) (if b then None else Some (after_entry t e))) (sym here)

-- what follows of an answer that is no error
pub on_ok : {T E P Q : Type 0} (r : Result T E) → (P → Q) → OnOk r P → OnOk r Q
on_ok (Ok x) f p = f p
on_ok (Err e) f p = tt
