-- What is taken of another table up to a stamp: what is later of an entry changes nothing where the
-- entry changes nothing; and the loops that take it in turn, that make an index of deletions, and a
-- table of what is later.
use Rattle.std.proofs.Common.{◌≡◌, Bool, true, false, cond, List, [], ◌∷◌, Option, Some, None, refl, sym, ap, subst, ◌∙◌, ◌⊎◌, inl, inr, ⊎_elim}
use Rattle.std.proofs.Common.{is_eq, arith, Result, Ok, Err, OnOk, OnErr}
use Rattle.std.proofs.lemmas.Bool.{false≢true}
use Rattle.std.proofs.lemmas.Bool.Decides.{nat_tests}
use Rattle.std.specs.Prelude.{ℕ, ◌++◌, ◌≢◌, ◌==◌, ◌↔◌, IsTrue, IfSome, is_ok, if◌then◌else◌}
use Rattle.std.specs.FinMap.{FinMap, IsAntisymmetric, get, empty, insert, len, len-empty, empty_of_len, entries, entries_sorted, from_entries}
use Rattle.std.specs.FinMap.{get-entries, get-empty, get-insert, get-from_entries, same_map}
use Rattle.std.specs.Option.{option_and_then}
use Rattle.std.specs.declared.cmp.Ordering.{Ordering}
use Rattle.std.specs.Ordering.{eq_by_cmp}
use Rattle.std.specs.List.Sorted.{IsStrictlySortedBy}
use Rattle.std.specs.Map.{lookup, keys_of}
use Rattle.std.specs.BTreeMap.{is_at}
use Rattle.std.specs.Cmp.{IsTotalOrder, tied_itself, eq_by_cmp_equiv}
use Rattle.std.specs.Cmp.Lexicographic.{nat_list_cmp_total}
use Rattle.std.proofs.lemmas.List.Sums.{fold-append}
use Rattle.std.proofs.lemmas.Map.{lookup-none}
use Rattle.std.proofs.lemmas.Map.Keys.{sorted_tail, IsDistinct-from_sorted}
use Rattle.std.proofs.lemmas.Map.Entries.{none_past_head}
use Rattle.cds_stamps.specs.declared.stamp.Stamp.{Stamp}
use Rattle.cds_stamps.specs.Semilattice.{maybe}
use Rattle.cds_stamps.specs.Keyed.{ties_are_equal, map_some, get-map_some, get-merge}
use Rattle.cds_stamps.specs.Joins.{EachValue, join_maps, get-join_maps}
use Rattle.cds_stamps.specs.Stamps.{stamp_total, is_up_to, later_stamp, later_stamp_laws, earlier_stamp, earlier_stamp_laws}
use Rattle.cds_stamps.specs.Octets.{octets_cmp, octets_exact, is_octets}
use Rattle.cds_stamps.specs.Undos.{RaisesAt, LogsChange, back_at}
use Rattle.cds_stamps.proofs.TreeViews.{get-view}
use Rattle.attr_sets.specs.declared.mark.ValueMark.{ValueMark}
use Rattle.attr_sets.specs.declared.cell.AttrCell.{AttrCell}
use Rattle.attr_sets.specs.Marks.{later, later_laws, mark_after_clear}
use Rattle.attr_sets.specs.AttributeCells.{join_cells, IsValidCell}
use Rattle.attr_sets.specs.CellLawProofs.{same_cell, get-join_cells}
use Rattle.attr_sets.specs.CellPurges.{clear_left, mark_after, is_empty_cell, after_cell, cell_after}
use Rattle.attr_sets.proofs.SomeCellLaws.{none_of-empty, some_of-other, empty_or_not}
use Rattle.attr_sets.proofs.CellPurgeLaws.{get-after_cell}
use Rattle.attr_sets.proofs.ShownLaws.{keys_rise}
use Rattle.directory.specs.declared.entry.EntryCell.{EntryCell}
use Rattle.directory.specs.declared.deletions.Deletion.{Deletion}
use Rattle.directory.specs.declared.deletions.Deletions.{Deletions}
use Rattle.directory.specs.declared.deletions.What.{What}
use Rattle.directory.specs.declared.undo.EntryUndo.{EntryUndo}
use Rattle.directory.specs.Applied.{LeavesOthers}
use Rattle.directory.specs.Deletions.{has_lost, is_lost, has_deletion}
use Rattle.directory.specs.Entries.{Entries, join_entries, join_tables, IsHeldCell, IsValidEntry, IsValidTable}
use Rattle.directory.specs.EntryLawProofs.{kinds, entry_join, table_join}
use Rattle.directory.specs.EntryUndoWords.{undo_entry}
use Rattle.directory.specs.IndexWords.{is_indexed, IsIndexed, IsLogged, Keeps, KnowsAll, insert_each}
use Rattle.directory.specs.Purges.{after_entry, is_passed, take_entry, take_table, delta_entry, delta_table}
use Rattle.directory.proofs.DeletionLaws.{joined_deletion}
use Rattle.directory.proofs.TakeLaws.{joined_equal, none_right}

-- ---- what is later of an entry is in it already

-- a part of a mark, a clear or a death, joined with the whole
part_joined : {X : Type 0} (f : X → X → X) → ((x : X) → f x x ≡ x) → (x : X) (b : Bool) → maybe f (Some x) (if b then None else Some x) ≡ Some x
part_joined f idem x true = refl
part_joined f idem x false = ap Some (idem x)

clear_joined : (t : Stamp) (c : Option Stamp) → maybe later_stamp c (option_and_then (clear_left t) c) ≡ c
clear_joined t None = refl
clear_joined t (Some c) = part_joined later_stamp later_stamp_laws.idem c (is_up_to t c)

death_joined : (t : Stamp) (d : Option Stamp) → maybe earlier_stamp d (option_and_then (clear_left t) d) ≡ d
death_joined t None = refl
death_joined t (Some d) = part_joined earlier_stamp earlier_stamp_laws.idem d (is_up_to t d)

mark_joined : (t : Stamp) (m : Option ValueMark) → maybe later m (option_and_then (mark_after t) m) ≡ m
mark_joined t None = refl
mark_joined t (Some m) = part_joined later later_laws.idem m (is_up_to t m.stamp)

cell_joined : (t : Stamp) (c : AttrCell) → IsValidCell c → join_cells c (after_cell t c) ≡ c
cell_joined t c valid = same_cell (join_cells c (after_cell t c)) c (clear_joined t c.cleared) (λ v.
    get-join_cells c (after_cell t c) v
    ∙ ap (λ x. mark_after_clear (maybe later_stamp c.cleared (option_and_then (clear_left t) c.cleared)) (maybe later (get c.values v) x)) (get-after_cell t c v)
    ∙ ap (λ x. mark_after_clear (maybe later_stamp c.cleared (option_and_then (clear_left t) c.cleared)) x) (mark_joined t (get c.values v))
    ∙ ap (λ x. mark_after_clear x (get c.values v)) (clear_joined t c.cleared) ∙ valid v)

some_joined : (t : Stamp) (c : Option AttrCell) → IfSome c IsHeldCell → maybe join_cells c (option_and_then (cell_after t) c) ≡ c
some_joined t None valid = refl
some_joined t (Some c) valid = at (is_empty_cell (after_cell t c))
  where
    at : (b : Bool) → maybe join_cells (Some c) (if b then None else Some (after_cell t c)) ≡ Some c
    at true = refl
    at false = ap Some (cell_joined t c valid.0)

attrs_joined : (t : Stamp) (m : FinMap octets_cmp AttrCell) → EachValue IsHeldCell m → join_maps join_cells m (map_some (cell_after t) m) ≡ m
attrs_joined t m valid = same_map nat_list_cmp_total octets_exact (join_maps join_cells m (map_some (cell_after t) m)) m (λ k.
    get-join_maps nat_list_cmp_total octets_exact join_cells m (map_some (cell_after t) m) k
    ∙ ap (maybe join_cells (get m k)) (get-map_some nat_list_cmp_total octets_exact (cell_after t) m k) ∙ some_joined t (get m k) (valid k))

-- an entry joined with what of it is later
pub after_entry-joined : (t : Stamp) (e : EntryCell) → IsValidEntry e → join_entries e (after_entry t e) ≡ e
after_entry-joined t e valid =
    joined_equal e (after_entry t e) (tied_itself stamp_total e.birth)
    ∙ (λ i. record { birth = e.birth; kind = kinds.idem e.kind i; death = death_joined t e.death i; attrs = attrs_joined t e.attrs valid i })

-- what is later of an entry that changes nothing changes nothing
after_entry-outdated : (t : Stamp) (o e : EntryCell) → IsValidEntry e → join_entries o e ≡ o → join_entries o (after_entry t e) ≡ o
after_entry-outdated t o e valid is =
    let x = after_entry t e in
    ap (λ y. join_entries y x) (sym is) ∙ entry_join.assoc o e x ∙ ap (join_entries o) (after_entry-joined t e valid) ∙ is

-- an entry that is passed by, or that changes nothing, leaves the own one
pub known_taken : (t : Stamp) (own : Option EntryCell) (e : EntryCell) → IsValidEntry e
    → (is_passed t own e ≡ true) ⊎ (maybe join_entries own (Some e) ≡ own) → take_entry t own (Some e) ≡ own
known_taken t own e valid known = ⊎_elim passed (outdated own) known
  where
    passed : is_passed t own e ≡ true → take_entry t own (Some e) ≡ own
    passed p = ap (λ b. maybe join_entries own (if b then None else Some (after_entry t e))) p ∙ none_right join_entries own

    outdated : (own : Option EntryCell) → maybe join_entries own (Some e) ≡ own → take_entry t own (Some e) ≡ own
    outdated None is = absurd cc
    outdated (Some o) is = at (is_passed t (Some o) e)
      where
        at : (b : Bool) → maybe join_entries (Some o) (if b then None else Some (after_entry t e)) ≡ Some o
        at true = refl
        at false = let same : join_entries o e ≡ o = cc (is) in ap Some (after_entry-outdated t o e valid same)

-- a name that is given an entry has it, and every other has what it had
pub put_here : (old new : Entries) (k l : List ℕ) (x y : EntryCell) → new ≡ insert old l y → l ≡ k → y ≡ x → get new k ≡ Some x
put_here old new k l x y put name entry =
    ap (λ m. get m k) put ∙ get-insert nat_list_cmp_total old l y k ∙ ap (λ l. cond (eq_by_cmp octets_cmp k l) (Some y) (get old k)) name
    ∙ ap (λ b. cond b (Some y) (get old k)) (ap is_eq (tied_itself nat_list_cmp_total k)) ∙ ap Some entry

-- where an entry is put at a name, each other name has what it had
pub put_elsewhere : (old new : Entries) (k l : List ℕ) (y : EntryCell) → new ≡ insert old l y → l ≡ k → (q : List ℕ) → q ≢ k → get new q ≡ get old q
put_elsewhere old new k l y put name q other =
    ap (λ m. get m q) put ∙ get-insert nat_list_cmp_total old l y q ∙ at (eq_by_cmp octets_cmp q l) refl
  where
    at : (b : Bool) → eq_by_cmp octets_cmp q l ≡ b → cond b (Some y) (get old q) ≡ get old q
    at true same = absurd (other (ties_are_equal octets_exact q l same ∙ name))
    at false same = refl

-- a pair after others is inserted into their table
pub inserted_last : (old new : List (List ℕ × EntryCell)) (k : List ℕ) (x : EntryCell) → new ≡ old ++ (k, x) ∷ []
    → insert_each new ≡ insert (insert_each old) k x
inserted_last old new k x is = ap insert_each is ∙ fold-append (λ m p. insert m p.0 p.1) empty old ((k, x) ∷ [])

-- ---- the entries of a map are in order

-- the map of the entries of a map, and a look-up among them
pub of_entries : {K X : Type 0} {R : K → K → Ordering} → IsTotalOrder R → IsAntisymmetric R → (m : FinMap R X) → from_entries (entries m) ≡ m
of_entries o same m = same_map o same (from_entries (entries m)) m (λ q. get-from_entries o (entries m) q ∙ sym (get-entries m q))

lookup-entries : {K X : Type 0} {R : K → K → Ordering} → IsTotalOrder R → IsAntisymmetric R → (m : FinMap R X) (q : K)
    → lookup (is_at (R q)) (entries m) ≡ get m q
lookup-entries o same m q = sym (get-view o (entries m) q) ∙ ap (λ m. get m q) (of_entries o same m)

-- ---- loops that give each key of a map something in turn, or nothing

module _ {K X Y : Type 0} {R : K → K → Ordering} (o : IsTotalOrder R) (same : IsAntisymmetric R) (base : FinMap R Y) (P : K → Option Y → Type 0) where
  -- a key is still to come, and has what it had at first; or it has what it is to have
  abbrev Stands : FinMap R X → FinMap R Y → List (K × X) → K → Type 0
  Stands m new es q = ((get new q ≡ get base q) × (lookup (is_at (R q)) es ≡ get m q)) ⊎ ((lookup (is_at (R q)) es ≡ None) × P q (get new q))

  -- each key of the new map is so, beside the entries still to come
  abbrev pub InTurn : FinMap R X → FinMap R Y → List (K × X) → Type 0
  InTurn m new es = IsStrictlySortedBy R (keys_of es) × ((q : K) → Stands m new es q)

  pub turns_start : (m : FinMap R X) (new : FinMap R Y) (items : List (K × X)) → items ≡ entries m → new ≡ base → InTurn m new items
  turns_start m new items all nothing = (
    subst (λ es. IsStrictlySortedBy R (keys_of es)) (sym all) (keys_rise R (entries m) (entries_sorted m)),
    λ q. inl (ap (λ n. get n q) nothing, ap (lookup (is_at (R q))) all ∙ lookup-entries o same m q),
  )

  pub turns_step : (m : FinMap R X) (old new : FinMap R Y) (k : K) (x : X) (es rest : List (K × X)) → es ≡ (k, x) ∷ rest
      → ((q : K) → q ≢ k → get new q ≡ get old q) → (get old k ≡ get base k → get m k ≡ Some x → P k (get new k)) → InTurn m old es → InTurn m new rest
  turns_step m old new k x es rest first others here before =
      (sorted_tail R k (keys_of rest) sorted, λ q. by_case q (eq_by_cmp R q k) refl)
    where
      sorted : IsStrictlySortedBy R (keys_of ((k, x) ∷ rest))
      sorted = subst (λ es. IsStrictlySortedBy R (keys_of es)) first before.0

      stands : (q : K) → Stands m old ((k, x) ∷ rest) q
      stands q = subst (λ es. Stands m old es q) first (before.1 q)

      itself : eq_by_cmp R k k ≡ true
      itself = ap is_eq (tied_itself o k)

      gone : lookup (is_at (R k)) rest ≡ None
      gone = lookup-none (is_at (R k)) rest (none_past_head (eq_by_cmp_equiv o) k (k, x) rest (IsDistinct-from_sorted R (keys_of ((k, x) ∷ rest)) sorted) itself)

      found : lookup (is_at (R k)) ((k, x) ∷ rest) ≡ Some x
      found = ap (λ b. cond b (Some x) (lookup (is_at (R k)) rest)) itself

      at_key : Stands m new rest k
      at_key = ⊎_elim
          (λ waits. inr (gone, here waits.0 (sym waits.1 ∙ found)))
          (λ done. absurd (let e : Some x ≡ None = sym found ∙ done.0 in cc)) (stands k)

      by_case : (q : K) (b : Bool) → eq_by_cmp R q k ≡ b → Stands m new rest q
      by_case q true at = subst (Stands m new rest) (sym (ties_are_equal same q k at)) at_key
      by_case q false at =
          let skips : lookup (is_at (R q)) ((k, x) ∷ rest) ≡ lookup (is_at (R q)) rest = ap (λ b. cond b (Some x) (lookup (is_at (R q)) rest)) at in
          let stays = others q (λ is. apart (ap (λ k. eq_by_cmp R q k) (sym is) ∙ ap is_eq (tied_itself o q)) at) in
          ⊎_elim (λ waits. inl (stays ∙ waits.0, sym skips ∙ waits.1)) (λ done. inr (sym skips ∙ done.0, subst (P q) (sym stays) done.1)) (stands q)
        where
          apart : {b : Bool} → b ≡ true → b ≡ false → ⊥
          apart p r = cc

  -- the key that comes has what it had at first
  pub turns_waits : (m : FinMap R X) (old : FinMap R Y) (k : K) (x : X) (es rest : List (K × X)) → es ≡ (k, x) ∷ rest → InTurn m old es
      → get old k ≡ get base k
  turns_waits m old k x es rest first is =
      ⊎_elim (λ waits. waits.0) (λ done. absurd (let e : Some x ≡ None = sym found ∙ done.0 in cc)) (is.1 k)
    where
      found : lookup (is_at (R k)) es ≡ Some x
      found = ap (λ es. lookup (is_at (R k)) es) first ∙ ap (λ b. cond b (Some x) (lookup (is_at (R k)) rest)) (ap is_eq (tied_itself o k))

  pub turns_end : (m : FinMap R X) (new : FinMap R Y) (es : List (K × X)) → es ≡ [] → ((q : K) → get m q ≡ None → P q (get base q)) → InTurn m new es
      → (q : K) → P q (get new q)
  turns_end m new es none nothing is q = ⊎_elim
      (λ waits. subst (P q) (sym waits.0) (nothing q (sym waits.1 ∙ ap (lookup (is_at (R q))) none))) (λ done. done.1) (is.1 q)

-- ---- what is taken in turn

-- a name has what is taken of the other table beside its own entry
abbrev pub IsTaken : Stamp → Entries → Entries → List ℕ → Option EntryCell → Type 0
IsTaken t own other q x = x ≡ take_entry t (get own q) (get other q)

-- a table into which it is taken, where the entries still to come are not
abbrev pub TakesInTurn : Stamp → Entries → Entries → Entries → List (List ℕ × EntryCell) → Type 0
TakesInTurn t own other = InTurn nat_list_cmp_total octets_exact own (IsTaken t own other) other

-- what one name of a table gets where what is taken of an entry is joined in there
abbrev pub TakesOne : Stamp → Entries → Entries → List ℕ → EntryCell → Type 0
TakesOne t m n k e = IfSome (get m k) IsValidEntry → IsValidEntry e → (q : List ℕ) → get n q ≡ take_entry t (get m q) (if is_octets q k then Some e else None)

-- each other name has what it had
takes_leave : (t : Stamp) (m n : Entries) (k : List ℕ) (e : EntryCell)
    → ((q : List ℕ) → get n q ≡ take_entry t (get m q) (if is_octets q k then Some e else None)) → LeavesOthers m n k
takes_leave t m n k e takes q other = takes q ∙ at (is_octets q k) refl
  where
    at : (b : Bool) → is_octets q k ≡ b → take_entry t (get m q) (if b then Some e else None) ≡ get m q
    at true same = absurd (other (ties_are_equal octets_exact q k same))
    at false apart = none_right join_entries (get m q)

-- it is so with one entry fewer to come
pub take_step : (t : Stamp) (own other old new : Entries) (k : List ℕ) (e : EntryCell) (es rest : List (List ℕ × EntryCell)) → es ≡ (k, e) ∷ rest
    → IsValidTable own → TakesOne t old new k e → IsValidEntry e → TakesInTurn t own other old es → TakesInTurn t own other new rest
take_step t own other old new k e es rest first mine takes entry is =
    turns_step nat_list_cmp_total octets_exact own (IsTaken t own other) other old new k e es rest first others (λ waits found.
    taken waits k ∙ ap (λ b. take_entry t (get old k) (if b then Some e else None)) (ap is_eq (tied_itself nat_list_cmp_total k))
    ∙ ap (λ x. take_entry t x (Some e)) waits ∙ ap (take_entry t (get own k)) (sym found)) is
  where
    taken : get old k ≡ get own k → (q : List ℕ) → get new q ≡ take_entry t (get old q) (if is_octets q k then Some e else None)
    taken waits = takes (subst (λ x. IfSome x IsValidEntry) (sym waits) (mine k)) entry

    others : (q : List ℕ) → q ≢ k → get new q ≡ get old q
    others = takes_leave t old new k e (taken (turns_waits nat_list_cmp_total octets_exact own (IsTaken t own other) other old k e es rest first is))

-- once no entry is still to come, all is taken
pub take_end : (t : Stamp) (own other new : Entries) (es : List (List ℕ × EntryCell)) → es ≡ [] → TakesInTurn t own other new es → new ≡ take_table t own other
take_end t own other new es none is = same_map nat_list_cmp_total octets_exact new (take_table t own other) (λ q.
    turns_end nat_list_cmp_total octets_exact own (IsTaken t own other) other new es none
    (λ q absent. sym (ap (take_entry t (get own q)) absent ∙ none_right join_entries (get own q))) is q
    ∙ sym (get-merge nat_list_cmp_total octets_exact (take_entry t) refl own other q))

-- an entry that is known already is taken
pub known_stays : (t : Stamp) (m : Entries) (k : List ℕ) (e : EntryCell) → take_entry t (get m k) (Some e) ≡ get m k → (q : List ℕ)
    → get m q ≡ take_entry t (get m q) (if is_octets q k then Some e else None)
known_stays t m k e known q = at (is_octets q k) refl
  where
    at : (b : Bool) → is_octets q k ≡ b → get m q ≡ take_entry t (get m q) (if b then Some e else None)
    at false apart = sym (none_right join_entries (get m q))
    at true same = subst (λ k. get m k ≡ take_entry t (get m k) (Some e)) (sym (ties_are_equal octets_exact q k same)) (sym known)

-- and so is any other of which what is later is joined in
pub later_raised : (t : Stamp) (m n : Entries) (k : List ℕ) (e : EntryCell) → is_passed t (get m k) e ≡ false
    → RaisesAt join_entries m n k (after_entry t e) → (q : List ℕ) → get n q ≡ take_entry t (get m q) (if is_octets q k then Some e else None)
later_raised t m n k e stays raises q = raises q ∙ at (is_octets q k) refl
  where
    at : (b : Bool) → is_octets q k ≡ b
        → maybe join_entries (get m q) (if b then Some (after_entry t e) else None) ≡ take_entry t (get m q) (if b then Some e else None)
    at false apart = refl
    at true same =
        let here : is_passed t (get m q) e ≡ false = ap (λ k. is_passed t (get m k) e) (ties_are_equal octets_exact q k same) ∙ stays in
        ap (λ b. maybe join_entries (get m q) (if b then None else Some (after_entry t e))) (sym here)

-- what follows of an answer that is no error
pub on_ok : {T E P Q : Type 0} (r : Result T E) → (P → Q) → OnOk r P → OnOk r Q
on_ok (Ok x) f p = f p
on_ok (Err e) f p = tt

-- ---- the index of a table

-- each deletion of the table is one of the entries still to come, or is known
abbrev pub KnowsRest : Deletions → Entries → List (List ℕ × EntryCell) → Type 0
KnowsRest x m es = (d : Deletion) → has_deletion m d ≡ true
    → (is_lost (lookup (is_at (octets_cmp d.name)) es) d.stamp d.what ≡ true) ⊎ (is_indexed x d ≡ true)

-- before the first entry each deletion of the table is still to come
pub rest_starts : (x : Deletions) (m : Entries) (items : List (List ℕ × EntryCell)) → items ≡ entries m → KnowsRest x m items
rest_starts x m items all d has = inl (ap (λ e. is_lost e d.stamp d.what)
    (ap (lookup (is_at (octets_cmp d.name))) all ∙ lookup-entries nat_list_cmp_total octets_exact m d.name) ∙ has)

-- each deletion is known or still to come where the index got to know of those of the entry that
-- came
pub rest_step : (x y : Deletions) (m : Entries) (k : List ℕ) (e : EntryCell) (es rest : List (List ℕ × EntryCell)) → es ≡ (k, e) ∷ rest → Keeps x y
    → ((s : Stamp) (w : What) → has_lost e s w ≡ true → is_indexed y (record { stamp = s; name = k; what = w }) ≡ true)
    → KnowsRest x m es → KnowsRest y m rest
rest_step x y m k e es rest first keeps adds before d has =
    ⊎_elim (λ lost. at (is_at (octets_cmp d.name) k) refl
    (ap (λ es. is_lost (lookup (is_at (octets_cmp d.name)) es) d.stamp d.what) (sym first) ∙ lost)) (λ known. inr (keeps d known)) (before d has)
  where
    at : (b : Bool) → is_at (octets_cmp d.name) k ≡ b
        → is_lost (cond (is_at (octets_cmp d.name) k) (Some e) (lookup (is_at (octets_cmp d.name)) rest)) d.stamp d.what ≡ true
        → (is_lost (lookup (is_at (octets_cmp d.name)) rest) d.stamp d.what ≡ true) ⊎ (is_indexed y d ≡ true)
    at true is lost =
        let own : has_lost e d.stamp d.what ≡ true = ap (λ b. is_lost (cond b (Some e) (lookup (is_at (octets_cmp d.name)) rest)) d.stamp d.what) (sym is) ∙ lost in
        inr (ap (λ n. is_indexed y (record { stamp = d.stamp; name = n; what = d.what })) (ties_are_equal octets_exact d.name k is) ∙ adds d.stamp d.what own)
    at false is lost = inl (ap (λ b. is_lost (cond b (Some e) (lookup (is_at (octets_cmp d.name)) rest)) d.stamp d.what) (sym is) ∙ lost)

-- once no entry is still to come, the index knows of each deletion of the table
pub rest_ends : (x : Deletions) (m : Entries) (es : List (List ℕ × EntryCell)) → es ≡ [] → KnowsRest x m es → KnowsAll x m
rest_ends x m es none rest d has = ⊎_elim
    (λ lost. absurd (nothing (ap (λ es. is_lost (lookup (is_at (octets_cmp d.name)) es) d.stamp d.what) (sym none) ∙ lost))) (λ known. known) (rest d has)
  where
    nothing : false ≡ true → ⊥
    nothing e = cc

-- what holds of an Ok
pub when_ok : {A E P : Type 0} (r : Result A E) → is_ok r ≡ true → OnOk r P → P
when_ok (Ok a) is p = p
when_ok (Err e) is p = absurd cc

module _ (x y : Deletions) (m n : Entries) (indexed : IsIndexed x m) (keeps : Keeps x y) where
  -- entries that stay are valid, and the longer index knows of their deletions
  pub stays_known : (next : Entries) → next ≡ m → IsValidTable next × KnowsAll y next
  stays_known next is = subst (λ m. IsValidTable m × KnowsAll y m) (sym is) (indexed.valid, λ d has. keeps d (indexed.all d has))

  -- so are entries that others are joined into, whose deletions it knows too, whether there was
  -- memory or not
  pub joins_known : {A E : Type 0} (r : Result A E) (next : Entries) → IsValidTable n → KnowsAll y n
      → OnOk r (IsValidTable m → IsValidTable n → next ≡ join_tables m n) → OnErr r (next ≡ m) → IsValidTable next × KnowsAll y next
  joins_known (Err e) next valid knows ok err = stays_known next err
  joins_known (Ok a) next valid knows ok err = subst (λ m. IsValidTable m × KnowsAll y m) (sym (ok indexed.valid valid)) (
    table_join.keeps m n indexed.valid valid,
    λ d has. ⊎_elim (λ own. keeps d (indexed.all d own)) (λ other. knows d other) (joined_deletion m n d has),
  )

-- ---- entries of which nothing is later

module _ {K X Y : Type 0} {R : K → K → Ordering} (o : IsTotalOrder R) (same : IsAntisymmetric R) (f : X → Option Y) (m : FinMap R X) where
  nothing_of : (x : Option X) → IfSome x (λ x. f x ≡ None) → option_and_then f x ≡ None
  nothing_of None h = refl
  nothing_of (Some x) h = h

  of_nothing : (x : Option X) → option_and_then f x ≡ None → IfSome x (λ x. f x ≡ None)
  of_nothing None h = tt
  of_nothing (Some x) h = h

  -- where no value gives anything, nothing is left
  pub none_left : EachValue (λ x. f x ≡ None) m → map_some f m ≡ empty
  none_left h = same_map o same (map_some f m) empty (λ q. get-map_some o same f m q ∙ nothing_of (get m q) (h q) ∙ sym (get-empty R q))

  -- and the other way round
  pub left_none : map_some f m ≡ empty → EachValue (λ x. f x ≡ None) m
  left_none h q = of_nothing (get m q) (sym (get-map_some o same f m q) ∙ ap (λ n. get n q) h ∙ get-empty R q)

-- of a cell nothing is later where neither its clear nor a mark is
pub old_cell : (t : Stamp) (c : AttrCell) → option_and_then (clear_left t) c.cleared ≡ None → EachValue (λ m. mark_after t m ≡ None) c.values
    → cell_after t c ≡ None
old_cell t c clear marks =
    let values = none_left nat_list_cmp_total octets_exact (mark_after t) c.values marks in
    none_of-empty (after_cell t c) (λ i. record { cleared = clear i; values = values i })

-- and the other way round
pub cell_old : (t : Stamp) (c : AttrCell) → cell_after t c ≡ None
    → (option_and_then (clear_left t) c.cleared ≡ None) × EachValue (λ m. mark_after t m ≡ None) c.values
cell_old t c none = ⊎_elim
    (λ is. (
      ap (λ (c : AttrCell). c.cleared) is,
      left_none nat_list_cmp_total octets_exact (mark_after t) c.values (ap (λ (c : AttrCell). c.values) is),
    ))
    (λ other. absurd (let some : Some (after_cell t c) ≡ None = sym (some_of-other (after_cell t c) other) ∙ none in cc)) (empty_or_not (after_cell t c))

-- whether values give nothing, counted
pub none_counted : {K X Y : Type 0} {R : K → K → Ordering} (o : IsTotalOrder R) (same : IsAntisymmetric R) (f : X → Option Y) (m : FinMap R X) (r : Bool)
    → (IsTrue r ↔ EachValue (λ x. f x ≡ None) m) → r ≡ (len (map_some f m) == 0)
none_counted {Y = Y} {R = R} o same f m true is = sym (ap (λ m. len m == 0) (none_left o same f m (is.0 refl)) ∙ ap (λ n. n == 0) (len-empty R Y))
none_counted o same f m false is = at (len (map_some f m) == 0) refl
  where
    at : (b : Bool) → (len (map_some f m) == 0) ≡ b → false ≡ b
    at false zero = refl
    at true zero = absurd (false≢true (is.1 (left_none o same f m (empty_of_len (map_some f m) (grind (arith, zero, nat_tests))))))

-- ---- the table of what is later

-- a name has in it what is later of its entry
abbrev pub IsLater : Stamp → Entries → List ℕ → Option EntryCell → Type 0
IsLater t own q x = x ≡ option_and_then (delta_entry t) (get own q)

-- a table of what is later, where the entries still to come are put
abbrev pub LeavesPart : Stamp → Entries → Entries → List (List ℕ × EntryCell) → Type 0
LeavesPart t own = InTurn nat_list_cmp_total octets_exact empty (IsLater t own) own

-- it is so with one entry fewer to come
pub delta_step : (t : Stamp) (own old new : Entries) (k : List ℕ) (e : EntryCell) (es rest : List (List ℕ × EntryCell)) → es ≡ (k, e) ∷ rest
    → (get old k ≡ None → get new k ≡ delta_entry t e) → ((q : List ℕ) → q ≢ k → get new q ≡ get old q) → LeavesPart t own old es → LeavesPart t own new rest
delta_step t own old new k e es rest first here others =
    turns_step nat_list_cmp_total octets_exact empty (IsLater t own) own old new k e es rest first others (λ none found.
    here (none ∙ get-empty octets_cmp k) ∙ ap (option_and_then (delta_entry t)) (sym found))

-- once no entry is still to come, it is the whole
pub delta_end : (t : Stamp) (own new : Entries) (es : List (List ℕ × EntryCell)) → es ≡ [] → LeavesPart t own new es → new ≡ delta_table (Some t) own
delta_end t own new es none is =
    same_map nat_list_cmp_total octets_exact new (delta_table (Some t) own) (λ q.
    turns_end nat_list_cmp_total octets_exact empty (IsLater t own) own new es none
    (λ q gone. get-empty octets_cmp q ∙ sym (ap (option_and_then (delta_entry t)) gone)) is q
    ∙ sym (get-map_some nat_list_cmp_total octets_exact (delta_entry t) own q))

-- ---- logs

-- one logged change after another
pub then_logged : {m n l : Entries} {x y z : Deletions} {before log longer : List (List ℕ × Option EntryUndo)} → IsLogged m n x y before log
    → IsLogged n l y z log longer → IsLogged m l x z before longer
then_logged a b = record {
  back = λ q. b.back q ∙ a.back q;
  keeps = λ d known. b.keeps d (a.keeps d known);
  room = b.room ∙ a.room;
}

-- a table whose log is taken back, all of it, is as it was
pub back_to_old : (m n l : Entries) (before log : List (List ℕ × Option EntryUndo)) → before ≡ [] → LogsChange undo_entry m n before log
    → ((q : List ℕ) → get l q ≡ back_at octets_cmp undo_entry log q (get n q)) → l ≡ m
back_to_old m n l before log none logged back =
    same_map nat_list_cmp_total octets_exact l m (λ q. back q ∙ logged q ∙ ap (λ log. back_at octets_cmp undo_entry log q (get m q)) none)
