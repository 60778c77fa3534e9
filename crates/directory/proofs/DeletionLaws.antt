-- Which deletions a table has: after joins, after updates, and without one of them; and what is
-- purged where one is left out.
use Rattle.std.proofs.Common.{◌≡◌, ℕ, Bool, true, false, cond, List, [], ◌∷◌, Option, Some, None, refl, sym, ap, subst, ◌∙◌, ◌⊎◌, inl, inr, ⊎_elim}
use Rattle.std.specs.Prelude.{◌≢◌, not, ◌&&◌, ◌||◌, if◌then◌else◌, IfSome}
use Rattle.std.specs.Option.{option_and_then}
use Rattle.std.specs.FinMap.{FinMap, same_map, get, empty, insert, remove, get-empty, get-insert, get-remove}
use Rattle.std.specs.declared.cmp.Ordering.{Ordering}
use Rattle.std.specs.declared.cmp.Ordering.TheVariants.{Less, Equal, Greater}
use Rattle.std.specs.Ordering.{is_lt, flip_args}
use Rattle.std.specs.Cmp.Lexicographic.{nat_list_cmp_total}
use Rattle.cds_stamps.specs.declared.stamp.Stamp.{Stamp}
use Rattle.cds_stamps.specs.Semilattice.{maybe, maybe_join, greater}
use Rattle.cds_stamps.specs.Keyed.{ties_are_equal, map_some, get-map_some}
use Rattle.cds_stamps.specs.Stamps.{stamp_cmp, stamp_exact, is_stamp, is_earlier, is_up_to}
use Rattle.cds_stamps.specs.Octets.{octets_cmp, octets_exact, is_octets}
use Rattle.cds_stamps.specs.Joins.{EachValue, get-join_maps}
use Rattle.cds_stamps.specs.Undos.{RaisesAt}
use Rattle.cell_names.specs.FullNames.{full_name_octets}
use Rattle.cell_names.specs.ChildPointers.{pointer_octets}
use Rattle.attr_sets.specs.declared.mark.ValueMark.{ValueMark}
use Rattle.attr_sets.specs.declared.cell.AttrCell.{AttrCell}
use Rattle.attr_sets.specs.Marks.{mark_cmp, later, mark_after_clear, present_at, absent_at}
use Rattle.attr_sets.specs.AttributeCells.{AttrMark, Cleared, Marked, cell_of, join_cells}
use Rattle.attr_sets.specs.CellPurges.{is_empty_cell, some_cell, mark_left, cell_left, purged_cell}
use Rattle.attr_sets.specs.CellLawProofs.{get-join_cells, get-cell_of, same_cell}
use Rattle.attr_sets.proofs.MarkPurgeLaws.{left, clear_after}
use Rattle.attr_sets.proofs.SomeCellLaws.{cell_left-some, some_cell-held, some_of-other}
use Rattle.directory.specs.declared.entry.Kind.{Kind}
use Rattle.directory.specs.declared.entry.Kind.TheVariants.{Link, Child, Object}
use Rattle.directory.specs.declared.entry.EntryCell.{EntryCell}
use Rattle.directory.specs.declared.deletions.What.{What}
use Rattle.directory.specs.declared.deletions.What.TheVariants.{Death, Clear, Absent}
use Rattle.directory.specs.declared.deletions.Deletion.{Deletion}
use Rattle.directory.specs.Applied.{LeavesOthers}
use Rattle.directory.specs.Entries.{Entries, join_entries, join_tables, join_tied, IsHeldCell, IsValidEntry, IsValidTable}
use Rattle.directory.specs.EntryLawProofs.{entry_join}
use Rattle.directory.specs.Kinds.{link_target, replicas}
use Rattle.directory.specs.Updates as change
use Rattle.directory.specs.Updates.{Change, Create, MakeLink, MakeChild, Delete, Add, Remove, Put, Repoint, changed_name}
use Rattle.directory.specs.Histories.{Birth, entry_of}
use Rattle.directory.specs.Shown.{Shown, marks_of, shown_dir}
use Rattle.directory.specs.Deletions.{is_at, is_absent, has_lost, is_lost, has_deletion, deleted_by}
use Rattle.directory.specs.Deletions.{set_at, change_at, cell_without, entry_without, without, is_deletion}
use Rattle.directory.specs.Purges.{is_dead_up_to, purged_entry, entry_left, purged_table}
use Rattle.directory.proofs.DeletionOrder.{deletion_exact}
use Rattle.directory.proofs.FragmentLaws.{entry_of-born, entry_of-deleted, entry_of-changed, changes, same_octets, same_stamp}

-- ---- joins

-- what holds of the greater of two that may be missing holds of one of them
of_one : {X : Type 0} (R : X → X → Ordering) (p : Option X → Bool) (x y : Option X) → p (maybe (greater R) x y) ≡ true → (p x ≡ true) ⊎ (p y ≡ true)
of_one R p None y h = inr h
of_one R p (Some x) None h = inl h
of_one R p (Some x) (Some y) h = at (is_lt (R x y)) h
  where
    at : (b : Bool) → p (Some (if b then y else x)) ≡ true → (p (Some x) ≡ true) ⊎ (p (Some y) ≡ true)
    at true h = inr h
    at false h = inl h

-- the clear of a cell, and its mark of a value, where the cell may be missing
abbrev clear_of : Option AttrCell → Option Stamp
clear_of = option_and_then (λ c. c.cleared)

abbrev mark_of : List ℕ → Option AttrCell → Option ValueMark
mark_of v = option_and_then (λ c. get c.values v)

-- a mark that is kept is absent where it was
absent_kept : (c : Option Stamp) (m : Option ValueMark) (s : Stamp) → is_absent (mark_after_clear c m) s ≡ true → is_absent m s ≡ true
absent_kept c None s h = h
absent_kept None (Some m) s h = h
absent_kept (Some c) (Some m) s h = at (is_earlier m.stamp c) h
  where
    at : (b : Bool) → is_absent (if b then None else Some m) s ≡ true → is_absent (Some m) s ≡ true
    at true h = cc (h)
    at false h = h

joined_clear : (x y : Option AttrCell) (s : Stamp) → is_at (clear_of (maybe join_cells x y)) s ≡ true
    → (is_at (clear_of x) s ≡ true) ⊎ (is_at (clear_of y) s ≡ true)
joined_clear None y s h = inr h
joined_clear (Some a) None s h = inl h
joined_clear (Some a) (Some b) s h = of_one stamp_cmp (λ c. is_at c s) a.cleared b.cleared h

joined_absent : (v : List ℕ) (x y : Option AttrCell) (s : Stamp) → is_absent (mark_of v (maybe join_cells x y)) s ≡ true
    → (is_absent (mark_of v x) s ≡ true) ⊎ (is_absent (mark_of v y) s ≡ true)
joined_absent v None y s h = inr h
joined_absent v (Some a) None s h = inl h
joined_absent v (Some a) (Some b) s h =
    of_one mark_cmp (λ m. is_absent m s) (get a.values v) (get b.values v)
    (absent_kept (join_cells a b).cleared (maybe later (get a.values v) (get b.values v)) s
    (ap (λ m. is_absent m s) (sym (get-join_cells a b v)) ∙ h))

-- entries of one birth
tied_lost : (a b : EntryCell) (s : Stamp) (w : What) → has_lost (join_tied a b) s w ≡ true → (has_lost a s w ≡ true) ⊎ (has_lost b s w ≡ true)
tied_lost a b s Death h = of_one (flip_args stamp_cmp) (λ x. is_at x s) a.death b.death h
tied_lost a b s (Clear n) h =
    joined_clear (get a.attrs n) (get b.attrs n) s
    (ap (λ c. is_at (clear_of c) s) (sym (get-join_maps nat_list_cmp_total octets_exact join_cells a.attrs b.attrs n)) ∙ h)
tied_lost a b s (Absent n v) h =
    joined_absent v (get a.attrs n) (get b.attrs n) s
    (ap (λ c. is_absent (mark_of v c) s) (sym (get-join_maps nat_list_cmp_total octets_exact join_cells a.attrs b.attrs n)) ∙ h)

-- what two entries together lost one of them lost
pub joined_lost : (a b : EntryCell) (s : Stamp) (w : What) → has_lost (join_entries a b) s w ≡ true → (has_lost a s w ≡ true) ⊎ (has_lost b s w ≡ true)
joined_lost a b s w h = at (stamp_cmp a.birth b.birth) h
  where
    at : (r : Ordering) → has_lost (elim r [ Less ↦ b | Equal ↦ join_tied a b | Greater ↦ a ]) s w ≡ true → (has_lost a s w ≡ true) ⊎ (has_lost b s w ≡ true)
    at Less h = inr h
    at Equal h = tied_lost a b s w h
    at Greater h = inl h

-- so it is where either may be missing
joined_some : (x y : Option EntryCell) (s : Stamp) (w : What) → is_lost (maybe join_entries x y) s w ≡ true → (is_lost x s w ≡ true) ⊎ (is_lost y s w ≡ true)
joined_some None y s w h = inr h
joined_some (Some a) None s w h = inl h
joined_some (Some a) (Some b) s w h = joined_lost a b s w h

-- a deletion of two tables together is one of either
pub joined_deletion : (m n : Entries) (d : Deletion) → has_deletion (join_tables m n) d ≡ true → (has_deletion m d ≡ true) ⊎ (has_deletion n d ≡ true)
joined_deletion m n d h =
    joined_some (get m d.name) (get n d.name) d.stamp d.what
    (ap (λ e. is_lost e d.stamp d.what) (sym (get-join_maps nat_list_cmp_total octets_exact join_entries m n d.name)) ∙ h)

-- a deletion of a table with an entry joined in is one of the table, or of that entry
pub raised_deletion : (m n : Entries) (k : List ℕ) (e : EntryCell) → RaisesAt join_entries m n k e → (d : Deletion) → has_deletion n d ≡ true
    → (has_deletion m d ≡ true) ⊎ ((d.name ≡ k) × (has_lost e d.stamp d.what ≡ true))
raised_deletion m n k e raised d h =
    ⊎_elim (λ own. inl own) (λ other. inr (at (is_octets d.name k) refl other))
    (joined_some (get m d.name) (if is_octets d.name k then Some e else None) d.stamp d.what
    (ap (λ e. is_lost e d.stamp d.what) (sym (raised d.name)) ∙ h))
  where
    at : (b : Bool) → is_octets d.name k ≡ b → is_lost (if b then Some e else None) d.stamp d.what ≡ true → (d.name ≡ k) × (has_lost e d.stamp d.what ≡ true)
    at true same h = (ties_are_equal octets_exact d.name k same, h)
    at false same h = cc (h)

-- where the other names have what they had, they have the deletions that they had
pub others_stay : (m n : Entries) (k : List ℕ) → LeavesOthers m n k → (d : Deletion) → d.name ≢ k → has_deletion n d ≡ has_deletion m d
others_stay m n k leaves d other = ap (λ e. is_lost e d.stamp d.what) (leaves d.name other)

-- a valid entry that is joined into a valid table leaves it valid
pub raised_valid : (m n : Entries) (k : List ℕ) (e : EntryCell) → IsValidTable m → IsValidEntry e → RaisesAt join_entries m n k e → IsValidTable n
raised_valid m n k e valid entry raised q =
    subst (λ x. IfSome x IsValidEntry) (sym (raised q))
    ((maybe_join entry_join).keeps (get m q) (if is_octets q k then Some e else None) (valid q) (if_there (is_octets q k)))
  where
    if_there : (b : Bool) → IfSome (if b then Some e else None) IsValidEntry
    if_there true = entry
    if_there false = tt

-- ---- updates

-- what was lost of an entry that has one attribute, and no death: the attribute's clear, or a value
-- of it
abbrev CellLost : List ℕ → AttrCell → Stamp → What → Type 0
CellLost a c s Death = ⊥
CellLost a c s (Clear b) = (b ≡ a) × (is_at c.cleared s ≡ true)
CellLost a c s (Absent b v) = (b ≡ a) × (is_absent (get c.values v) s ≡ true)

-- what is found in a map of one key is what is there
in_one : {X : Type 0} (p : Option X → Bool) (a : List ℕ) (x : X) (q : List ℕ) → p None ≡ false → p (get (insert {R = octets_cmp} empty a x) q) ≡ true
    → (q ≡ a) × (p (Some x) ≡ true)
in_one p a x q none h = at (is_octets q a) refl
    (ap p (ap (cond (is_octets q a) (Some x)) (sym (get-empty octets_cmp q)) ∙ sym (get-insert nat_list_cmp_total empty a x q)) ∙ h)
  where
    at : (b : Bool) → is_octets q a ≡ b → p (cond b (Some x) None) ≡ true → (q ≡ a) × (p (Some x) ≡ true)
    at true same h = (ties_are_equal octets_exact q a same, h)
    at false same h = cc (none, h)

one_lost : (birth : Stamp) (kind : Kind) (a : List ℕ) (c : AttrCell) (s : Stamp) (w : What)
    → has_lost (record { birth = birth; kind = kind; death = None; attrs = insert empty a c }) s w ≡ true → CellLost a c s w
one_lost birth kind a c s Death h = cc (h)
one_lost birth kind a c s (Clear b) h = in_one (λ c. is_at (clear_of c) s) a c b refl h
one_lost birth kind a c s (Absent b v) h = in_one (λ c. is_absent (mark_of v c) s) a c b refl h

none_lost : (birth : Stamp) (kind : Kind) (s : Stamp) (w : What)
    → has_lost (record { birth = birth; kind = kind; death = None; attrs = empty }) s w ≡ true → ⊥
none_lost birth kind s Death h = cc (h)
none_lost birth kind s (Clear b) h = cc (h, ap (λ c. is_at (clear_of c) s) (get-empty octets_cmp b))
none_lost birth kind s (Absent b v) h = cc (h, ap (λ c. is_absent (mark_of v c) s) (get-empty octets_cmp b))

-- a present value is not absent
not_absent : (c : Option Stamp) (b : Bool) (s r : Stamp) → is_absent (mark_after_clear c (maybe later (if b then Some (present_at s) else None) None)) r ≡ false
not_absent c false s r = refl
not_absent None true s r = refl
not_absent (Some c) true s r = at (is_earlier s c)
  where
    at : (b : Bool) → is_absent (if b then None else Some (present_at s)) r ≡ false
    at true = refl
    at false = refl

-- the entry e of an update has lost what the update deletes, and nothing else
abbrev Deletes : Change → Stamp → EntryCell → Type 0
Deletes u s e = (r : Stamp) (w : What) → has_lost e r w ≡ true → deleted_by u s ≡ Some (record { stamp = r; name = changed_name u; what = w })

-- the entry of one mark of a present value
value_lost : (a v : List ℕ) (s r : Stamp) (w : What) → CellLost a (cell_of (Marked v (present_at s) ∷ [])) r w → ⊥
value_lost a v s r Death h = h
value_lost a v s r (Clear b) h = cc (h.1)
value_lost a v s r (Absent b x) h =
    cc (h.1, ap (λ m. is_absent m r) (get-cell_of (Marked v (present_at s) ∷ []) x), not_absent None (is_octets x v) s r)

-- that of a clear, and of one with a present value
clear_lost : (a : List ℕ) (s r : Stamp) (w : What) → CellLost a (cell_of (Cleared s ∷ [])) r w → (w ≡ Clear a) × (s ≡ r)
clear_lost a s r Death h = absurd h
clear_lost a s r (Clear b) h = (ap Clear h.0, ties_are_equal stamp_exact s r h.1)
clear_lost a s r (Absent b x) h = cc (h.1, ap (λ m. is_absent m r) (get-cell_of (Cleared s ∷ []) x))

put_lost : (a v : List ℕ) (s r : Stamp) (w : What) → CellLost a (cell_of (Cleared s ∷ Marked v (present_at s) ∷ [])) r w → (w ≡ Clear a) × (s ≡ r)
put_lost a v s r Death h = absurd h
put_lost a v s r (Clear b) h = (ap Clear h.0, ties_are_equal stamp_exact s r h.1)
put_lost a v s r (Absent b x) h =
    cc (h.1, ap (λ m. is_absent m r) (get-cell_of (Cleared s ∷ Marked v (present_at s) ∷ []) x), not_absent (Some s) (is_octets x v) s r)

-- the entry of one mark of a value that is absent
removed_lost : (a v : List ℕ) (s r : Stamp) (w : What) → CellLost a (cell_of (Marked v (absent_at s) ∷ [])) r w → (w ≡ Absent a v) × (s ≡ r)
removed_lost a v s r Death h = absurd h
removed_lost a v s r (Clear b) h = cc (h.1)
removed_lost a v s r (Absent b x) h = at (is_octets x v) refl (ap (λ m. is_absent m r) (sym (get-cell_of (Marked v (absent_at s) ∷ []) x)) ∙ h.1)
  where
    at : (t : Bool) → is_octets x v ≡ t → is_absent (mark_after_clear None (maybe later (if t then Some (absent_at s) else None) None)) r ≡ true
        → (Absent b x ≡ Absent a v) × (s ≡ r)
    at true same p = ((λ i. Absent (h.0 i) (ties_are_equal octets_exact x v same i)), ties_are_equal stamp_exact s r p)
    at false same p = cc (p)

-- that of a death
died_lost : (n : List ℕ) (k : Kind) (c s r : Stamp) (w : What) → has_lost (record { birth = c; kind = k; death = Some s; attrs = empty }) r w ≡ true
    → deleted_by (Delete n) s ≡ Some (record { stamp = r; name = n; what = w })
died_lost n k c s r Death h = ap (λ s. Some (record { stamp = s; name = n; what = Death })) (ties_are_equal stamp_exact s r h)
died_lost n k c s r (Clear b) h = absurd (none_lost c k r (Clear b) h)
died_lost n k c s r (Absent b v) h = absurd (none_lost c k r (Absent b v) h)

-- a deletion in the entry n, by its other parts
abbrev deletion : List ℕ → Stamp → What → Option Deletion
deletion n s w = Some (record { stamp = s; name = n; what = w })

same_deletion : {s r : Stamp} {v w : What} (n : List ℕ) → (w ≡ v) × (s ≡ r) → deletion n s v ≡ deletion n r w
same_deletion n is = λ i. deletion n (is.1 i) (sym is.0 i)

-- the entry of one mark, or two, of one attribute
changed_some : (P : EntryCell → Type 0) (n : List ℕ) (k : Kind) (c : Stamp) (a : List ℕ) (x : AttrMark) (xs : List AttrMark)
    → P (record { birth = c; kind = k; death = None; attrs = insert empty a (cell_of (x ∷ xs)) })
    → IfSome (entry_of (Birth n k c ∷ changes n c a (x ∷ xs)) n) P
changed_some P n k c a x xs = subst (λ e. IfSome e P) (sym (entry_of-changed n k c a x xs))

-- what the entry of an update lost the update deletes
pub update_lost : (e : Option Shown) (u : Change) (s : Stamp) → IfSome (entry_of (marks_of e u s) (changed_name u)) (Deletes u s)
update_lost e (Create n) s =
    subst (λ e. IfSome e (Deletes (Create n) s)) (sym (entry_of-born n Object s)) (λ r w h. absurd (none_lost s Object r w h))
update_lost e (MakeLink n target) s =
    changed_some (Deletes (MakeLink n target) s) n Link s link_target (Marked (full_name_octets target) (present_at s)) [] (λ r w h.
    absurd (value_lost link_target (full_name_octets target) s r w (one_lost s Link link_target _ r w h)))
update_lost e (MakeChild n pointer) s =
    changed_some (Deletes (MakeChild n pointer) s) n Child s replicas (Marked (pointer_octets pointer) (present_at s)) [] (λ r w h.
    absurd (value_lost replicas (pointer_octets pointer) s r w (one_lost s Child replicas _ r w h)))
update_lost None (Delete n) s = tt
update_lost (Some e) (Delete n) s =
    subst (λ e. IfSome e (Deletes (Delete n) s)) (sym (entry_of-deleted n e.kind e.birth s)) (λ r w h. died_lost n e.kind e.birth s r w h)
update_lost None (Add n a v) s = tt
update_lost (Some e) (Add n a v) s =
    changed_some (Deletes (Add n a v) s) n e.kind e.birth a (Marked v (present_at s)) [] (λ r w h.
    absurd (value_lost a v s r w (one_lost e.birth e.kind a _ r w h)))
update_lost None (Remove n a v) s = tt
update_lost (Some e) (Remove n a v) s =
    changed_some (Deletes (Remove n a v) s) n e.kind e.birth a (Marked v (absent_at s)) [] (λ r w h.
    same_deletion n (removed_lost a v s r w (one_lost e.birth e.kind a _ r w h)))
update_lost None (Put n a v) s = tt
update_lost (Some e) (Put n a v) s =
    changed_some (Deletes (Put n a v) s) n e.kind e.birth a (Cleared s) (Marked v (present_at s) ∷ []) (λ r w h.
    same_deletion n (put_lost a v s r w (one_lost e.birth e.kind a _ r w h)))
update_lost None (change.Clear n a) s = tt
update_lost (Some e) (change.Clear n a) s =
    changed_some (Deletes (change.Clear n a) s) n e.kind e.birth a (Cleared s) [] (λ r w h.
    same_deletion n (clear_lost a s r w (one_lost e.birth e.kind a _ r w h)))
update_lost None (Repoint n master others) s = tt
update_lost (Some e) (Repoint n master others) s =
    let v = pointer_octets (record { dir = shown_dir e; master = master; others = others }) in
    changed_some (Deletes (Repoint n master others) s) n e.kind e.birth replicas (Cleared s) (Marked v (present_at s) ∷ []) (λ r w h.
    same_deletion n (put_lost replicas v s r w (one_lost e.birth e.kind replicas _ r w h)))

-- ---- without a deletion

-- what a map has at a key where it was changed
get-set_at : {X : Type 0} (m : FinMap octets_cmp X) (k : List ℕ) (x : Option X) (q : List ℕ) → get (set_at m k x) q ≡ cond (is_octets q k) x (get m q)
get-set_at m k None q = get-remove nat_list_cmp_total m k q
get-set_at m k (Some x) q = get-insert nat_list_cmp_total m k x q

-- what holds of the value that is set, and of each that was, holds of each value that is
set_by : {X : Type 0} (m : FinMap octets_cmp X) (k : List ℕ) (x : Option X) (P : List ℕ → Option X → Type 0)
    → P k x → ((q : List ℕ) → P q (get m q)) → (q : List ℕ) → P q (get (set_at m k x) q)
set_by m k x P here there q = subst (P q) (sym (get-set_at m k x q)) (at (is_octets q k) refl)
  where
    at : (b : Bool) → is_octets q k ≡ b → P q (cond b x (get m q))
    at true same = subst (λ q. P q x) (sym (ties_are_equal octets_exact q k same)) here
    at false apart = there q

-- what a changed map has at the key itself
pub get-changed : {X : Type 0} (m : FinMap octets_cmp X) (k : List ℕ) (f : X → Option X) → get (change_at m k f) k ≡ option_and_then f (get m k)
get-changed m k f = get-set_at m k (option_and_then f (get m k)) k ∙ ap (λ b. cond b (option_and_then f (get m k)) (get m k)) (same_octets k)

-- what is found in a cell that has something is found in the cell
in_some : (p : Option AttrCell → Bool) (c : AttrCell) → p None ≡ false → p (some_cell c) ≡ true → p (Some c) ≡ true
in_some p c none h = at (is_empty_cell c) h
  where
    at : (b : Bool) → p (if b then None else Some c) ≡ true → p (Some c) ≡ true
    at true h = cc (none, h)
    at false h = h

-- of a cell without one of its deletions nothing else is lost
cell_clear : (w : What) (c : AttrCell) (s : Stamp) → is_at (clear_of (cell_without w c)) s ≡ true → is_at c.cleared s ≡ true
cell_clear Death c s h = h
cell_clear (Clear a) c s h = cc (in_some (λ c. is_at (clear_of c) s) (record c { cleared = None }) refl h)
cell_clear (Absent a v) c s h = in_some (λ c. is_at (clear_of c) s) (record c { values = remove c.values v }) refl h

cell_mark : (w : What) (c : AttrCell) (v : List ℕ) (s : Stamp) → is_absent (mark_of v (cell_without w c)) s ≡ true → is_absent (get c.values v) s ≡ true
cell_mark Death c v s h = h
cell_mark (Clear a) c v s h = in_some (λ c. is_absent (mark_of v c) s) (record c { cleared = None }) refl h
cell_mark (Absent a x) c v s h = at (is_octets v x)
    (ap (λ m. is_absent m s) (sym (get-remove nat_list_cmp_total c.values x v))
    ∙ in_some (λ c. is_absent (mark_of v c) s) (record c { values = remove c.values x }) refl h)
  where
    at : (b : Bool) → is_absent (cond b None (get c.values v)) s ≡ true → is_absent (get c.values v) s ≡ true
    at true h = cc (h)
    at false h = h

-- what was lost of an entry without one of its deletions was lost of it
attrs_lost : (w : What) (a : List ℕ) (e : EntryCell) (s : Stamp) (v : What)
    → has_lost (record e { attrs = change_at e.attrs a (cell_without w) }) s v ≡ true → has_lost e s v ≡ true
attrs_lost w a e s Death h = h
attrs_lost w a e s (Clear b) h =
    set_by e.attrs a _ (λ q x. is_at (clear_of x) s ≡ true → is_at (clear_of (get e.attrs q)) s ≡ true)
    (at (get e.attrs a)) (λ q h. h) b h
  where
    at : (c : Option AttrCell) → is_at (clear_of (option_and_then (cell_without w) c)) s ≡ true → is_at (clear_of c) s ≡ true
    at None h = h
    at (Some c) h = cell_clear w c s h
attrs_lost w a e s (Absent b v) h =
    set_by e.attrs a _ (λ q x. is_absent (mark_of v x) s ≡ true → is_absent (mark_of v (get e.attrs q)) s ≡ true)
    (at (get e.attrs a)) (λ q h. h) b h
  where
    at : (c : Option AttrCell) → is_absent (mark_of v (option_and_then (cell_without w) c)) s ≡ true → is_absent (mark_of v c) s ≡ true
    at None h = h
    at (Some c) h = cell_mark w c v s h

entry_lost : (w : What) (e : Option EntryCell) (s : Stamp) (v : What) → is_lost (option_and_then (entry_without w) e) s v ≡ true → is_lost e s v ≡ true
entry_lost w None s v h = h
entry_lost Death (Some e) s v h = cc (h)
entry_lost (Clear a) (Some e) s v h = attrs_lost (Clear a) a e s v h
entry_lost (Absent a x) (Some e) s v h = attrs_lost (Absent a x) a e s v h

-- a deletion that a table has without d it has with d
pub without_fewer : (m : Entries) (d e : Deletion) → has_deletion (without m d) e ≡ true → has_deletion m e ≡ true
without_fewer m d e =
    set_by m d.name _ (λ q x. is_lost x e.stamp e.what ≡ true → is_lost (get m q) e.stamp e.what ≡ true)
    (entry_lost d.what (get m d.name) e.stamp e.what) (λ q h. h) e.name

-- and d is none of them
some_clear : (c : AttrCell) (s : Stamp) → c.cleared ≡ None → is_at (clear_of (some_cell c)) s ≡ false
some_clear c s none = at (is_empty_cell c)
  where
    at : (b : Bool) → is_at (clear_of (if b then None else Some c)) s ≡ false
    at true = refl
    at false = ap (λ x. is_at x s) none

some_mark : (c : AttrCell) (v : List ℕ) (s : Stamp) → get c.values v ≡ None → is_absent (mark_of v (some_cell c)) s ≡ false
some_mark c v s none = at (is_empty_cell c)
  where
    at : (b : Bool) → is_absent (mark_of v (if b then None else Some c)) s ≡ false
    at true = refl
    at false = ap (λ x. is_absent x s) none

entry_gone : (w : What) (e : Option EntryCell) (s : Stamp) → is_lost (option_and_then (entry_without w) e) s w ≡ false
entry_gone w None s = refl
entry_gone Death (Some e) s = refl
entry_gone (Clear a) (Some e) s = ap (λ c. is_at (clear_of c) s) (get-changed e.attrs a (cell_without (Clear a))) ∙ at (get e.attrs a)
  where
    at : (c : Option AttrCell) → is_at (clear_of (option_and_then (cell_without (Clear a)) c)) s ≡ false
    at None = refl
    at (Some c) = some_clear (record c { cleared = None }) s refl
entry_gone (Absent a v) (Some e) s = ap (λ c. is_absent (mark_of v c) s) (get-changed e.attrs a (cell_without (Absent a v))) ∙ at (get e.attrs a)
  where
    at : (c : Option AttrCell) → is_absent (mark_of v (option_and_then (cell_without (Absent a v)) c)) s ≡ false
    at None = refl
    at (Some c) =
        some_mark (record c { values = remove c.values v }) v s
        (get-remove nat_list_cmp_total c.values v v ∙ ap (λ b. cond b None (get c.values v)) (same_octets v))

-- so it is not had without itself
pub without_gone : (m : Entries) (d : Deletion) → has_deletion (without m d) d ≡ false
without_gone m d = ap (λ e. is_lost e d.stamp d.what) (get-changed m d.name (entry_without d.what)) ∙ entry_gone d.what (get m d.name) d.stamp

-- what a table has without d it has, and that is not d
pub without_has : (m : Entries) (d e : Deletion) → has_deletion (without m d) e ≡ true → (has_deletion m e ≡ true) × (is_deletion e d ≡ false)
without_has m d e h = (without_fewer m d e h, at (is_deletion e d) refl)
  where
    at : (b : Bool) → is_deletion e d ≡ b → is_deletion e d ≡ false
    at true same = cc (h, without_gone m d, ties_are_equal deletion_exact e d same)
    at false apart = apart

-- ---- what is purged

-- maps of which each value is purged alike
map_some-alike : {X Y : Type 0} (f : X → Option Y) (m n : FinMap octets_cmp X) → ((q : List ℕ) → option_and_then f (get n q) ≡ option_and_then f (get m q))
    → map_some {R = octets_cmp} f n ≡ map_some f m
map_some-alike f m n alike = same_map nat_list_cmp_total octets_exact (map_some f n) (map_some f m) (λ q.
    get-map_some nat_list_cmp_total octets_exact f n q ∙ alike q ∙ sym (get-map_some nat_list_cmp_total octets_exact f m q))

-- so it is where one value was set that is purged alike
map_some-set : {X Y : Type 0} (f : X → Option Y) (m : FinMap octets_cmp X) (k : List ℕ) (x : Option X)
    → option_and_then f x ≡ option_and_then f (get m k) → map_some {R = octets_cmp} f (set_at m k x) ≡ map_some f m
map_some-set f m k x alike =
    map_some-alike f m (set_at m k x) (set_by m k x (λ q x. option_and_then f x ≡ option_and_then f (get m q)) alike (λ q. refl))

-- what is stamped at most t is purged
early_clear : (t s : Stamp) (c : Option Stamp) → is_at c s ≡ true → is_up_to t s ≡ true → clear_after t c ≡ None
early_clear t s None had early = refl
early_clear t s (Some x) had early = ap (λ b. if b then None else Some x) (ap (is_up_to t) (ties_are_equal stamp_exact x s had) ∙ early)

early_death : (t s : Stamp) (x : Option Stamp) → is_at x s ≡ true → is_up_to t s ≡ true → is_dead_up_to t x ≡ true
early_death t s None had early = cc (had)
early_death t s (Some x) had early = ap (is_up_to t) (ties_are_equal stamp_exact x s had) ∙ early

early_mark : (t s : Stamp) (m : Option ValueMark) → is_absent m s ≡ true → is_up_to t s ≡ true → left t m ≡ None
early_mark t s None had early = refl
early_mark t s (Some m) had early = at m.present refl had
  where
    at : (b : Bool) → m.present ≡ b → (not b && is_stamp m.stamp s) ≡ true → left t (Some m) ≡ None
    at true is had = cc (had)
    at false is had =
        ap (λ b. if b || not (is_up_to t m.stamp) then Some m else None) is
        ∙ ap (λ b. if not b then Some m else None) (ap (is_up_to t) (ties_are_equal stamp_exact m.stamp s had) ∙ early)

-- a cell is purged alike without an early deletion
cell_clear-left : (t s : Stamp) (a : List ℕ) (c : Option AttrCell) → is_at (clear_of c) s ≡ true → is_up_to t s ≡ true
    → option_and_then (cell_left t) (option_and_then (cell_without (Clear a)) c) ≡ option_and_then (cell_left t) c
cell_clear-left t s a None had early = refl
cell_clear-left t s a (Some c) had early =
    cell_left-some t (record c { cleared = None })
    ∙ ap some_cell (λ i. record { cleared = sym (early_clear t s c.cleared had early) i; values = map_some (mark_left t) c.values })

cell_mark-left : (t s : Stamp) (a v : List ℕ) (c : Option AttrCell) → is_absent (mark_of v c) s ≡ true → is_up_to t s ≡ true
    → option_and_then (cell_left t) (option_and_then (cell_without (Absent a v)) c) ≡ option_and_then (cell_left t) c
cell_mark-left t s a v None had early = refl
cell_mark-left t s a v (Some c) had early =
    let values : map_some (mark_left t) (remove c.values v)
    ≡ map_some (mark_left t) c.values = map_some-set (mark_left t) c.values v None (sym (early_mark t s (get c.values v) had early)) in
    cell_left-some t (record c { values = remove c.values v }) ∙ ap some_cell (λ i. record { cleared = clear_after t c.cleared; values = values i })

-- an entry is purged alike without an early deletion
attrs_left : (t : Stamp) (w : What) (a : List ℕ) (e : EntryCell)
    → option_and_then (cell_left t) (option_and_then (cell_without w) (get e.attrs a)) ≡ option_and_then (cell_left t) (get e.attrs a)
    → entry_left t (record e { attrs = change_at e.attrs a (cell_without w) }) ≡ entry_left t e
attrs_left t w a e alike =
    let cells : map_some (cell_left t) (change_at e.attrs a (cell_without w))
    ≡ map_some (cell_left t) e.attrs = map_some-set (cell_left t) e.attrs a (option_and_then (cell_without w) (get e.attrs a)) alike in
    ap (λ c. if is_dead_up_to t e.death then None else Some (record e { attrs = c })) cells

entry_without-left : (t s : Stamp) (w : What) (e : Option EntryCell) → is_lost e s w ≡ true → is_up_to t s ≡ true
    → option_and_then (entry_left t) (option_and_then (entry_without w) e) ≡ option_and_then (entry_left t) e
entry_without-left t s w None had early = refl
entry_without-left t s Death (Some e) had early = sym (ap (λ b. if b then None else Some (purged_entry t e)) (early_death t s e.death had early))
entry_without-left t s (Clear a) (Some e) had early = attrs_left t (Clear a) a e (cell_clear-left t s a (get e.attrs a) had early)
entry_without-left t s (Absent a v) (Some e) had early = attrs_left t (Absent a v) a e (cell_mark-left t s a v (get e.attrs a) had early)

-- a table without one of its deletions that is stamped at most t is purged up to t as the table is
pub purged_without : (m : Entries) (d : Deletion) (t : Stamp) → has_deletion m d ≡ true → is_up_to t d.stamp ≡ true
    → purged_table t (without m d) ≡ purged_table t m
purged_without m d t had early =
    map_some-set (entry_left t) m d.name (option_and_then (entry_without d.what) (get m d.name))
    (entry_without-left t d.stamp d.what (get m d.name) had early)

-- ---- of what is purged nothing is left out

-- a map of which each value stays
map_some-stays : {X : Type 0} (f : X → Option X) (m : FinMap octets_cmp X) → ((q : List ℕ) → option_and_then f (get m q) ≡ get m q)
    → map_some {R = octets_cmp} f m ≡ m
map_some-stays f m stays =
    same_map nat_list_cmp_total octets_exact (map_some f m) m (λ q. get-map_some nat_list_cmp_total octets_exact f m q ∙ stays q)

-- what has no deletion up to t
late_clear : (t : Stamp) (c : Option Stamp) → ((s : Stamp) → is_at c s ≡ true → is_up_to t s ≡ false) → clear_after t c ≡ c
late_clear t None late = refl
late_clear t (Some c) late = ap (λ b. if b then None else Some c) (late c (same_stamp c))

late_death : (t : Stamp) (c : Option Stamp) → ((s : Stamp) → is_at c s ≡ true → is_up_to t s ≡ false) → is_dead_up_to t c ≡ false
late_death t None late = refl
late_death t (Some c) late = late c (same_stamp c)

late_mark : (t : Stamp) (m : Option ValueMark) → ((s : Stamp) → is_absent m s ≡ true → is_up_to t s ≡ false) → left t m ≡ m
late_mark t None late = refl
late_mark t (Some m) late = at m.present refl
  where
    at : (b : Bool) → m.present ≡ b → (if m.present || not (is_up_to t m.stamp) then Some m else None) ≡ Some m
    at true is = ap (λ b. if b || not (is_up_to t m.stamp) then Some m else None) is
    at false is =
        ap (λ b. if b || not (is_up_to t m.stamp) then Some m else None) is
        ∙ ap (λ b. if not b then Some m else None) (late m.stamp (ap (λ b. not b && is_stamp m.stamp m.stamp) is ∙ same_stamp m.stamp))

late_cell : (t : Stamp) (c : Option AttrCell) → IfSome c IsHeldCell → ((s : Stamp) → is_at (clear_of c) s ≡ true → is_up_to t s ≡ false)
    → ((v : List ℕ) (s : Stamp) → is_absent (mark_of v c) s ≡ true → is_up_to t s ≡ false) → option_and_then (cell_left t) c ≡ c
late_cell t None held clears marks = refl
late_cell t (Some c) held clears marks =
    ap some_cell (same_cell (purged_cell t c) c (late_clear t c.cleared clears) (λ v.
    get-map_some nat_list_cmp_total octets_exact (mark_left t) c.values v ∙ late_mark t (get c.values v) (marks v)))
    ∙ some_of-other c held.1

late_entry : (t : Stamp) (e : Option EntryCell) → IfSome e IsValidEntry → ((s : Stamp) (w : What) → is_lost e s w ≡ true → is_up_to t s ≡ false)
    → option_and_then (entry_left t) e ≡ e
late_entry t None valid late = refl
late_entry t (Some e) valid late =
    let cells : map_some (cell_left t) e.attrs ≡ e.attrs = map_some-stays (cell_left t) e.attrs (λ a.
    late_cell t (get e.attrs a) (valid a) (λ s. late s (Clear a)) (λ v s. late s (Absent a v))) in
    ap (λ b. if b then None else Some (purged_entry t e)) (late_death t e.death (λ s. late s Death)) ∙ ap (λ c. Some (record e { attrs = c })) cells

-- a valid table that has no deletion up to t is purged already
pub purged_none : (m : Entries) (t : Stamp) → IsValidTable m → ((d : Deletion) → has_deletion m d ≡ true → is_up_to t d.stamp ≡ false)
    → purged_table t m ≡ m
purged_none m t valid late = map_some-stays (entry_left t) m (λ n.
    late_entry t (get m n) (valid n) (λ s w. late (record { stamp = s; name = n; what = w })))

-- ---- valid tables

-- a map of valid values, of which one was set that is valid if there is one
pub each_set : {X : Type 0} (V : X → Type 0) (m : FinMap octets_cmp X) (k : List ℕ) (x : Option X) → IfSome x V → EachValue V m → EachValue V (set_at m k x)
each_set V m k x here each = set_by m k x (λ q x. IfSome x V) here each

cell_without-held : (w : What) (c : Option AttrCell) → IfSome c IsHeldCell → IfSome (option_and_then (cell_without w) c) IsHeldCell
cell_without-held w None held = tt
cell_without-held Death (Some c) held = held
cell_without-held (Clear a) (Some c) held = some_cell-held (record c { cleared = None }) (λ v. at (get c.values v))
  where
    at : (m : Option ValueMark) → mark_after_clear None m ≡ m
    at None = refl
    at (Some m) = refl
cell_without-held (Absent a v) (Some c) held =
    some_cell-held (record c { values = remove c.values v })
    (set_by c.values v None (λ q m. mark_after_clear c.cleared m ≡ m) refl held.0)

entry_without-valid : (w : What) (e : Option EntryCell) → IfSome e IsValidEntry → IfSome (option_and_then (entry_without w) e) IsValidEntry
entry_without-valid w None valid = tt
entry_without-valid Death (Some e) valid = tt
entry_without-valid (Clear a) (Some e) valid =
    each_set IsHeldCell e.attrs a (option_and_then (cell_without (Clear a)) (get e.attrs a)) (cell_without-held (Clear a) (get e.attrs a) (valid a)) valid
entry_without-valid (Absent a v) (Some e) valid =
    each_set IsHeldCell e.attrs a (option_and_then (cell_without (Absent a v)) (get e.attrs a)) (cell_without-held (Absent a v) (get e.attrs a) (valid a)) valid

-- a valid table is valid without a deletion
pub without_valid : (m : Entries) (d : Deletion) → IsValidTable m → IsValidTable (without m d)
without_valid m d valid =
    each_set IsValidEntry m d.name (option_and_then (entry_without d.what) (get m d.name)) (entry_without-valid d.what (get m d.name) (valid d.name)) valid
