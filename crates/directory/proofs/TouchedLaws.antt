-- What an update may undo: each deletion that it does not touch the table still has, and it adds
-- none such to the index.
use Rattle.std.proofs.Common.{◌≡◌, ℕ, Bool, true, false, cond, List, [], ◌∷◌, Option, Some, None, refl, sym, ap, subst, ◌∙◌}
use Rattle.std.specs.Prelude.{◌≢◌, ◌&&◌, is_none, if◌then◌else◌, IfSome}
use Rattle.std.specs.Option.{option_and_then, IsSomeAnd}
use Rattle.std.specs.FinMap.{get, empty, insert, get-empty, get-insert}
use Rattle.std.specs.Cmp.Lexicographic.{nat_list_cmp_total}
use Rattle.std.proofs.lemmas.Bool.{false≢true}
use Rattle.cds_stamps.specs.declared.stamp.Stamp.{Stamp}
use Rattle.cds_stamps.specs.Semilattice.{maybe}
use Rattle.cds_stamps.specs.Keyed.{ties_are_equal}
use Rattle.cds_stamps.specs.Octets.{octets_cmp, octets_exact, is_octets}
use Rattle.cds_stamps.specs.Joins.{get-join_maps}
use Rattle.cds_stamps.specs.Undos.{RaisesAt}
use Rattle.attr_sets.specs.declared.mark.ValueMark.{ValueMark}
use Rattle.attr_sets.specs.declared.cell.AttrCell.{AttrCell}
use Rattle.attr_sets.specs.Marks.{mark_after_clear, later, present_at, absent_at}
use Rattle.attr_sets.specs.AttributeCells.{Marked, cell_of, join_cells, IsValidCell}
use Rattle.attr_sets.specs.CellLawProofs.{get-join_cells, get-cell_of}
use Rattle.directory.specs.declared.entry.EntryCell.{EntryCell}
use Rattle.directory.specs.declared.deletions.What.{What}
use Rattle.directory.specs.declared.deletions.What.TheVariants.{Death, Clear, Absent}
use Rattle.directory.specs.declared.deletions.Deletion.{Deletion}
use Rattle.directory.specs.declared.deletions.Deletions.{Deletions}
use Rattle.directory.specs.Applied.{changed_entry, TakesIn, LeavesOthers}
use Rattle.directory.specs.Deletions.{is_at, is_absent, has_lost, is_lost, has_deletion, deleted_by}
use Rattle.directory.specs.Entries.{Entries, join_entries, join_tied, IsHeldCell, IsValidEntry, IsValidTable}
use Rattle.directory.specs.Histories.{Attr, entry_of}
use Rattle.directory.specs.IndexWords.{AddsOnly, BeginsWellBeside, IsIndexed, is_absence, may_undo, touches}
use Rattle.directory.specs.Shown.{shown_in, shown_entry, face_of, leads, with_birth, marks_of}
use Rattle.directory.specs.Updates as change
use Rattle.directory.specs.Updates.{Change, Create, MakeLink, MakeChild, Delete, Add, Remove, Put, Repoint, changed_name}
use Rattle.directory.proofs.Applying.{tied_joins}
use Rattle.directory.proofs.DeletionLaws.{others_stay}
use Rattle.directory.proofs.FragmentLaws.{entry_of-changed, same_octets}

-- ---- entries

-- with nothing joined in
alone : {X : Type 0} (f : X → X → X) (x : Option X) → maybe f x None ≡ x
alone f None = refl
alone f (Some x) = refl

-- one mark of a value joined into a valid entry
module _ (a v : List ℕ) (mark : ValueMark) where
  abbrev cell : AttrCell
  cell = cell_of (Marked v mark ∷ [])

  -- leaves the marks of the other values
  other_mark : (c : AttrCell) (w : List ℕ) → IsValidCell c → is_octets w v ≡ false → get (join_cells c cell).values w ≡ get c.values w
  other_mark c w valid apart =
      let clear : (join_cells c cell).cleared ≡ c.cleared = alone _ c.cleared in
      let none : get cell.values w ≡ None = get-cell_of (Marked v mark ∷ []) w ∙ ap (λ b. mark_after_clear None (maybe later (if b then Some mark else None) None)) apart in
      get-join_cells c cell w
      ∙ (λ i. mark_after_clear (clear i) (maybe later (get c.values w) (none i)))
      ∙ ap (mark_after_clear c.cleared) (alone later (get c.values w))
      ∙ valid w

  joined_at : (own : EntryCell) (b : List ℕ)
      → get (join_tied own (changed_entry own a (Marked v mark ∷ []))).attrs b ≡ maybe join_cells (get own.attrs b) (cond (is_octets b a) (Some cell) None)
  joined_at own b =
      get-join_maps nat_list_cmp_total octets_exact join_cells own.attrs (insert empty a cell) b
      ∙ ap (maybe join_cells (get own.attrs b))
      (get-insert nat_list_cmp_total empty a cell b ∙ ap (cond (is_octets b a) (Some cell)) (get-empty octets_cmp b))

  -- and what else was lost
  tied_still : (own : EntryCell) (s : Stamp) (w : What) → IsValidEntry own → is_absence a v w ≡ false → has_lost own s w ≡ true
      → has_lost (join_tied own (changed_entry own a (Marked v mark ∷ []))) s w ≡ true
  tied_still own s Death valid apart h = ap (λ x. is_at x s) (alone _ own.death) ∙ h
  tied_still own s (Clear b) valid apart h =
      ap (λ c. is_at (option_and_then (λ c. c.cleared) c) s) (joined_at own b) ∙ at (get own.attrs b) (is_octets b a) h
    where
      at : (c : Option AttrCell) (t : Bool) → is_at (option_and_then (λ c. c.cleared) c) s ≡ true
          → is_at (option_and_then (λ c. c.cleared) (maybe join_cells c (cond t (Some cell) None))) s ≡ true
      at None t h = cc (h)
      at (Some c) true h = ap (λ x. is_at x s) (alone _ c.cleared) ∙ h
      at (Some c) false h = h
  tied_still own s (Absent b w) valid apart h =
      ap (λ c. is_absent (option_and_then (λ c. get c.values w) c) s) (joined_at own b) ∙ at (get own.attrs b) (is_octets b a) (valid b) apart h
    where
      at : (c : Option AttrCell) (t : Bool) → IfSome c IsHeldCell → (t && is_octets w v) ≡ false
          → is_absent (option_and_then (λ c. get c.values w) c) s ≡ true
          → is_absent (option_and_then (λ c. get c.values w) (maybe join_cells c (cond t (Some cell) None))) s ≡ true
      at None t held apart h = cc (h)
      at (Some c) true held apart h = ap (λ m. is_absent m s) (other_mark c w held.0 apart) ∙ h
      at (Some c) false held apart h = h

  entry_still : (own : EntryCell) (s : Stamp) (w : What) → IsValidEntry own → is_absence a v w ≡ false → has_lost own s w ≡ true
      → has_lost (join_entries own (changed_entry own a (Marked v mark ∷ []))) s w ≡ true
  entry_still own s w valid apart h =
      ap (λ e. has_lost e s w) (tied_joins own (changed_entry own a (Marked v mark ∷ [])) refl) ∙ tied_still own s w valid apart h

  -- ---- tables

  -- so it is of what a name has
  value_still : (m n : Entries) (k : List ℕ) (s : Stamp) (w : What) → IsValidTable m → is_absence a v w ≡ false
      → TakesIn m n k (with_birth k (shown_in m k) (λ x. Attr k x.birth a (Marked v mark) ∷ []))
      → is_lost (get m k) s w ≡ true → is_lost (get n k) s w ≡ true
  value_still m n k s w valid apart takes h = by_entry (get m k) refl (valid k) takes h
    where
      by_live : (own : EntryCell) (b : Bool) → get m k ≡ Some own → IsValidEntry own
          → IsSomeAnd (entry_of (with_birth k (if b then Some (face_of own) else None) (λ x. Attr k x.birth a (Marked v mark) ∷ [])) k)
          (λ e. IsValidEntry own → RaisesAt join_entries m n k e)
          → has_lost own s w ≡ true → is_lost (get n k) s w ≡ true
      by_live own false is valid takes h = absurd takes
      by_live own true is valid takes h =
          let e : EntryCell = changed_entry own a (Marked v mark ∷ []) in
          let raises : IsValidEntry own → RaisesAt join_entries m n k e =
          subst (λ x. IsSomeAnd x (λ e. IsValidEntry own → RaisesAt join_entries m n k e)) (entry_of-changed k own.kind own.birth a (Marked v mark) []) takes in
          ap (λ e. is_lost e s w)
          (raises valid k ∙ ap (λ b. maybe join_entries (get m k) (if b then Some e else None)) (same_octets k) ∙ ap (λ x. maybe join_entries x (Some e)) is)
          ∙ entry_still own s w valid apart h

      by_entry : (x : Option EntryCell) → get m k ≡ x → IfSome x IsValidEntry
          → IsSomeAnd (entry_of (with_birth k (option_and_then shown_entry x) (λ x. Attr k x.birth a (Marked v mark) ∷ [])) k)
          (λ e. IfSome x IsValidEntry → RaisesAt join_entries m n k e)
          → is_lost x s w ≡ true → is_lost (get n k) s w ≡ true
      by_entry None is valid takes h = cc (h)
      by_entry (Some own) is valid takes h = by_live own (is_none own.death && leads own.kind (face_of own).values) is valid takes h

-- what the entry of an update has lost, and the update cannot undo, it has lost still
own_still : (m n : Entries) (u : Change) (r s : Stamp) (w : What) → IsValidTable m
    → TakesIn m n (changed_name u) (marks_of (shown_in m (changed_name u)) u r) → may_undo u w ≡ false
    → is_lost (get m (changed_name u)) s w ≡ true → is_lost (get n (changed_name u)) s w ≡ true
own_still m n (Add k a v) r s w valid takes apart h = value_still a v (present_at r) m n k s w valid apart takes h
own_still m n (Remove k a v) r s w valid takes apart h = value_still a v (absent_at r) m n k s w valid apart takes h
own_still m n u r s w valid takes apart h = cc (apart)

-- a deletion of a valid table that an update does not touch is one of the table with its marks
pub update_spares : (m n : Entries) (u : Change) (r : Stamp) → IsValidTable m → LeavesOthers m n (changed_name u)
    → TakesIn m n (changed_name u) (marks_of (shown_in m (changed_name u)) u r)
    → (d : Deletion) → touches u d ≡ false → has_deletion m d ≡ true → has_deletion n d ≡ true
update_spares m n u r valid leaves takes d apart h = at (is_octets d.name (changed_name u)) refl apart
  where
    at : (b : Bool) → is_octets d.name (changed_name u) ≡ b → (b && may_undo u d.what) ≡ false → has_deletion n d ≡ true
    at true same apart =
        let own : d.name ≡ changed_name u = ties_are_equal octets_exact d.name (changed_name u) same in
        subst (λ q. is_lost (get n q) d.stamp d.what ≡ true) (sym own)
        (own_still m n u r d.stamp d.what valid takes apart (subst (λ q. is_lost (get m q) d.stamp d.what ≡ true) own h))
    at false other apart =
        others_stay m n (changed_name u) leaves d (λ same.
        false≢true (sym other ∙ ap (λ q. is_octets q (changed_name u)) same ∙ same_octets (changed_name u)))
        ∙ h

-- ---- the index

-- what an update deletes it touches
deleted_touched : (u : Change) (s : Stamp) → IfSome (deleted_by u s) (λ d. touches u d ≡ true)
deleted_touched (Create n) s = tt
deleted_touched (MakeLink n target) s = tt
deleted_touched (MakeChild n pointer) s = tt
deleted_touched (Delete n) s = ap (λ b. b && true) (same_octets n)
deleted_touched (Add n a v) s = tt
deleted_touched (Remove n a v) s = λ i. same_octets n i && (same_octets a i && same_octets v i)
deleted_touched (Put n a v) s = ap (λ b. b && true) (same_octets n)
deleted_touched (change.Clear n a) s = ap (λ b. b && true) (same_octets n)
deleted_touched (Repoint n master others) s = ap (λ b. b && true) (same_octets n)

-- what comes first and was not touched
pub begins_beside : (x y : Deletions) (m n : Entries) (u : Change) (s : Stamp) → AddsOnly (deleted_by u s) x y
    → ((d : Deletion) → touches u d ≡ false → has_deletion m d ≡ true → has_deletion n d ≡ true) → IsIndexed x m → BeginsWellBeside u y n
begins_beside x y m n u s adds stays i d apart h least =
    stays d apart (i.first d (sym (adds.1 d other) ∙ h) (λ e has. least e (adds.0 e has)))
  where
    other : deleted_by u s ≢ Some d
    other is = false≢true (sym apart ∙ subst (λ o. IfSome o (λ d. touches u d ≡ true)) is (deleted_touched u s))

-- where nothing was changed
pub nothing_changed : (m n : Entries) (u : Change) → n ≡ m
    → (d : Deletion) → touches u d ≡ false → has_deletion m d ≡ true → has_deletion n d ≡ true
nothing_changed m n u same d apart h = ap (λ m. has_deletion m d) same ∙ h
