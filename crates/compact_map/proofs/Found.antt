-- Entries in order, with the place of a key among them: what the key has, and what an edit at its
-- place is to the map that they are.
use Rattle.std.proofs.Common.{◌≡◌, ℕ, zero, suc, ◌≤◌, ◌<◌, List, [], ◌∷◌, length, get_or, set, refl, sym, ap, ◌∙◌, arith, inl}
use Rattle.std.proofs.Common.{Some, None, Result, Ok, Err, OnErr}
use Rattle.std.specs.Prelude.{slice_get}
use Rattle.std.specs.declared.cmp.Ordering.{Ordering}
use Rattle.std.specs.declared.cmp.Ordering.TheVariants.{Less}
use Rattle.std.specs.Cmp.{IsTotalOrder}
use Rattle.std.specs.List.{insert, remove}
use Rattle.std.specs.Map.{values_of, set_value, remove_entry}
use Rattle.std.specs.BTreeMap.{BTreeMap, is_at, insert_entry}
use Rattle.std_collections.specs.BTreeMap.Comparable.{le_lt_trans}
use Rattle.std_collections.specs.Layout.BTreeMap.{btree_map, seek}
use Rattle.std_collections.specs.Layout.Columns.{set_value_at}
use Rattle.std_collections.proofs.Entries.{set_value_none}
use Rattle.std_collections.proofs.Pairwise.{Pairwise-remove, from_sorted, to_sorted}
use Rattle.std_collections.proofs.Seek.{seek-Ok, seek_err, found_at, missing_at, insert_entry-Ok, insert_entry_err, sorted_insert}
use Rattle.std_collections.proofs.TreeMap.Lookup.{updates_remove, writes_through, absent, Updates-insert}
use Rattle.compact_map.specs.MapEntries.{get, IsOrdered, Updates, WritesThrough}

-- what holds in any case holds at an `Err`
pub on_err : {A E P : Type 0} (r : Result A E) → P → OnErr r P
on_err (Ok x) p = tt
on_err (Err e) p = p

-- a tree of these entries, for what std has of trees
abbrev tree : {K X : Type 0} → List (K × X) → BTreeMap K X
tree es = btree_map es (inl tt)

-- the value at a place
value_at : {K X : Type 0} (es : List (K × X)) (i : ℕ) (e : K × X) → i < length es → e ≡ get_or es i e → slice_get (values_of es) i ≡ Some e.1
value_at [] i e l is = absurd (omega arith)
value_at (x ∷ es) zero e l is = ap (λ x. Some x.1) (sym is)
value_at (x ∷ es) (suc i) e l is = value_at es i e (omega arith) is

-- an entry that is written with the key that it had
set_same_key : {K X : Type 0} (es : List (K × X)) (i : ℕ) (e : K × X) (w : X) → e ≡ get_or es i e → set es i (e.0, w) ≡ set_value_at es i w
set_same_key [] i e w is = refl
set_same_key (x ∷ es) zero e w is = ap (λ x. (x.0, w) ∷ es) is
set_same_key (x ∷ es) (suc i) e w is = ap (λ l. x ∷ l) (set_same_key es i e w is)

module _ {K X : Type 0} {cmp : K → K → Ordering} (o : IsTotalOrder cmp) (k : K) (es : List (K × X)) where
  -- the key is at the place i
  module _ (i : ℕ) (place : Ok i ≡ seek (cmp k) es) where
    pub in_range : i < length es
    in_range = (seek-Ok (cmp k) es i (sym place)).0

    pub value_there : (e : K × X) → e ≡ get_or es i e → Some e.1 ≡ get cmp es k
    value_there e is = sym ((found_at (cmp k) es i (sym place)).value ∙ value_at es i e in_range is)

    pub removed : remove es i ≡ remove_entry (is_at (cmp k)) es
    removed = (found_at (cmp k) es i (sym place)).removes

    module _ (e : K × X) (is : e ≡ get_or es i e) (w : X) where
      pub written : set es i (e.0, w) ≡ set_value (is_at (cmp k)) es w
      written = set_same_key es i e w is ∙ (found_at (cmp k) es i (sym place)).writes w

      pub put_over : set es i (e.0, w) ≡ insert_entry cmp es k w
      put_over = set_same_key es i e w is ∙ insert_entry-Ok cmp k w es i (sym place)

    module _ (s : IsOrdered cmp es) where
      pub removed_ordered : IsOrdered cmp (remove es i)
      removed_ordered = to_sorted cmp _ (Pairwise-remove (λ x y. cmp x y ≡ Less) es i (from_sorted cmp _ s))

      pub removed_updates : Updates cmp es (remove es i) k None
      removed_updates = let u = updates_remove o (cmp k) (o.congr k) (tree es) (tree (remove es i)) s removed in (u.0, u.1)

      module _ (e : K × X) (is : e ≡ get_or es i e) (w : X) where
        pub writes : WritesThrough cmp (cmp k) es w (set es i (e.0, w))
        writes =
            let t = writes_through o (cmp k) (o.congr k) (tree es) (tree (set es i (e.0, w))) s w (written e is w) in
            (t.0, t.1, t.2, λ there. let u = t.3 there in (u.0, u.1), t.4)

        pub put_over_ordered : IsOrdered cmp (set es i (e.0, w))
        put_over_ordered = writes.4

        pub put_over_updates : Updates cmp es (set es i (e.0, w)) k (Some w)
        put_over_updates = writes.3 (found_at (cmp k) es i (sym place)).there

  -- the key is none of theirs, and would go to the place i
  module _ (s : IsOrdered cmp es) (i : ℕ) (place : Err i ≡ seek (cmp k) es) where
    pub gap_in_range : i ≤ length es
    gap_in_range = (seek_err (cmp k) es i (sym place)).0

    pub none_there : None ≡ get cmp es k
    none_there = (absent (cmp k) (le_lt_trans o k) (tree es) i s place).1

    pub none_removed : es ≡ remove_entry (is_at (cmp k)) es
    none_removed = (absent (cmp k) (le_lt_trans o k) (tree es) i s place).2

    pub none_removed_updates : Updates cmp es es k None
    none_removed_updates = let u = updates_remove o (cmp k) (o.congr k) (tree es) (tree es) s none_removed in (u.0, u.1)

    module _ (w : X) where
      pub none_written : WritesThrough cmp (cmp k) es w es
      none_written =
          let same = sym (set_value_none (is_at (cmp k)) es w (missing_at (cmp k) (le_lt_trans o k) es i s (sym place))) in
          let t = writes_through o (cmp k) (o.congr k) (tree es) (tree es) s w same in
          (t.0, t.1, t.2, λ there. let u = t.3 there in (u.0, u.1), t.4)

      pub put_in : insert es i (k, w) ≡ insert_entry cmp es k w
      put_in = insert_entry_err cmp k w es i (sym place)

      pub put_in_ordered : IsOrdered cmp (insert es i (k, w))
      put_in_ordered = sorted_insert cmp k w o es i s (sym place)

      pub put_in_updates : Updates cmp es (insert es i (k, w)) k (Some w)
      put_in_updates = let u = Updates-insert o k w (tree es) (tree (insert es i (k, w))) i s place refl in (u.0, u.1)
