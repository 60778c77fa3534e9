-- What is taken up to a stamp and then dropped up to it: the same as what is taken beside what was
-- left.
use Rattle.std.proofs.Common.{◌≡◌, Bool, true, false, List, ◌++◌, Option, Some, None, refl, sym, ap, subst, ◌∙◌, arith}
use Rattle.std.specs.Prelude.{◌&&◌, ◌||◌, not, if◌then◌else◌, IfSome}
use Rattle.std.specs.FinMap.{FinMap, get, same_map}
use Rattle.std.specs.Option.{option_and_then, option_map}
use Rattle.std.specs.declared.cmp.Ordering.{Ordering}
use Rattle.std.specs.declared.cmp.Ordering.TheVariants.{Less, Equal, Greater}
use Rattle.std.specs.Ordering.{is_lt}
use Rattle.std.specs.Cmp.{IsTotalOrder, tied_itself}
use Rattle.std.specs.Cmp.Lexicographic.{nat_list_cmp_total}
use Rattle.cds_stamps.specs.declared.stamp.Stamp.{Stamp}
use Rattle.cds_stamps.specs.Semilattice.{maybe}
use Rattle.cds_stamps.specs.Keyed.{ties_are_equal, map_some, get-map_some, get-merge}
use Rattle.cds_stamps.specs.Joins.{EachValue, join_maps, get-join_maps}
use Rattle.cds_stamps.specs.Stamps.{stamp_cmp, stamp_total, stamp_exact, is_stamp, is_up_to, later_stamp}
use Rattle.cds_stamps.specs.Octets.{octets_cmp, octets_exact}
use Rattle.attr_sets.specs.declared.cell.AttrCell.{AttrCell}
use Rattle.attr_sets.specs.AttributeCells.{join_cells, IsValidCell}
use Rattle.attr_sets.specs.CellPurges.{cell_left, cell_after}
use Rattle.attr_sets.proofs.SomeCellLaws.{cell_left-joined}
use Rattle.directory.specs.declared.entry.EntryCell.{EntryCell}
use Rattle.directory.specs.Entries.{Entries, join_tied, join_entries, IsHeldCell, IsValidEntry, IsValidTable}
use Rattle.directory.specs.Histories.{Mark, Born, birth_of, entry_at, CanMerge, IsAfterBirth}
use Rattle.directory.specs.Purges.{purged_entry, is_dead_up_to, entry_left, purged_table, purged_entries, after_entry}
use Rattle.directory.specs.Purges.{take_entry, take_table}
use Rattle.directory.proofs.KnownLaws.{dead_after_birth}
use Rattle.directory.proofs.PurgeLaws.{entry_left-after, not_dead, purged-again, purged-valid}
use Rattle.directory.proofs.TakeLaws.{dead_joined, joined_less, joined_equal, joined_greater, none_right, entry_left_by, get-purged, taken_table}

-- ---- attributes

valid_cell : (c : Option AttrCell) → IfSome c IsHeldCell → IfSome c IsValidCell
valid_cell None v = tt
valid_cell (Some c) v = v.0

attrs_dropped : (t : Stamp) (a b : FinMap octets_cmp AttrCell) → EachValue IsHeldCell a → EachValue IsHeldCell b
    → map_some (cell_left t) (join_maps join_cells a (map_some (cell_after t) b)) ≡ join_maps join_cells (map_some (cell_left t) a) (map_some (cell_after t) b)
attrs_dropped t a b p q =
    let later = map_some (cell_after t) b in
    let mine = map_some (cell_left t) a in
    same_map nat_list_cmp_total octets_exact (map_some (cell_left t) (join_maps join_cells a later)) (join_maps join_cells mine later) (λ k.
    get-map_some nat_list_cmp_total octets_exact (cell_left t) (join_maps join_cells a later) k
    ∙ ap (option_and_then (cell_left t)) (get-join_maps nat_list_cmp_total octets_exact join_cells a later k)
    ∙ ap (λ x. option_and_then (cell_left t) (maybe join_cells (get a k) x)) (get-map_some nat_list_cmp_total octets_exact (cell_after t) b k)
    ∙ cell_left-joined t (get a k) (get b k) (valid_cell (get a k) (p k)) (valid_cell (get b k) (q k))
    ∙ sym (get-join_maps nat_list_cmp_total octets_exact join_cells mine later k
    ∙ ap (λ x. maybe join_cells x (get later k)) (get-map_some nat_list_cmp_total octets_exact (cell_left t) a k)
    ∙ ap (maybe join_cells (option_and_then (cell_left t) (get a k))) (get-map_some nat_list_cmp_total octets_exact (cell_after t) b k)))

-- ---- entries

-- what died up to t was born up to t
abbrev pub IsOrdered : Stamp → EntryCell → Type 0
IsOrdered t o = is_dead_up_to t o.death ≡ true → is_up_to t o.birth ≡ true

born_before : {K : Type 0} {R : K → K → Ordering} → IsTotalOrder R → (t b d : K) → not (is_lt (R t b)) ≡ true → not (is_lt (R t d)) ≡ false → R b d ≡ Less
born_before o t b d early late = grind (arith, early, late, o.trans b t d, o.antisymm b t, o.antisymm t b, o.congr b t d, o.congr t b d)

module _ (t : Stamp) (o e : EntryCell) where
  abbrev later : EntryCell
  later = after_entry t e

  abbrev own : EntryCell
  own = purged_entry t o

  -- entries of one birth, dropped after they are joined
  tied_dropped : IsValidEntry o → IsValidEntry e → purged_entry t (join_tied o later) ≡ join_tied own later
  tied_dropped v w =
      let cells = attrs_dropped t o.attrs e.attrs v w in
      λ i. record (join_tied o later) { attrs = cells i }

  joined_dropped : IsValidEntry o → IsValidEntry e → is_dead_up_to t o.death ≡ false → (r : Ordering) → stamp_cmp o.birth e.birth ≡ r
      → entry_left t (join_entries o later) ≡ Some (join_entries own later)
  joined_dropped v w p Less r = ap (entry_left t) (joined_less o later r) ∙ entry_left-after t e ∙ ap Some (sym (joined_less own later r))
  joined_dropped v w p Greater r =
      ap (entry_left t) (joined_greater o later r) ∙ ap (λ b. if b then None else Some own) p ∙ ap Some (sym (joined_greater own later r))
  joined_dropped v w p Equal r =
      ap (entry_left t) (joined_equal o later r)
      ∙ ap (λ b. if b then None else Some (purged_entry t (join_tied o later))) (dead_joined t o.death later.death
      ∙ ap (λ a. a || is_dead_up_to t later.death) p ∙ not_dead t e.death)
      ∙ ap Some (tied_dropped v w ∙ sym (joined_equal own later r))

  -- where the own entry is dead up to t
  dead_dropped : is_dead_up_to t o.death ≡ true → IsOrdered t o → (early : Bool) → is_up_to t e.birth ≡ early → (same : Bool) → is_stamp o.birth e.birth ≡ same
      → option_and_then (entry_left t) (maybe join_entries (Some o) (if (early && not same) then None else Some later))
      ≡ (if (early && true) then None else Some later)
  dead_dropped p ordered true early false q = ap (λ b. if b then None else Some own) p
  dead_dropped p ordered true early true q =
      ap (entry_left t) (joined_equal o later (ap (λ c. stamp_cmp o.birth c) (sym (ties_are_equal stamp_exact o.birth e.birth q)) ∙ itself))
      ∙ ap (λ b. if b then None else Some (purged_entry t (join_tied o later))) (dead_joined t o.death later.death
      ∙ ap (λ a. a || is_dead_up_to t later.death) p)
    where
      itself : stamp_cmp o.birth o.birth ≡ Equal
      itself = tied_itself stamp_total o.birth
  dead_dropped p ordered false early same q =
      ap (entry_left t) (joined_less o later (born_before stamp_total t o.birth e.birth (ordered p) early)) ∙ entry_left-after t e

  beside : IsValidEntry o → IsValidEntry e → IsOrdered t o
      → option_and_then (entry_left t) (take_entry t (Some o) (Some e)) ≡ take_entry t (entry_left t o) (Some e)
  beside v w ordered = at (is_dead_up_to t o.death) refl
    where
      kept : (passed : Bool) → is_dead_up_to t o.death ≡ false
          → option_and_then (entry_left t) (maybe join_entries (Some o) (if passed then None else Some later))
          ≡ maybe join_entries (Some own) (if passed then None else Some later)
      kept true p = ap (λ b. if b then None else Some own) p
      kept false p = joined_dropped v w p (stamp_cmp o.birth e.birth) refl

      at : (gone : Bool) → is_dead_up_to t o.death ≡ gone
          → option_and_then (entry_left t) (take_entry t (Some o) (Some e)) ≡ take_entry t (entry_left t o) (Some e)
      at true p =
          dead_dropped p ordered (is_up_to t e.birth) refl (is_stamp o.birth e.birth) refl
          ∙ ap (λ (gone : Bool). take_entry t (if gone then None else Some own) (Some e)) (sym p)
      at false p =
          kept (is_up_to t e.birth && not (is_stamp o.birth e.birth)) p
          ∙ ap (λ (gone : Bool). take_entry t (if gone then None else Some own) (Some e)) (sym p)

-- what is taken and then dropped up to t, of each name
dropped_entry : (t : Stamp) (o e : Option EntryCell) → IfSome o IsValidEntry → IfSome e IsValidEntry → IfSome o (IsOrdered t)
    → option_and_then (entry_left t) (take_entry t o e) ≡ take_entry t (option_and_then (entry_left t) o) e
dropped_entry t None None v w ordered = refl
dropped_entry t None (Some e) v w ordered = at (is_up_to t e.birth && true)
  where
    at : (passed : Bool) → option_and_then (entry_left t) (if passed then None else Some (after_entry t e)) ≡ (if passed then None else Some (after_entry t e))
    at true = refl
    at false = entry_left-after t e
dropped_entry t (Some o) None v w ordered = sym (none_right join_entries (entry_left t o))
dropped_entry t (Some o) (Some e) v w ordered = beside t o e v w ordered

-- ---- tables

-- each entry that died up to t was born up to t
abbrev pub IsOrderedTable : Stamp → Entries → Type 0
IsOrderedTable t = EachValue (IsOrdered t)

-- dropping after taking is taking after dropping
pub dropped_table : (t : Stamp) (m n : Entries) → IsValidTable m → IsValidTable n → IsOrderedTable t m
    → purged_table t (take_table t m n) ≡ take_table t (purged_table t m) n
dropped_table t m n v w ordered =
    same_map nat_list_cmp_total octets_exact (purged_table t (take_table t m n)) (take_table t (purged_table t m) n) (λ q.
    get-map_some nat_list_cmp_total octets_exact (entry_left t) (take_table t m n) q
    ∙ ap (option_and_then (entry_left t)) (get-merge nat_list_cmp_total octets_exact (take_entry t) refl m n q)
    ∙ dropped_entry t (get m q) (get n q) (v q) (w q) (ordered q)
    ∙ sym (get-merge nat_list_cmp_total octets_exact (take_entry t) refl (purged_table t m) n q
    ∙ ap (λ x. take_entry t x (get n q)) (get-map_some nat_list_cmp_total octets_exact (entry_left t) m q)))

-- the purged table of a history is in order
pub purged-ordered : (t : Stamp) (h : List Mark) (a : Option Stamp) → IsAfterBirth h → IsOrderedTable t (purged_entries h a)
purged-ordered t h a after n = subst (λ x. IfSome x (IsOrdered t)) (sym (get-purged h a n)) (by_birth (birth_of h n))
  where
    left : (a : Option Stamp) (e : EntryCell) → IsOrdered t e → IfSome (entry_left_by a e) (IsOrdered t)
    left None e ordered = ordered
    left (Some s) e ordered = at (is_dead_up_to s e.death)
      where
        at : (b : Bool) → IfSome (if b then None else Some (purged_entry s e)) (IsOrdered t)
        at true = tt
        at false = ordered

    by_birth : (b : Option Born) → IfSome (option_and_then (entry_left_by a) (option_map (entry_at h n) b)) (IsOrdered t)
    by_birth None = tt
    by_birth (Some b) = left a (entry_at h n b) (dead_after_birth t h after n b.at)

-- the purged table of a history, with what is taken of another that can be merged, is after the
-- drop the purged table of both
pub dropped-taken : (h g : List Mark) (a s : Option Stamp) (t : Stamp) → maybe later_stamp a (Some t) ≡ Some t → maybe later_stamp s (Some t) ≡ Some t
    → CanMerge h g (Some t) → purged_table t (take_table t (purged_entries h a) (purged_entries g s)) ≡ purged_entries (h ++ g) (Some t)
dropped-taken h g a s t mine theirs can =
    dropped_table t (purged_entries h a) (purged_entries g s) (purged-valid h a) (purged-valid g s) (purged-ordered t h a can.mine.ordered)
    ∙ ap (λ m. take_table t m (purged_entries g s)) (purged-again h a t mine) ∙ taken_table h g s t theirs can
