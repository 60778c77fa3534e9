-- What is later than a stamp of an entry: taken up to a later stamp, it is what is taken of the
-- entry.
use Rattle.std.proofs.Common.{◌≡◌, ℕ, Bool, true, false, List, Option, Some, None, refl, sym, ap, subst, ◌++◌, ◌∙◌, arith}
use Rattle.std.proofs.lemmas.Bool.Decides.{nat_tests}
use Rattle.std.specs.Prelude.{◌&&◌, ◌==◌, not, is_none, IfSome, if◌then◌else◌}
use Rattle.std.specs.FinMap.{FinMap, empty, get, len, empty_of_len, get-empty, same_map}
use Rattle.std.specs.List.{Contains}
use Rattle.std.specs.Option.{option_and_then, option_map}
use Rattle.std.specs.declared.cmp.Ordering.TheVariants.{Equal}
use Rattle.std.specs.Cmp.{tied_itself}
use Rattle.std.specs.Cmp.Lexicographic.{nat_list_cmp_total}
use Rattle.cds_stamps.specs.declared.stamp.Stamp.{Stamp}
use Rattle.cds_stamps.specs.Semilattice.{maybe, greater}
use Rattle.cds_stamps.specs.Joins.{EachValue, join_maps, get-join_maps}
use Rattle.cds_stamps.specs.Keyed.{ties_are_equal, map_some, get-map_some, get-merge}
use Rattle.cds_stamps.specs.Octets.{octets_cmp, octets_exact}
use Rattle.cds_stamps.specs.Stamps.{stamp_cmp, stamp_total, stamp_exact, is_earlier, is_stamp, is_up_to, later_stamp, earlier_stamp}
use Rattle.attr_sets.specs.declared.cell.AttrCell.{AttrCell}
use Rattle.attr_sets.specs.AttributeCells.{join_cells}
use Rattle.attr_sets.specs.CellPurges.{clear_left, cell_after, is_above, IsAboveCell}
use Rattle.attr_sets.proofs.MarkPurgeLaws.{clear_after-twice}
use Rattle.attr_sets.proofs.SomeCellLaws.{cell_after-twice, not_later, each_left, if_any, clear_after-above, cell_after-above, any_cell-above}
use Rattle.directory.specs.declared.entry.EntryCell.{EntryCell}
use Rattle.directory.specs.Entries.{Entries, join_entries, IsValidEntry, IsValidTable}
use Rattle.directory.specs.EntryLawProofs.{kinds}
use Rattle.directory.specs.Kinds.{kind_cmp}
use Rattle.directory.specs.Histories.{Mark, Birth, Born, birth_of, entry_at, entry_of, CanMerge}
use Rattle.directory.specs.Purges.{purged_entry, entry_left, after_entry, is_passed, take_entry, is_bare, delta_entry, delta_table}
use Rattle.directory.specs.Purges.{purged_table, purged_entries, take_table, is_dead_up_to, IsAboveEntry}
use Rattle.directory.proofs.KnownLaws.{known}
use Rattle.directory.proofs.PurgeLaws.{map_some-both, early_early, each_some, after_entry-valid, purged-again, purged-valid}
use Rattle.directory.proofs.SeenLaws.{birth_among}
use Rattle.directory.proofs.TakeLaws.{joined_equal, none_right, get-purged, taken_table}
use Rattle.directory.proofs.DropLaws.{dropped_table, purged-ordered}

-- ---- bare entries

both : (x y : Bool) → (x && y) ≡ true → (x ≡ true) × (y ≡ true)
both true y e = (refl, e)
both false y e = cc

nothing : (c : Option Stamp) → is_none c ≡ true → c ≡ None
nothing None e = refl
nothing (Some c) e = cc

at_zero : (n : ℕ) → (n == 0) ≡ true → n ≡ 0
at_zero n e = grind (arith, nat_tests)

-- a bare entry has neither a death nor attributes
pub bare_is : (e : EntryCell) → is_bare e ≡ true → (e.death ≡ None) × (e.attrs ≡ empty)
bare_is e bare =
    let parts = both (is_none e.death) (len e.attrs == 0) bare in
    (nothing e.death parts.0, empty_of_len e.attrs (at_zero (len e.attrs) parts.1))

-- what is later than t of what is later than an earlier stamp
pub after_entry-twice : (s t : Stamp) (e : EntryCell) → is_earlier t s ≡ false → after_entry t (after_entry s e) ≡ after_entry t e
after_entry-twice s t e later =
    let cells : map_some (cell_after t) (map_some (cell_after s) e.attrs) ≡ map_some (cell_after t) e.attrs =
    map_some-both nat_list_cmp_total octets_exact (cell_after t) (cell_after s) (cell_after t) (λ c. cell_after-twice s t c later) e.attrs in
    let death = clear_after-twice s t e.death later in
    λ i. record e { death = death i; attrs = cells i }

map_some-none : (t : Stamp) (m : FinMap octets_cmp AttrCell) → m ≡ empty → map_some (cell_after t) m ≡ empty
map_some-none t m none = same_map nat_list_cmp_total octets_exact (map_some (cell_after t) m) empty (λ q.
    get-map_some nat_list_cmp_total octets_exact (cell_after t) m q
    ∙ ap (option_and_then (cell_after t)) (ap (λ m. get m q) none ∙ get-empty octets_cmp q) ∙ sym (get-empty octets_cmp q))

-- where nothing is later than s, nothing is later than t
pub bare_later : (s t : Stamp) (e : EntryCell) → is_earlier t s ≡ false → is_bare (after_entry s e) ≡ true
    → ((after_entry t e).death ≡ None) × ((after_entry t e).attrs ≡ empty)
bare_later s t e later bare =
    let none = bare_is (after_entry s e) bare in (
      sym (clear_after-twice s t e.death later) ∙ ap (option_and_then (clear_left t)) none.0,
      ap (λ (e : EntryCell). e.attrs) (sym (after_entry-twice s t e later)) ∙ map_some-none t (after_entry s e).attrs none.1,
    )

join_maps-none : (m n : FinMap octets_cmp AttrCell) → n ≡ empty → join_maps join_cells m n ≡ m
join_maps-none m n none = same_map nat_list_cmp_total octets_exact (join_maps join_cells m n) m (λ q.
    get-join_maps nat_list_cmp_total octets_exact join_cells m n q
    ∙ ap (maybe join_cells (get m q)) (ap (λ m. get m q) none ∙ get-empty octets_cmp q) ∙ none_right join_cells (get m q))

-- a bare entry of its birth and kind changes no entry
pub bare_joined : (o e : EntryCell) → o.birth ≡ e.birth → o.kind ≡ e.kind → e.death ≡ None → e.attrs ≡ empty → join_entries o e ≡ o
bare_joined o e birth kind death attrs =
    let same : stamp_cmp o.birth e.birth ≡ Equal = ap (stamp_cmp o.birth) (sym birth) ∙ tied_itself stamp_total o.birth in
    let one_kind : greater kind_cmp o.kind e.kind ≡ o.kind = ap (greater kind_cmp o.kind) (sym kind) ∙ kinds.idem o.kind in
    let one_death : maybe earlier_stamp o.death e.death ≡ o.death = ap (maybe earlier_stamp o.death) death ∙ none_right earlier_stamp o.death in
    let cells = join_maps-none o.attrs e.attrs attrs in
    joined_equal o e same ∙ (λ i. record { birth = o.birth; kind = one_kind i; death = one_death i; attrs = cells i })

-- ---- what is taken

module _ (s t : Stamp) (is : maybe later_stamp (Some s) (Some t) ≡ Some t) where
  -- where what is left out is held, it is of one kind with the entry
  abbrev IsOneKind : Option EntryCell → EntryCell → Type 0
  IsOneKind own e = IfSome own (λ o. is_up_to t e.birth ≡ true → o.birth ≡ e.birth → o.kind ≡ e.kind)

  -- of an entry the same is taken up to t as of what is later than s of it
  pub delta_taken_of : (own : Option EntryCell) (e : EntryCell) → IsOneKind own e
      → take_entry t own (delta_entry s e) ≡ take_entry t own (Some e)
  delta_taken_of own e kind = at (is_up_to s e.birth) refl (is_bare (after_entry s e)) refl
    where
      later : is_earlier t s ≡ false
      later = not_later s t is

      kept : maybe join_entries own (if is_passed t own e then None else Some (after_entry t (after_entry s e)))
          ≡ maybe join_entries own (if is_passed t own e then None else Some (after_entry t e))
      kept = ap (λ x. maybe join_entries own (if is_passed t own e then None else Some x)) (after_entry-twice s t e later)

      left_out : is_up_to t e.birth ≡ true → is_bare (after_entry s e) ≡ true → (own : Option EntryCell) → IsOneKind own e
          → maybe join_entries own None ≡ take_entry t own (Some e)
      left_out early bare None kind = ap (λ b. maybe join_entries None (if b && true then None else Some (after_entry t e))) (sym early)
      left_out early bare (Some o) kind = by_birth (is_stamp o.birth e.birth) refl
        where
          by_birth : (b : Bool) → is_stamp o.birth e.birth ≡ b → Some o ≡ take_entry t (Some o) (Some e)
          by_birth false p = ap (λ b. maybe join_entries (Some o) (if b then None else Some (after_entry t e)))
              (sym (ap (λ a. a && not (is_stamp o.birth e.birth)) early ∙ ap not p))
          by_birth true p =
              let same : o.birth ≡ e.birth = ties_are_equal stamp_exact o.birth e.birth p in
              let none = bare_later s t e later bare in
              sym (ap Some (bare_joined o (after_entry t e) same (kind early same) none.0 none.1))
              ∙ ap (λ b. maybe join_entries (Some o) (if b then None else Some (after_entry t e)))
              (sym (ap (λ a. a && not (is_stamp o.birth e.birth)) early ∙ ap not p))

      at : (early : Bool) → is_up_to s e.birth ≡ early → (bare : Bool) → is_bare (after_entry s e) ≡ bare
          → take_entry t own (if early && bare then None else Some (after_entry s e)) ≡ take_entry t own (Some e)
      at true p true q = left_out (early_early stamp_total s t e.birth later p) q own kind
      at true p false q = kept
      at false p bare q = kept

-- of two histories that can be merged, the same is taken of the other's delta as of its table, at
-- each name
pub delta_taken : (h g : List Mark) (t : Stamp) → CanMerge h g (Some t) → (n : List ℕ) (s : Stamp) → maybe later_stamp (Some s) (Some t) ≡ Some t
    → take_entry t (option_and_then (entry_left t) (entry_of h n)) (option_and_then (delta_entry s) (option_and_then (entry_left s) (entry_of g n)))
    ≡ take_entry t (option_and_then (entry_left t) (entry_of h n)) (option_and_then (entry_left s) (entry_of g n))
delta_taken h g t can n s is = by_births (birth_of h n) (birth_of g n) refl refl
  where
    one_kind : (x : Option Born) → birth_of h n ≡ x → (d : Born) → birth_of g n ≡ Some d → (e : EntryCell) → (e.birth ≡ d.at) × (e.kind ≡ d.kind)
        → IfSome (option_and_then (entry_left t) (option_map (entry_at h n) x)) (λ o. is_up_to t e.birth ≡ true → o.birth ≡ e.birth → o.kind ≡ e.kind)
    one_kind None p d q e of_it = tt
    one_kind (Some b) p d q e of_it = at (is_dead_up_to t (entry_at h n b).death)
      where
        born : is_up_to t e.birth ≡ true → b.at ≡ e.birth → b.kind ≡ e.kind
        born early same =
            let theirs = known t h g can.covered (Birth n d.kind d.at) (birth_among g n d q) (ap (is_up_to t) (sym of_it.0) ∙ early) in
            let one : Contains h (Birth n d.kind b.at) = subst (λ c. Contains h (Birth n d.kind c)) (sym (same ∙ of_it.0)) theirs in
            can.mine.kinds n b.at b.kind d.kind (birth_among h n b p) one ∙ sym of_it.1

        at : (gone : Bool) → IfSome (if gone then None else Some (purged_entry t (entry_at h n b)))
            (λ (o : EntryCell). is_up_to t e.birth ≡ true → o.birth ≡ e.birth → o.kind ≡ e.kind)
        at true = tt
        at false = born

    by_births : (x y : Option Born) → birth_of h n ≡ x → birth_of g n ≡ y
        → take_entry t (option_and_then (entry_left t) (option_map (entry_at h n) x)) (option_and_then (delta_entry s) (option_and_then (entry_left s) (option_map (entry_at g n) y)))
        ≡ take_entry t (option_and_then (entry_left t) (option_map (entry_at h n) x)) (option_and_then (entry_left s) (option_map (entry_at g n) y))
    by_births x None p q = refl
    by_births x (Some d) p q = at (is_dead_up_to s (entry_at g n d).death)
      where
        at : (gone : Bool)
            → take_entry t (option_and_then (entry_left t) (option_map (entry_at h n) x)) (option_and_then (delta_entry s) (if gone then None else Some (purged_entry s (entry_at g n d))))
            ≡ take_entry t (option_and_then (entry_left t) (option_map (entry_at h n) x)) (if gone then None else Some (purged_entry s (entry_at g n d)))
        at true = refl
        at false = delta_taken_of s t is (option_and_then (entry_left t) (option_map (entry_at h n) x)) (purged_entry s (entry_at g n d))
            (one_kind x p d q (purged_entry s (entry_at g n d)) (refl, refl))

-- ---- valid

-- what is later of a valid entry is valid
pub delta_entry-valid : (t : Stamp) (e : EntryCell) → IsValidEntry e → IfSome (delta_entry t e) IsValidEntry
delta_entry-valid t e v = at (is_up_to t e.birth && is_bare (after_entry t e))
  where
    at : (b : Bool) → IfSome (if b then None else Some (after_entry t e)) IsValidEntry
    at true = tt
    at false = after_entry-valid t e v

-- and of a valid table
pub delta_table-valid : (t : Option Stamp) (m : Entries) → IsValidTable m → IsValidTable (delta_table t m)
delta_table-valid None m v = v
delta_table-valid (Some t) m v = each_some nat_list_cmp_total octets_exact IsValidEntry (delta_entry t) (delta_entry-valid t) m v

-- ---- above the stamp

-- what is later of an entry is above the stamp, but for its birth
pub after_entry-above : (t : Stamp) (e : EntryCell) → IsAboveEntry (Some t) (after_entry t e)
after_entry-above t e = record {
  death = clear_after-above t e.death;
  attrs = each_left nat_list_cmp_total octets_exact (IsAboveCell (Some t)) (cell_after t) (cell_after-above t) e.attrs;
}

delta_entry-above : (t : Stamp) (e : EntryCell) → IfSome (delta_entry t e) (IsAboveEntry (Some t))
delta_entry-above t e = at (is_up_to t e.birth && is_bare (after_entry t e))
  where
    at : (b : Bool) → IfSome (if b then None else Some (after_entry t e)) (IsAboveEntry (Some t))
    at true = tt
    at false = after_entry-above t e

any_entry-above : (e : EntryCell) → IsAboveEntry None e
any_entry-above e = record {
  death = if_any (λ s. is_above None s ≡ true) (λ s. refl) e.death;
  attrs = λ a. if_any (IsAboveCell None) any_cell-above (get e.attrs a);
}

-- so is what is later of a table
pub delta_table-above : (t : Option Stamp) (m : Entries) → EachValue (IsAboveEntry t) (delta_table t m)
delta_table-above None m n = if_any (IsAboveEntry None) any_entry-above (get m n)
delta_table-above (Some t) m n =
    each_left nat_list_cmp_total octets_exact (IsAboveEntry (Some t)) (delta_entry t) (delta_entry-above t) m n

-- ---- tables

get-delta : (g : List Mark) (s : Stamp) (n : List ℕ)
    → get (delta_table (Some s) (purged_entries g (Some s))) n ≡ option_and_then (delta_entry s) (option_and_then (entry_left s) (entry_of g n))
get-delta g s n =
    get-map_some nat_list_cmp_total octets_exact (delta_entry s) (purged_entries g (Some s)) n ∙ ap (option_and_then (delta_entry s)) (get-purged g (Some s) n)

-- of two histories that can be merged, the same is taken of the other's delta as of its table
pub delta_table_taken : (h g : List Mark) (s t : Stamp) → maybe later_stamp (Some s) (Some t) ≡ Some t → CanMerge h g (Some t)
    → take_table t (purged_entries h (Some t)) (delta_table (Some s) (purged_entries g (Some s))) ≡ take_table t (purged_entries h (Some t)) (purged_entries g (Some s))
delta_table_taken h g s t is can =
    let own = purged_entries h (Some t) in
    let delta = delta_table (Some s) (purged_entries g (Some s)) in
    same_map nat_list_cmp_total octets_exact (take_table t own delta) (take_table t own (purged_entries g (Some s))) (λ n.
    get-merge nat_list_cmp_total octets_exact (take_entry t) refl own delta n
    ∙ ap (λ x. take_entry t x (get delta n)) (get-purged h (Some t) n)
    ∙ ap (take_entry t (option_and_then (entry_left t) (entry_of h n))) (get-delta g s n)
    ∙ delta_taken h g t can n s is
    ∙ sym (get-merge nat_list_cmp_total octets_exact (take_entry t) refl own (purged_entries g (Some s)) n
    ∙ ap (λ x. take_entry t x (get (purged_entries g (Some s)) n)) (get-purged h (Some t) n)
    ∙ ap (take_entry t (option_and_then (entry_left t) (entry_of h n))) (get-purged g (Some s) n)))

-- what is left of a history, with what is taken of the delta of another that can be merged, is what
-- is left of both
pub taken-delta : (h g : List Mark) (b : Option Stamp) (t : Stamp) → maybe later_stamp b (Some t) ≡ Some t → CanMerge h g (Some t)
    → take_table t (purged_entries h (Some t)) (delta_table b (purged_entries g b)) ≡ purged_entries (h ++ g) (Some t)
taken-delta h g None t later can = taken_table h g None t later can
taken-delta h g (Some s) t later can = delta_table_taken h g s t later can ∙ taken_table h g (Some s) t later can

-- deletions may be dropped after the delta is taken
pub dropped-delta : (h g : List Mark) (a b : Option Stamp) (t : Stamp) → maybe later_stamp a (Some t) ≡ Some t
    → maybe later_stamp b (Some t) ≡ Some t → CanMerge h g (Some t)
    → purged_table t (take_table t (purged_entries h a) (delta_table b (purged_entries g b))) ≡ purged_entries (h ++ g) (Some t)
dropped-delta h g a b t mine theirs can =
    let delta = delta_table b (purged_entries g b) in
    dropped_table t (purged_entries h a) delta (purged-valid h a) (delta_table-valid b (purged_entries g b) (purged-valid g b))
    (purged-ordered t h a can.mine.ordered)
    ∙ ap (λ m. take_table t m delta) (purged-again h a t mine) ∙ taken-delta h g b t theirs can
