-- What is taken up to a stamp of another table: of two histories that can be merged it makes the
-- purged table of both.
use Rattle.std.proofs.Common.{◌≡◌, ℕ, Bool, true, false, List, [], ◌∷◌, ◌++◌, Option, Some, None, refl, sym, ap, subst, ◌∙◌, arith}
use Rattle.std.specs.Prelude.{◌&&◌, ◌||◌, not, if◌then◌else◌}
use Rattle.std.specs.FinMap.{get, same_map}
use Rattle.std.specs.List.{Contains}
use Rattle.std.specs.Option.{option_and_then, option_map}
use Rattle.std.specs.declared.cmp.Ordering.{Ordering}
use Rattle.std.specs.declared.cmp.Ordering.TheVariants.{Less, Equal, Greater}
use Rattle.std.specs.Ordering.{is_lt, flip_args, ordering_then, ordering_reverse}
use Rattle.std.specs.Cmp.{IsTotalOrder}
use Rattle.std.specs.Cmp.Lexicographic.{nat_list_cmp_total}
use Rattle.std.proofs.lemmas.List.Elements.{filter_map-append}
use Rattle.cds_stamps.specs.declared.stamp.Stamp.{Stamp}
use Rattle.cds_stamps.specs.Semilattice.{greater, maybe, join_of-append}
use Rattle.cds_stamps.specs.Keyed.{map_some, get-map_some, get-merge}
use Rattle.cds_stamps.specs.Joins.{join_maps, get-join_maps}
use Rattle.cds_stamps.specs.Stamps.{stamp_cmp, stamp_total, stamp_exact, is_earlier, is_stamp, is_up_to, later_stamp, earlier_stamp}
use Rattle.cds_stamps.specs.Octets.{octets_exact}
use Rattle.attr_sets.specs.AttributeCells.{AttrMark, cell_of, join_cells}
use Rattle.attr_sets.specs.CellPurges.{clear_left, cell_left, some_cell, cell_after}
use Rattle.attr_sets.proofs.CellPurgeLaws.{KnowsUpTo, knows_up_to}
use Rattle.attr_sets.proofs.SomeCellLaws.{some_cell-of_some, some_cell-of_none, merged_some, not_later}
use Rattle.directory.specs.declared.entry.EntryCell.{EntryCell}
use Rattle.directory.specs.Entries.{join_tied, join_entries}
use Rattle.directory.specs.Kinds.{kind_cmp}
use Rattle.directory.specs.Histories.{Mark, Born, birth_in, attr_mark_in, birth_cmp, birth_of, death_of, attr_history, cell_of_some, attrs_of}
use Rattle.directory.specs.Histories.{entry_at, entry_of, table_of, CanMerge}
use Rattle.directory.specs.Purges.{purged_entry, is_dead_up_to, entry_left, purged_entries, after_entry, holds, is_passed, taken_entry}
use Rattle.directory.specs.Purges.{take_entry, take_table}
use Rattle.directory.proofs.FragmentLaws.{same_stamp}
use Rattle.directory.proofs.HistoryLaws.{births, before, no_birth, no_death, no_attrs, get-table_of, get-attrs_of, attrs_joined, entries_tied}
use Rattle.directory.proofs.HistoryLaws.{entry_right, entry_front}
use Rattle.directory.proofs.KnownLaws.{Covers, known_birth, known_death, dead_after_birth, known_attr}
use Rattle.directory.proofs.PurgeLaws.{early_early, after_entry-purged}
use Rattle.directory.proofs.UpdateLaws.{not_both}

-- ---- attributes

cell_of_some-is : (x : List AttrMark) → cell_of_some x ≡ some_cell (cell_of x)
cell_of_some-is [] = sym some_cell-of_none
cell_of_some-is (x ∷ xs) = sym (some_cell-of_some x xs)

-- what is left of an attribute, with what is later of the marks that may be missing up to t
attr_taken : (t : Stamp) (x y : List AttrMark) → KnowsUpTo t x y
    → maybe join_cells (option_and_then (cell_left t) (cell_of_some x)) (option_and_then (cell_after t) (cell_of_some y))
    ≡ option_and_then (cell_left t) (cell_of_some (x ++ y))
attr_taken t x y knows =
    ap (λ c. maybe join_cells (option_and_then (cell_left t) c) (option_and_then (cell_after t) (cell_of_some y))) (cell_of_some-is x)
    ∙ ap (λ c. maybe join_cells (option_and_then (cell_left t) (some_cell (cell_of x))) (option_and_then (cell_after t) c)) (cell_of_some-is y)
    ∙ merged_some None t x y refl knows ∙ ap (option_and_then (cell_left t)) (sym (cell_of_some-is (x ++ y)))

-- what is left of an attribute of a birth
pub get-left : (t : Stamp) (h : List Mark) (n : List ℕ) (c : Stamp) (a : List ℕ)
    → get (map_some (cell_left t) (attrs_of h n c)) a ≡ option_and_then (cell_left t) (cell_of_some (attr_history h n c a))
get-left t h n c a = get-map_some nat_list_cmp_total octets_exact (cell_left t) (attrs_of h n c) a ∙ ap (option_and_then (cell_left t)) (get-attrs_of h n c a)

-- and what of it is later
pub get-after : (t : Stamp) (h : List Mark) (n : List ℕ) (c : Stamp) (a : List ℕ)
    → get (map_some (cell_after t) (attrs_of h n c)) a ≡ option_and_then (cell_after t) (cell_of_some (attr_history h n c a))
get-after t h n c a = get-map_some nat_list_cmp_total octets_exact (cell_after t) (attrs_of h n c) a
    ∙ ap (option_and_then (cell_after t)) (get-attrs_of h n c a)

-- the attributes of one birth in two histories
attrs_taken : (t : Stamp) (h g : List Mark) → Covers t h g → (n : List ℕ) (c : Stamp)
    → join_maps join_cells (map_some (cell_left t) (attrs_of h n c)) (map_some (cell_after t) (attrs_of g n c)) ≡ map_some (cell_left t) (attrs_of (h ++ g) n c)
attrs_taken t h g covered n c =
    let mine = map_some (cell_left t) (attrs_of h n c) in
    let theirs = map_some (cell_after t) (attrs_of g n c) in
    same_map nat_list_cmp_total octets_exact (join_maps join_cells mine theirs) (map_some (cell_left t) (attrs_of (h ++ g) n c)) (λ a.
    let x = attr_history h n c a in
    let y = attr_history g n c a in
    get-join_maps nat_list_cmp_total octets_exact join_cells mine theirs a
    ∙ ap (λ u. maybe join_cells u (get theirs a)) (get-left t h n c a)
    ∙ ap (maybe join_cells (option_and_then (cell_left t) (cell_of_some x))) (get-after t g n c a)
    ∙ attr_taken t x y (knows_up_to t x y (known_attr t h g covered n c a))
    ∙ ap (λ z. option_and_then (cell_left t) (cell_of_some z)) (sym (filter_map-append (attr_mark_in n c a) h g))
    ∙ sym (get-left t (h ++ g) n c a))

-- and of a birth of which the first says nothing
attrs_new : (t : Stamp) (h g : List Mark) → Covers t h g → (n : List ℕ) (c : Stamp) → ((a : List ℕ) → attr_history h n c a ≡ [])
    → map_some (cell_after t) (attrs_of g n c) ≡ map_some (cell_left t) (attrs_of g n c)
attrs_new t h g covered n c none =
    same_map nat_list_cmp_total octets_exact (map_some (cell_after t) (attrs_of g n c)) (map_some (cell_left t) (attrs_of g n c)) (λ a.
    let y = attr_history g n c a in
    get-after t g n c a
    ∙ attr_taken t [] y (knows_up_to t [] y (λ m has early. subst (λ z. Contains z m) (none a) (known_attr t h g covered n c a m has early)))
    ∙ sym (get-left t g n c a))

-- ---- deaths

-- a death that is not dropped stays
death_stays : (t : Stamp) (d : Option Stamp) → is_dead_up_to t d ≡ false → option_and_then (clear_left t) d ≡ d
death_stays t None e = refl
death_stays t (Some d) e = ap (λ b. if b then None else Some d) e

least_early : {K : Type 0} {R : K → K → Ordering} → IsTotalOrder R → (t x y : K)
    → not (is_lt (R t (greater (flip_args R) x y))) ≡ (not (is_lt (R t x)) || not (is_lt (R t y)))
least_early o t x y = grind (arith, o.trans t x y, o.trans t y x, o.antisymm x y, o.antisymm y x, o.congr x y t, o.antisymm t x, o.antisymm t y)

or_false : (b : Bool) → b ≡ (b || false)
or_false true = refl
or_false false = refl

-- one of two deaths is up to t where the earlier is
pub dead_joined : (t : Stamp) (x y : Option Stamp) → is_dead_up_to t (maybe earlier_stamp x y) ≡ (is_dead_up_to t x || is_dead_up_to t y)
dead_joined t None y = refl
dead_joined t (Some x) None = or_false (is_up_to t x)
dead_joined t (Some x) (Some y) = least_early stamp_total t x y

-- ---- entries

-- of two entries that are joined the later wins
pub joined_less : (x y : EntryCell) → stamp_cmp x.birth y.birth ≡ Less → join_entries x y ≡ y
joined_less x y e = ap (λ r. elim r [ Less ↦ y | Equal ↦ join_tied x y | Greater ↦ x ]) e

-- those of one birth are joined
pub joined_equal : (x y : EntryCell) → stamp_cmp x.birth y.birth ≡ Equal → join_entries x y ≡ join_tied x y
joined_equal x y e = ap (λ r. elim r [ Less ↦ y | Equal ↦ join_tied x y | Greater ↦ x ]) e

-- and the first wins where it is later
pub joined_greater : (x y : EntryCell) → stamp_cmp x.birth y.birth ≡ Greater → join_entries x y ≡ x
joined_greater x y e = ap (λ r. elim r [ Less ↦ y | Equal ↦ join_tied x y | Greater ↦ x ]) e

-- nothing, joined in
pub none_right : {X : Type 0} (f : X → X → X) (x : Option X) → maybe f x None ≡ x
none_right f None = refl
none_right f (Some x) = refl

-- what is left of an entry up to a stamp, where there is one
abbrev pub entry_left_by : Option Stamp → EntryCell → Option EntryCell
entry_left_by None e = Some e
entry_left_by (Some s) e = entry_left s e

abbrev is_gone : Option Stamp → Option Stamp → Bool
is_gone None d = false
is_gone (Some s) d = is_dead_up_to s d

dead_later : (s t : Stamp) → is_earlier t s ≡ false → (d : Option Stamp) → is_dead_up_to s d ≡ true → is_dead_up_to t d ≡ true
dead_later s t later None e = cc (e)
dead_later s t later (Some d) e = early_early stamp_total s t d later e

gone_dead : (s : Option Stamp) (t : Stamp) → maybe later_stamp s (Some t) ≡ Some t → (d : Option Stamp) → is_gone s d ≡ true → is_dead_up_to t d ≡ true
gone_dead None t e d gone = cc (gone)
gone_dead (Some s) t e d gone = dead_later s t (not_later s t e) d gone

-- what is taken of an entry is taken of what was left of it before
taken_left : (s : Option Stamp) (t : Stamp) → maybe later_stamp s (Some t) ≡ Some t → (own : Option EntryCell) (e : EntryCell)
    → option_and_then (taken_entry t own) (entry_left_by s e) ≡ (if is_gone s e.death then None else taken_entry t own e)
taken_left None t is own e = refl
taken_left (Some s) t is own e = at (is_dead_up_to s e.death)
  where
    at : (b : Bool) → option_and_then (taken_entry t own) (if b then None else Some (purged_entry s e)) ≡ (if b then None else taken_entry t own e)
    at true = refl
    at false = ap (λ x. if is_passed t own e then None else Some x) (after_entry-purged s t e (not_later s t is))

earlier_early : {K : Type 0} {R : K → K → Ordering} → IsTotalOrder R → (t b d : K) → R b d ≡ Greater → not (is_lt (R t b)) ≡ true → not (is_lt (R t d)) ≡ true
earlier_early o t b d e early = grind (arith, e, early, o.trans t d b, o.antisymm b d, o.antisymm d b, o.antisymm t b, o.congr t b d)

module _ (t : Stamp) (h g : List Mark) (can : CanMerge h g (Some t)) (n : List ℕ) where
  abbrev own_of : Born → Option EntryCell
  own_of b = entry_left t (entry_at h n b)

  -- an entry of the other that the history knows nothing of
  entry_new : (d : Born) → birth_of g n ≡ Some d → before (birth_of h n) d.at ≡ true → (own : Option EntryCell)
      → ((e : EntryCell) → e.birth ≡ d.at → maybe join_entries own (Some e) ≡ Some e)
      → (z : Bool) → (z ≡ true → is_dead_up_to t (death_of g n d.at) ≡ true)
      → maybe join_entries own (if z then None else taken_entry t own (entry_at g n d)) ≡ entry_left t (entry_at (h ++ g) n d)
  entry_new d born unknown own gives z dead = at z (is_up_to t d.at) refl (is_dead_up_to t (death_of g n d.at)) refl dead
    where
      x : EntryCell
      x = entry_at g n d

      no_such : death_of h n d.at ≡ None
      no_such = no_death h h n d.at can.mine.births (no_birth h n d.at unknown)

      after : option_and_then (clear_left t) (death_of g n d.at) ≡ death_of g n d.at → after_entry t x ≡ purged_entry t x
      after stays =
          let cells = attrs_new t h g can.covered n d.at (λ a. no_attrs h h n d.at a can.mine.births (no_birth h n d.at unknown)) in
          λ i. record { birth = d.at; kind = d.kind; death = stays i; attrs = cells i }

      at : (z early : Bool) → is_up_to t d.at ≡ early → (gone : Bool) → is_dead_up_to t (death_of g n d.at) ≡ gone
          → (z ≡ true → is_dead_up_to t (death_of g n d.at) ≡ true)
          → maybe join_entries own (if z then None else taken_entry t own x) ≡ entry_left t (entry_at (h ++ g) n d)
      at z true p gone q dead = absurd (not_both (before (birth_of h n) d.at) unknown (known_birth t h g can.covered n d born p))
      at z false p true q dead =
          absurd (not_both (is_dead_up_to t (death_of h n d.at)) (known_death t h g can.covered n d.at q) (ap (is_dead_up_to t) no_such))
      at true false p false q dead = absurd (not_both (is_dead_up_to t (death_of g n d.at)) (dead refl) q)
      at false false p false q dead =
          ap (λ b. maybe join_entries own (if (b && not (holds own d.at)) then None else Some (after_entry t x))) p
          ∙ gives (after_entry t x) refl ∙ ap Some (after (death_stays t (death_of g n d.at) q))
          ∙ ap (λ b. if b then None else Some (purged_entry t x)) (sym q)
          ∙ ap (entry_left t) (entry_right h g n d can.mine.births unknown)

  -- entries of one birth
  tied_attrs : (c e : Stamp) → c ≡ e
      → join_maps join_cells (map_some (cell_left t) (attrs_of h n c)) (map_some (cell_after t) (attrs_of g n e))
      ≡ map_some (cell_left t) (join_maps join_cells (attrs_of h n c) (attrs_of g n e))
  tied_attrs c e is =
      ap (λ e. join_maps join_cells (map_some (cell_left t) (attrs_of h n c)) (map_some (cell_after t) (attrs_of g n e))) (sym is)
      ∙ attrs_taken t h g can.covered n c
      ∙ ap (map_some (cell_left t)) (sym (attrs_joined h g n c) ∙ ap (λ e. join_maps join_cells (attrs_of h n c) (attrs_of g n e)) is)

  tied_taken : (b d : Born) → b.at ≡ d.at → is_dead_up_to t (death_of g n d.at) ≡ false
      → join_tied (purged_entry t (entry_at h n b)) (after_entry t (entry_at g n d)) ≡ purged_entry t (join_tied (entry_at h n b) (entry_at g n d))
  tied_taken b d same alive =
      let death : maybe earlier_stamp (death_of h n b.at) (option_and_then (clear_left t) (death_of g n d.at))
      ≡ maybe earlier_stamp (death_of h n b.at) (death_of g n d.at) = ap (maybe earlier_stamp (death_of h n b.at)) (death_stays t (death_of g n d.at) alive) in
      let cells = tied_attrs b.at d.at same in
      λ i. record { birth = b.at; kind = greater kind_cmp b.kind d.kind; death = death i; attrs = cells i }

  entry_same : (b d : Born) → stamp_cmp b.at d.at ≡ Equal → (z : Bool) → (z ≡ true → is_dead_up_to t (death_of g n d.at) ≡ true)
      → maybe join_entries (own_of b) (if z then None else taken_entry t (own_of b) (entry_at g n d))
      ≡ entry_left t (join_tied (entry_at h n b) (entry_at g n d))
  entry_same b d tie z dead = at z (is_dead_up_to t (death_of h n b.at)) refl (is_dead_up_to t (death_of g n d.at)) refl dead
    where
      o : EntryCell
      o = entry_at h n b

      x : EntryCell
      x = entry_at g n d

      same : b.at ≡ d.at
      same = stamp_exact b.at d.at tie

      holds_it : is_stamp b.at d.at ≡ true
      holds_it = ap (is_stamp b.at) (sym same) ∙ same_stamp b.at

      passed_by : (z : Bool) → is_up_to t d.at ≡ true → (if z then None else taken_entry t None x) ≡ None
      passed_by true p = refl
      passed_by false p = ap (λ b. if (b && true) then None else Some (after_entry t x)) p

      at : (z gone : Bool) → is_dead_up_to t (death_of h n b.at) ≡ gone → (theirs : Bool) → is_dead_up_to t (death_of g n d.at) ≡ theirs
          → (z ≡ true → is_dead_up_to t (death_of g n d.at) ≡ true)
          → maybe join_entries (own_of b) (if z then None else taken_entry t (own_of b) x) ≡ entry_left t (join_tied o x)
      at z true p theirs q dead =
          let early : is_up_to t d.at ≡ true = ap (is_up_to t) (sym same) ∙ dead_after_birth t h can.mine.ordered n b.at p in
          ap (λ (gone : Bool). let own : Option EntryCell = if gone then None else Some (purged_entry t o) in
          maybe join_entries own (if z then None else taken_entry t own x)) p
          ∙ passed_by z early
          ∙ sym (ap (λ gone. if gone then None else Some (purged_entry t (join_tied o x))) (dead_joined t (death_of h n b.at) (death_of g n d.at)
          ∙ ap (λ a. a || is_dead_up_to t (death_of g n d.at)) p))
      at z false p true q dead =
          absurd (not_both (is_dead_up_to t (death_of h n b.at)) (ap (λ c. is_dead_up_to t (death_of h n c)) same
          ∙ known_death t h g can.covered n d.at q) p)
      at true false p false q dead = absurd (not_both (is_dead_up_to t (death_of g n d.at)) (dead refl) q)
      at false false p false q dead =
          ap (λ (gone : Bool). let own : Option EntryCell = if gone then None else Some (purged_entry t o) in maybe join_entries own (taken_entry t own x)) p
          ∙ ap (λ s. maybe join_entries (Some (purged_entry t o)) (if (is_up_to t d.at && not s) then None else Some (after_entry t x))) holds_it
          ∙ ap (λ s. maybe join_entries (Some (purged_entry t o)) (if s then None else Some (after_entry t x))) (and_false (is_up_to t d.at))
          ∙ ap Some (joined_equal (purged_entry t o) (after_entry t x) tie ∙ tied_taken b d same q)
          ∙ sym (ap (λ gone. if gone then None else Some (purged_entry t (join_tied o x))) (dead_joined t (death_of h n b.at) (death_of g n d.at)
          ∙ ap (λ a. a || is_dead_up_to t (death_of g n d.at)) p ∙ q))
        where
          and_false : (b : Bool) → (b && false) ≡ false
          and_false true = refl
          and_false false = refl

  -- an earlier entry of the other changes nothing
  entry_older : (b d : Born) → stamp_cmp b.at d.at ≡ Greater → (z : Bool)
      → maybe join_entries (own_of b) (if z then None else taken_entry t (own_of b) (entry_at g n d)) ≡ own_of b
  entry_older b d order z = at (is_dead_up_to t (death_of h n b.at)) refl
    where
      o : EntryCell
      o = entry_at h n b

      x : EntryCell
      x = entry_at g n d

      passed_by : (z : Bool) → is_up_to t d.at ≡ true → (if z then None else taken_entry t None x) ≡ None
      passed_by true p = refl
      passed_by false p = ap (λ b. if (b && true) then None else Some (after_entry t x)) p

      wins : (z passed : Bool) → maybe join_entries (Some (purged_entry t o)) (if z then None else (if passed then None else Some (after_entry t x)))
          ≡ Some (purged_entry t o)
      wins true passed = refl
      wins false true = refl
      wins false false = ap Some (joined_greater (purged_entry t o) (after_entry t x) order)

      at : (gone : Bool) → is_dead_up_to t (death_of h n b.at) ≡ gone
          → maybe join_entries (own_of b) (if z then None else taken_entry t (own_of b) x) ≡ own_of b
      at true p =
          let early : is_up_to t d.at ≡ true = earlier_early stamp_total t b.at d.at order (dead_after_birth t h can.mine.ordered n b.at p) in
          ap (λ (gone : Bool). let own : Option EntryCell = if gone then None else Some (purged_entry t o) in
          maybe join_entries own (if z then None else taken_entry t own x)) p
          ∙ passed_by z early ∙ ap (λ gone. if gone then None else Some (purged_entry t o)) (sym p)
      at false p =
          ap (λ (gone : Bool). let own : Option EntryCell = if gone then None else Some (purged_entry t o) in
          maybe join_entries own (if z then None else taken_entry t own x)) p
          ∙ wins z (is_up_to t d.at && not (is_stamp b.at d.at)) ∙ ap (λ gone. if gone then None else Some (purged_entry t o)) (sym p)

  -- the greatest births of the name in both histories, in either order
  entry_met : (b d : Born) → birth_of h n ≡ Some b → birth_of g n ≡ Some d → (z : Bool) → (z ≡ true → is_dead_up_to t (death_of g n d.at) ≡ true)
      → (r : Ordering) → stamp_cmp b.at d.at ≡ r
      → maybe join_entries (own_of b) (if z then None else taken_entry t (own_of b) (entry_at g n d))
      ≡ entry_left t (entry_at (h ++ g) n (if is_lt (ordering_then r (kind_cmp b.kind d.kind)) then d else b))
  entry_met b d p q z dead Less order =
      entry_new d q (ap (λ o. before o d.at) p ∙ ap is_lt order) (own_of b) (gives (is_dead_up_to t (death_of h n b.at))) z dead
    where
      later : (e : EntryCell) → e.birth ≡ d.at → stamp_cmp b.at e.birth ≡ Less
      later e is = ap (stamp_cmp b.at) is ∙ order

      gives : (gone : Bool) (e : EntryCell) → e.birth ≡ d.at
          → maybe join_entries (if gone then None else Some (purged_entry t (entry_at h n b))) (Some e) ≡ Some e
      gives true e is = refl
      gives false e is = ap Some (joined_less (purged_entry t (entry_at h n b)) e (later e is))
  entry_met b d p q z dead Equal order = entry_same b d order z dead ∙ ap (entry_left t) (entries_tied h g n b d (stamp_exact b.at d.at order))
  entry_met b d p q z dead Greater order =
      entry_older b d order z
      ∙ ap (entry_left t) (entry_front h g n b can.theirs.births (ap (λ o. before o b.at) q
      ∙ ap is_lt (stamp_total.antisymm d.at b.at ∙ ap ordering_reverse order)))

  -- one name: what is left of its entry, with what is taken of the other's
  pub entry_taken : (s : Option Stamp) → maybe later_stamp s (Some t) ≡ Some t
      → take_entry t (option_and_then (entry_left t) (entry_of h n)) (option_and_then (entry_left_by s) (entry_of g n))
      ≡ option_and_then (entry_left t) (entry_of (h ++ g) n)
  entry_taken s is = by_births (birth_of h n) (birth_of g n) refl refl
      ∙ ap (λ b. option_and_then (entry_left t) (option_map (entry_at (h ++ g) n) b)) (sym (join_of-append births (birth_in n) h g))
    where
      taken : (own : Option EntryCell) (d : Born)
          → take_entry t own (entry_left_by s (entry_at g n d))
          ≡ maybe join_entries own (if is_gone s (death_of g n d.at) then None else taken_entry t own (entry_at g n d))
      taken own d = ap (maybe join_entries own) (taken_left s t is own (entry_at g n d))

      by_births : (x y : Option Born) → birth_of h n ≡ x → birth_of g n ≡ y
          → take_entry t (option_and_then (entry_left t) (option_map (entry_at h n) x)) (option_and_then (entry_left_by s) (option_map (entry_at g n) y))
          ≡ option_and_then (entry_left t) (option_map (entry_at (h ++ g) n) (maybe (greater birth_cmp) x y))
      by_births None None p q = refl
      by_births (Some b) None p q =
          none_right join_entries (own_of b) ∙ ap (entry_left t) (entry_front h g n b can.theirs.births (ap (λ o. before o b.at) q))
      by_births None (Some d) p q =
          taken None d ∙ entry_new d q (ap (λ o. before o d.at) p) None (λ e is. refl) (is_gone s (death_of g n d.at)) (gone_dead s t is (death_of g n d.at))
      by_births (Some b) (Some d) p q =
          taken (own_of b) d
          ∙ entry_met b d p q (is_gone s (death_of g n d.at)) (gone_dead s t is (death_of g n d.at)) (stamp_cmp b.at d.at) refl

-- ---- tables

-- an Option, as it is
pub some_same : {X : Type 0} (x : Option X) → x ≡ option_and_then Some x
some_same None = refl
some_same (Some x) = refl

-- what the purged table of a history has of a name
pub get-purged : (h : List Mark) (s : Option Stamp) (n : List ℕ) → get (purged_entries h s) n ≡ option_and_then (entry_left_by s) (entry_of h n)
get-purged h None n = get-table_of h n ∙ some_same (entry_of h n)
get-purged h (Some s) n = get-map_some nat_list_cmp_total octets_exact (entry_left s) (table_of h) n ∙ ap (option_and_then (entry_left s)) (get-table_of h n)

-- a purged table, with what is taken of another that can be merged, is the purged table of both
pub taken_table : (h g : List Mark) (s : Option Stamp) (t : Stamp) → maybe later_stamp s (Some t) ≡ Some t → CanMerge h g (Some t)
    → take_table t (purged_entries h (Some t)) (purged_entries g s) ≡ purged_entries (h ++ g) (Some t)
taken_table h g s t is can =
    same_map nat_list_cmp_total octets_exact (take_table t (purged_entries h (Some t)) (purged_entries g s)) (purged_entries (h ++ g) (Some t)) (λ n.
    get-merge nat_list_cmp_total octets_exact (take_entry t) refl (purged_entries h (Some t)) (purged_entries g s) n
    ∙ ap (λ x. take_entry t x (get (purged_entries g s) n)) (get-purged h (Some t) n)
    ∙ ap (take_entry t (option_and_then (entry_left t) (entry_of h n))) (get-purged g s n)
    ∙ entry_taken t h g can n s is ∙ sym (get-purged (h ++ g) (Some t) n))
