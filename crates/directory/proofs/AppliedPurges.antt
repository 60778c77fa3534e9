-- An accepted update in a purged table: its marks are later than what was dropped, so the table is
-- the purged one with them.
use Rattle.std.proofs.Common.{◌≡◌, ℕ, Bool, true, false, List, [], ◌∷◌, ◌++◌, Option, Some, None, refl, sym, ap, subst, ◌∙◌, ◌⊎◌, inl, inr, ⊎_elim}
use Rattle.std.specs.Prelude.{◌&&◌, not, is_none, IfSome, if◌then◌else◌}
use Rattle.std.specs.FinMap.{get, same_map}
use Rattle.std.specs.List.{Contains}
use Rattle.std.specs.Option.{option_and_then, option_map, IsSomeAnd}
use Rattle.std.specs.Ordering.{flip_args}
use Rattle.std.specs.Cmp.Lexicographic.{nat_list_cmp_total}
use Rattle.cds_stamps.specs.declared.stamp.Stamp.{Stamp}
use Rattle.cds_stamps.specs.Semilattice.{maybe}
use Rattle.cds_stamps.specs.Keyed.{ties_are_equal, map_some, get-map_some}
use Rattle.cds_stamps.specs.Stamps.{stamp_cmp, is_earlier, is_stamp, is_up_to}
use Rattle.cds_stamps.specs.Octets.{octets_exact, is_octets}
use Rattle.cds_stamps.specs.Undos.{RaisesAt}
use Rattle.cds_stamps.proofs.ListMembers.{filter-Contains}
use Rattle.attr_sets.specs.declared.mark.ValueMark.{ValueMark}
use Rattle.attr_sets.specs.Marks.{mark_cmp, mark_after_clear}
use Rattle.attr_sets.specs.AttributeCells.{AttrMark, Cleared, Marked, attr_stamp, clear_in, mark_in, cell_of, greatest_clear, greatest_mark}
use Rattle.attr_sets.specs.CellLawProofs.{same_cell, get-cell_of}
use Rattle.attr_sets.specs.CellPurges.{mark_after, clear_left, after_cell, some_cell, cell_after}
use Rattle.attr_sets.proofs.CellPurgeLaws.{get-after_cell}
use Rattle.attr_sets.proofs.Greatest.{Contains-cases, join_of-among, same_inside}
use Rattle.attr_sets.proofs.SomeCellLaws.{some_cell-of_some}
use Rattle.directory.specs.declared.entry.EntryCell.{EntryCell}
use Rattle.directory.specs.Applied.{TakesIn}
use Rattle.directory.specs.Entries.{Entries, join_entries, IsValidEntry}
use Rattle.directory.specs.Histories.{Mark, Birth, Born, stamp_in, death_in, attr_mark_in, birth_of, death_of, attr_history, cell_of_some}
use Rattle.directory.specs.Histories.{attrs_of, entry_at, entry_of, up_to, IsHistory, IsBefore, CanMerge}
use Rattle.directory.specs.Purges.{purged_entries, entry_left, after_entry, holds, is_passed, take_entry}
use Rattle.directory.specs.Shown.{Shown, leads, face_of, shown_entry, shown_of_name, shown_in, refusal_of, marks_of}
use Rattle.directory.specs.Updates.{Change, changed_name}
use Rattle.directory.proofs.FragmentLaws.{same_stamp}
use Rattle.directory.proofs.HistoryLaws.{get-attrs_of}
use Rattle.directory.proofs.KnownLaws.{death_mark, attr_mark}
use Rattle.directory.proofs.MemberLaws.{found_in}
use Rattle.directory.proofs.PurgeLaws.{purged-valid, shown_in-purged}
use Rattle.directory.proofs.SeenLaws.{birth_among}
use Rattle.directory.proofs.TableLaws.{birth_of-other}
use Rattle.directory.proofs.TakeLaws.{entry_taken, get-purged, some_same}
use Rattle.directory.proofs.UpdateLaws.{IsUpdate, IsAbout, all_at, not_both, marks_are, old_birth, one_birth_of, all_history, both_history, names_of_all}
use Rattle.directory.proofs.UpdateLaws.{applied-table_of}

-- ---- marks of an attribute that are all later than t

abbrev AreLater : Stamp → List AttrMark → Type 0
AreLater t x = (m : AttrMark) → Contains x m → is_up_to t (attr_stamp m) ≡ false

module _ (t : Stamp) (x : List AttrMark) (late : AreLater t x) where
  clear_late : option_and_then (clear_left t) (greatest_clear x) ≡ greatest_clear x
  clear_late = at (greatest_clear x) refl
    where
      stamped : (m : AttrMark) (s : Stamp) → clear_in m ≡ Some s → attr_stamp m ≡ s
      stamped (Cleared r) s is = same_inside r s is
      stamped (Marked v m) s is = cc (is)

      at : (c : Option Stamp) → greatest_clear x ≡ c → option_and_then (clear_left t) c ≡ c
      at None is = refl
      at (Some c) is =
          let m = join_of-among stamp_cmp clear_in x c is in
          ap (λ b. if b then None else Some c) (ap (is_up_to t) (sym (stamped m.0 c m.2)) ∙ late m.0 m.1)

  mark_late : (v : List ℕ) → option_and_then (mark_after t) (greatest_mark x v) ≡ greatest_mark x v
  mark_late v = at (greatest_mark x v) refl
    where
      stamped : (m : AttrMark) (y : ValueMark) → mark_in v m ≡ Some y → attr_stamp m ≡ y.stamp
      stamped (Cleared r) y is = cc (is)
      stamped (Marked w m) y is = inside (is_octets v w) is
        where
          inside : (b : Bool) → (if b then Some m else None) ≡ Some y → m.stamp ≡ y.stamp
          inside true p = ap (λ (z : ValueMark). z.stamp) (same_inside m y p)
          inside false p = cc (p)

      at : (m : Option ValueMark) → greatest_mark x v ≡ m → option_and_then (mark_after t) m ≡ m
      at None is = refl
      at (Some y) is =
          let m = join_of-among mark_cmp (mark_in v) x y is in
          ap (λ b. if b then None else Some y) (ap (is_up_to t) (sym (stamped m.0 y m.2)) ∙ late m.0 m.1)

  kept_late : (c : Option Stamp) (m : Option ValueMark) → option_and_then (mark_after t) m ≡ m → option_and_then (mark_after t) (mark_after_clear c m) ≡ mark_after_clear c m
  kept_late c None is = refl
  kept_late None (Some m) is = is
  kept_late (Some c) (Some m) is = at (is_earlier m.stamp c)
    where
      at : (b : Bool) → option_and_then (mark_after t) (if b then None else Some m) ≡ (if b then None else Some m)
      at true = refl
      at false = is

  cell_late : after_cell t (cell_of x) ≡ cell_of x
  cell_late = same_cell (after_cell t (cell_of x)) (cell_of x) clear_late (λ v.
      get-after_cell t (cell_of x) v ∙ ap (option_and_then (mark_after t)) (get-cell_of x v)
      ∙ kept_late (greatest_clear x) (greatest_mark x v) (mark_late v) ∙ sym (get-cell_of x v))

some_late : (t : Stamp) (x : List AttrMark) → AreLater t x → option_and_then (cell_after t) (cell_of_some x) ≡ cell_of_some x
some_late t [] late = refl
some_late t (y ∷ ys) late = ap some_cell (cell_late t (y ∷ ys) late) ∙ some_cell-of_some y ys

-- ---- the entry that shows is held

holds_shown : (own : Option EntryCell) (x : Shown) → option_and_then shown_entry own ≡ Some x → holds own x.birth ≡ true
holds_shown None x is = cc (is)
holds_shown (Some o) x is = at (is_none o.death && leads o.kind (face_of o).values) is
  where
    at : (b : Bool) → (if b then Some (face_of o) else None) ≡ Some x → is_stamp o.birth x.birth ≡ true
    at true p = ap (is_stamp o.birth) (sym (ap (λ (y : Shown). y.birth) (same_inside (face_of o) x p))) ∙ same_stamp o.birth
    at false p = cc (p)

-- ---- the marks of an update

module _ (h : List Mark) (n : List ℕ) (s : Stamp) (ms : List Mark) (known : IsHistory h) (before : IsBefore h s) (u : IsUpdate (shown_of_name h n) n s ms)
    (t : Stamp) (above : is_earlier t s ≡ true) where
  abbrev all : List Mark
  all = Birth n u.kind u.birth ∷ u.rest

  late : is_up_to t s ≡ false
  late = ap not above

  rest_late : (m : Mark) → Contains u.rest m → is_up_to t (stamp_in m) ≡ false
  rest_late m has = ap (is_up_to t) (all_at (IsAbout n u.birth s) u.rest m u.about has).2 ∙ late

  death_late : (q : List ℕ) (c : Stamp) (m : Mark) (d : Stamp) → Contains all m → death_in q c m ≡ Some d → is_up_to t d ≡ false
  death_late q c m d has is =
      ⊎_elim (λ first. none_first (ap (death_in q c) first ∙ is)) (λ rest. ap (is_up_to t) (sym (death_mark q c m d is).0) ∙ rest_late m rest)
      (Contains-cases (Birth n u.kind u.birth) u.rest m has)
    where
      none_first : None ≡ Some d → is_up_to t d ≡ false
      none_first e = cc (e)

  attr_late : (q : List ℕ) (c : Stamp) (a : List ℕ) → AreLater t (attr_history all q c a)
  attr_late q c a x has =
      let m = found_in (attr_mark_in q c a) all x has in
      ⊎_elim (λ first. none_first (ap (attr_mark_in q c a) first ∙ m.2))
      (λ rest. ap (is_up_to t) (sym (attr_mark q c a m.0 x m.2)) ∙ rest_late m.0 rest) (Contains-cases (Birth n u.kind u.birth) u.rest m.0 m.1)
    where
      none_first : None ≡ Some x → is_up_to t (attr_stamp x) ≡ false
      none_first e = cc (e)

  entry_late : (b : Born) → after_entry t (entry_at all n b) ≡ entry_at all n b
  entry_late b =
      let cells : map_some (cell_after t) (attrs_of all n b.at) ≡ attrs_of all n b.at =
      same_map nat_list_cmp_total octets_exact (map_some (cell_after t) (attrs_of all n b.at)) (attrs_of all n b.at) (λ a.
      get-map_some nat_list_cmp_total octets_exact (cell_after t) (attrs_of all n b.at) a
      ∙ ap (option_and_then (cell_after t)) (get-attrs_of all n b.at a) ∙ some_late t (attr_history all n b.at a) (attr_late n b.at a)
      ∙ sym (get-attrs_of all n b.at a)) in
      λ i. record { birth = b.at; kind = b.kind; death = death (death_of all n b.at) refl i; attrs = cells i }
    where
      death : (d : Option Stamp) → death_of all n b.at ≡ d → option_and_then (clear_left t) d ≡ d
      death None is = refl
      death (Some d) is =
          let m = join_of-among (flip_args stamp_cmp) (death_in n b.at) all d is in
          ap (λ b. if b then None else Some d) (death_late n b.at m.0 d m.1 m.2)

  covered : (m : Mark) → Contains (up_to all (Some t)) m → Contains h m
  covered m has =
      let found = filter-Contains (λ m. is_up_to t (stamp_in m)) all m has in
      ⊎_elim (λ first. by_source m first found.1 u.source) (λ rest. absurd (not_both (is_up_to t (stamp_in m)) found.1 (rest_late m rest)))
      (Contains-cases (Birth n u.kind u.birth) u.rest m found.0)
    where
      by_source : (m : Mark) → Birth n u.kind u.birth ≡ m → is_up_to t (stamp_in m) ≡ true
          → (u.birth ≡ s) ⊎ ((x : Shown) × (shown_of_name h n ≡ Some x) × (x.birth ≡ u.birth) × (x.kind ≡ u.kind)) → Contains h m
      by_source m first early (inl new) =
          absurd (not_both (is_up_to t (stamp_in m)) early (ap (λ m. is_up_to t (stamp_in m)) (sym first) ∙ ap (is_up_to t) new ∙ late))
      by_source m first early (inr old) = subst (Contains h) first (old_birth h n s ms known before u old.0 old.1 old.2 old.3)

  abbrev can : CanMerge h all (Some t)
  can = record {
    covered = covered;
    mine = known;
    theirs = all_history h n s ms known before u;
    both = both_history h n s ms known before u;
  }

  not_passed : (b : Born) → birth_of all n ≡ Some b → is_passed t (get (purged_entries h (Some t)) n) (entry_at all n b) ≡ false
  not_passed b born = by_source u.source
    where
      own : Option EntryCell
      own = get (purged_entries h (Some t)) n

      same : u.birth ≡ b.at
      same = (one_birth_of h n s ms known before u n b.kind b.at (birth_among all n b born)).2

      and_false : (x : Bool) → (x && false) ≡ false
      and_false true = refl
      and_false false = refl

      by_source : (u.birth ≡ s) ⊎ ((x : Shown) × (shown_of_name h n ≡ Some x) × (x.birth ≡ u.birth) × (x.kind ≡ u.kind))
          → (is_up_to t b.at && not (holds own b.at)) ≡ false
      by_source (inl new) = ap (λ x. x && not (holds own b.at)) (ap (is_up_to t) (sym same ∙ new) ∙ late)
      by_source (inr old) =
          let held : holds own b.at ≡ true = ap (holds own) (sym (old.2 ∙ same)) ∙ holds_shown own old.0 (shown_in-purged h (Some t) n ∙ old.1) in
          ap (λ x. is_up_to t b.at && not x) held ∙ and_false (is_up_to t b.at)

  -- the entry of the update, joined into a purged table
  pub applied_late : (old new : Entries) (e : EntryCell) → old ≡ purged_entries h (Some t) → entry_of all n ≡ Some e → RaisesAt join_entries old new n e
      → new ≡ purged_entries (h ++ all) (Some t)
  applied_late old new e stands made raises = by_birth (birth_of all n) refl
    where
      at_name : (b : Born) → birth_of all n ≡ Some b → entry_at all n b ≡ e → (q : List ℕ) (named : Bool) → is_octets q n ≡ named
          → maybe join_entries (get (purged_entries h (Some t)) q) (if named then Some e else None) ≡ take_entry t (get (purged_entries h (Some t)) q) (entry_of all q)
      at_name b born is q false apart =
          ap (take_entry t (get (purged_entries h (Some t)) q))
          (sym (ap (option_map (entry_at all q)) (birth_of-other all n q (names_of_all h n s ms known before u) apart)))
      at_name b born is q true same =
          let own : Option EntryCell = get (purged_entries h (Some t)) q in
          let here : q ≡ n = ties_are_equal octets_exact q n same in
          let stays : is_passed t own e ≡ false =
          ap (λ k. is_passed t (get (purged_entries h (Some t)) k) e) here ∙ ap (is_passed t (get (purged_entries h (Some t)) n)) (sym is) ∙ not_passed b born in
          let whole : after_entry t e ≡ e = ap (after_entry t) (sym is) ∙ entry_late b ∙ is in
          ap (λ x. maybe join_entries own (Some x)) (sym whole)
          ∙ ap (λ b. maybe join_entries own (if b then None else Some (after_entry t e))) (sym stays)
          ∙ ap (take_entry t own) (sym (ap (entry_of all) here ∙ made))

      by_birth : (x : Option Born) → birth_of all n ≡ x → new ≡ purged_entries (h ++ all) (Some t)
      by_birth None born = absurd (no_entry (sym (ap (option_map (entry_at all n)) born) ∙ made))
        where
          no_entry : None ≡ Some e → ⊥
          no_entry p = cc (p)
      by_birth (Some b) born =
          let is : entry_at all n b ≡ e = same_inside (entry_at all n b) e (sym (ap (option_map (entry_at all n)) born) ∙ made) in
          same_map nat_list_cmp_total octets_exact new (purged_entries (h ++ all) (Some t)) (λ q.
          raises q ∙ ap (λ m. maybe join_entries (get m q) (if is_octets q n then Some e else None)) stands
          ∙ at_name b born is q (is_octets q n) refl
          ∙ ap (λ x. take_entry t x (entry_of all q)) (get-purged h (Some t) q)
          ∙ ap (take_entry t (option_and_then (entry_left t) (entry_of h q))) (some_same (entry_of all q))
          ∙ entry_taken t h all can q None refl ∙ sym (get-purged (h ++ all) (Some t) q))

-- an accepted update that is applied to the purged table of a history, and is stamped later than
-- what was dropped
pub applied-purged : (h : List Mark) (u : Change) (s : Stamp) → IsHistory h → IsBefore h s → refusal_of (shown_of_name h (changed_name u)) u ≡ None
    → (a : Option Stamp) → IfSome a (λ t. is_earlier t s ≡ true) → (old new : Entries) → old ≡ purged_entries h a
    → TakesIn old new (changed_name u) (marks_of (shown_in old (changed_name u)) u s)
    → new ≡ purged_entries (h ++ marks_of (shown_of_name h (changed_name u)) u s) a
applied-purged h u s known before accepted None above old new stands takes = applied-table_of h u s known before accepted old new stands takes
applied-purged h u s known before accepted (Some t) above old new stands takes =
    let seen_there : shown_in old (changed_name u) ≡ shown_of_name h (changed_name u) = ap (λ m. shown_in m (changed_name u)) stands
    ∙ shown_in-purged h (Some t) (changed_name u) in
    subst (λ ms. new ≡ purged_entries (h ++ ms) (Some t)) (sym update.marks)
    (by_entry (entry_of all (changed_name u)) refl
    (subst (TakesIn old new (changed_name u)) (ap (λ x. marks_of x u s) seen_there ∙ update.marks) takes))
  where
    update : IsUpdate (shown_of_name h (changed_name u)) (changed_name u) s (marks_of (shown_of_name h (changed_name u)) u s)
    update = marks_are (shown_of_name h (changed_name u)) u s accepted

    all : List Mark
    all = Birth (changed_name u) update.kind update.birth ∷ update.rest

    by_entry : (x : Option EntryCell) → entry_of all (changed_name u) ≡ x
        → IsSomeAnd x (λ e. IfSome (get old (changed_name u)) IsValidEntry → RaisesAt join_entries old new (changed_name u) e)
        → new ≡ purged_entries (h ++ all) (Some t)
    by_entry None is joins = absurd joins
    by_entry (Some e) is joins =
        applied_late h (changed_name u) s _ known before update t above old new e stands is
        (joins (subst (λ m. IfSome (get m (changed_name u)) IsValidEntry) (sym stands) (purged-valid h (Some t) (changed_name u))))
