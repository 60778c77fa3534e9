-- Of two tables purged up to one stamp, each of which answers for the other's facts up to it, each
-- has a fact of the other or what outdoes it, and all that does is later than the stamp.
use Rattle.std.proofs.Common.{◌≡◌, ◌⊎◌, inl, inr, ℕ, Bool, true, false, not, List, Option, Some, None, refl, sym, ap, subst, ◌∙◌, ⊎_elim, arith}
use Rattle.std.specs.Prelude.{◌&&◌, ◌||◌, if◌then◌else◌, IfSome}
use Rattle.std.specs.FinMap.{get}
use Rattle.std.specs.List.{Contains, find}
use Rattle.std.specs.Option.{option_and_then, option_map_or}
use Rattle.std.specs.declared.cmp.Ordering.{Ordering}
use Rattle.std.specs.Ordering.{is_lt, eq_by_cmp}
use Rattle.std.specs.Cmp.{IsTotalOrder}
use Rattle.std.specs.Cmp.Lexicographic.{nat_list_cmp_total}
use Rattle.cds_stamps.specs.declared.stamp.Stamp.{Stamp}
use Rattle.cds_stamps.specs.Keyed.{ties_are_equal, get-map_some}
use Rattle.cds_stamps.specs.Octets.{octets_exact}
use Rattle.cds_stamps.specs.Stamps.{stamp_total, stamp_exact, is_earlier, is_up_to, is_stamp, earlier_stamp_laws}
use Rattle.attr_sets.specs.declared.mark.ValueMark.{ValueMark}
use Rattle.attr_sets.specs.declared.cell.AttrCell.{AttrCell}
use Rattle.attr_sets.specs.Marks.{mark_after_clear, present_at}
use Rattle.attr_sets.specs.CellPurges.{clear_left, cell_left, purged_cell, is_empty_cell}
use Rattle.attr_sets.proofs.CellPurgeLaws.{get-purged_cell}
use Rattle.attr_sets.proofs.Greatest.{same_inside}
use Rattle.attr_sets.proofs.MarkPurgeLaws.{left}
use Rattle.directory.specs.declared.entry.Kind.{Kind}
use Rattle.directory.specs.declared.entry.EntryCell.{EntryCell}
use Rattle.directory.specs.EntryLawProofs.{kind_exact}
use Rattle.directory.specs.Entries.{Entries, IsValidEntry, IsHeldCell, IsValidTable}
use Rattle.directory.specs.Kinds.{is_kind}
use Rattle.directory.specs.Purges.{purged_entry, is_dead_up_to, entry_left, purged_table}
use Rattle.directory.specs.Histories.{Mark, table_of}
use Rattle.directory.specs.Purges.{purged_entries}
use Rattle.directory.proofs.FragmentLaws.{same_stamp}
use Rattle.directory.proofs.PurgeLaws.{purged-valid}
use Rattle.directory.proofs.UpdateLaws.{not_both}
use Rattle.purge_rule.specs.Replicas.{replica_of}
use Rattle.cds_messages.specs.declared.image.Image.{Image}
use Rattle.cds_stamps.specs.declared.numbers.DirId.{DirId}
use Rattle.image_audit.specs.declared.fact.Fact.{Fact}
use Rattle.image_audit.specs.declared.fact.Fact.TheVariants.{Birth, Value}
use Rattle.image_audit.specs.Facts.{facts, fact_cmp, answers_birth, answers_mark, answers_cell, answers_value, is_open}
use Rattle.image_audit.specs.LawWords.{LaterBirth, HasCell, LaterClear, LaterMark, Outdoes, HasReplica, HoldsUpTo}
use Rattle.image_audit.specs.declared.verdict.Verdict.TheVariants.{Agree}
use Rattle.image_audit.specs.Verdicts.{smaller, is_up_to_same, open_of, first_of, first_open, replica_in, tell_verdict, verdict_of, verdict}
use Rattle.image_audit.proofs.Looked.{HasBirth, HasValue, HasFact, looked, listed, both_pass, find-none}
use Rattle.image_audit.proofs.KnownCells.{later-than}

-- ---- any order

module _ {K : Type 0} {R : K → K → Ordering} (o : IsTotalOrder R) where
  not_back : (s r : K) → is_lt (R r s) ≡ true → is_lt (R s r) ≡ false
  not_back s r p = grind (arith, p, o.antisymm r s, o.antisymm s r)

  not_one : (s r : K) → is_lt (R r s) ≡ true → eq_by_cmp R r s ≡ false
  not_one s r p = grind (arith, p, o.antisymm r s, o.antisymm s r)

-- one of two tests passes
either_passes : (a b : Bool) → (a || b) ≡ true → (a ≡ true) ⊎ (b ≡ true)
either_passes true b e = inl refl
either_passes false b e = inr e

-- what answers, of what may be missing
answering : {A : Type 0} (p : A → Bool) (x : Option A) → option_map_or p x false ≡ true → (y : A) × (x ≡ Some y) × (p y ≡ true)
answering p None e = absurd (cc (e))
answering p (Some x) e = (x, refl, e)

answered : (b : Bool) → not b ≡ false → b ≡ true
answered true e = refl
answered false e = absurd (cc (e))

-- ---- the table holds the fact, or what outdoes it

module _ (t : Stamp) (table : Entries) where
  abbrev Answer : Fact → Type 0
  Answer f = HasFact t table f ⊎ ((s : Stamp) × Outdoes table f s)

  birth_held : (n : List ℕ) (k : Kind) (c : Stamp) → is_up_to t c ≡ true → is_open table (Birth n k c) ≡ false → Answer (Birth n k c)
  birth_held n k c early closed =
      let found = answering (answers_birth k c) (get table n) (answered (option_map_or (answers_birth k c) (get table n) false) closed) in
      by_answer found.0 found.1 (either_passes (is_earlier c found.0.birth) (is_stamp found.0.birth c && is_kind found.0.kind k) found.2)
    where
      by_answer : (e : EntryCell) → get table n ≡ Some e → (is_earlier c e.birth ≡ true) ⊎ ((is_stamp e.birth c && is_kind e.kind k) ≡ true) → Answer (Birth n k c)
      by_answer e has (inl later) = inr (e.birth, record { entry = e; has = has; birth = refl; later = later })
      by_answer e has (inr same) =
          let both = both_pass (is_stamp e.birth c) (is_kind e.kind k) same in
          inl (record {
            entry = e;
            has = has;
            kind = ties_are_equal kind_exact e.kind k both.1;
            birth = ties_are_equal stamp_exact e.birth c both.0;
            early = early;
          })

  value_held : (n : List ℕ) (c : Stamp) (a v : List ℕ) (s : Stamp) → is_up_to t s ≡ true → is_open table (Value n c a v s) ≡ false
      → Answer (Value n c a v s)
  value_held n c a v s early closed =
      let found = answering (answers_value c a v s) (get table n) (answered (option_map_or (answers_value c a v s) (get table n) false) closed) in
      by_answer found.0 found.1
      (either_passes (is_earlier c found.0.birth) (is_stamp found.0.birth c && option_map_or (answers_cell v s) (get found.0.attrs a) false) found.2)
    where
      by_mark : (cell : AttrCell) → HasCell table n c a cell → (m : ValueMark) → get cell.values v ≡ Some m
          → (is_earlier s m.stamp ≡ true) ⊎ ((m.present && is_stamp m.stamp s) ≡ true) → Answer (Value n c a v s)
      by_mark cell of m marked (inl later) =
          inr (m.stamp, inr (inr (record { cell = cell; of = of; mark = m; marked = marked; stamp = refl; later = later })))
      by_mark cell of m marked (inr same) =
          let both = both_pass m.present (is_stamp m.stamp s) same in
          let one : m.stamp ≡ s = ties_are_equal stamp_exact m.stamp s both.1 in
          let is : m ≡ present_at s = λ i. record { present = both.0 i; stamp = one i } in
          inl (record { cell = cell; of = of; marked = marked ∙ ap Some is; early = early })

      by_cell : (cell : AttrCell) → HasCell table n c a cell
          → (option_map_or (is_earlier s) cell.cleared false ≡ true) ⊎ (option_map_or (answers_mark s) (get cell.values v) false ≡ true)
          → Answer (Value n c a v s)
      by_cell cell of (inl cleared) =
          let z = answering (is_earlier s) cell.cleared cleared in
          inr (z.0, inr (inl (record { cell = cell; of = of; clear = z.1; later = z.2 })))
      by_cell cell of (inr marked) =
          let m = answering (answers_mark s) (get cell.values v) marked in
          by_mark cell of m.0 m.1 (either_passes (is_earlier s m.0.stamp) (m.0.present && is_stamp m.0.stamp s) m.2)

      by_answer : (e : EntryCell) → get table n ≡ Some e
          → (is_earlier c e.birth ≡ true) ⊎ ((is_stamp e.birth c && option_map_or (answers_cell v s) (get e.attrs a) false) ≡ true)
          → Answer (Value n c a v s)
      by_answer e has (inl later) = inr (e.birth, inl (record { entry = e; has = has; birth = refl; later = later }))
      by_answer e has (inr same) =
          let both = both_pass (is_stamp e.birth c) (option_map_or (answers_cell v s) (get e.attrs a) false) same in
          let cell = answering (answers_cell v s) (get e.attrs a) both.1 in
          by_cell cell.0 (record { entry = e; has = has; birth = ties_are_equal stamp_exact e.birth c both.0; has_cell = cell.1 })
          (either_passes (option_map_or (is_earlier s) cell.0.cleared false) (option_map_or (answers_mark s) (get cell.0.values v) false) cell.2)

  -- a table that answers for a fact up to t has it, or what outdoes it
  pub held_or_outdone : (f : Fact) → (own : Entries) → HasFact t own f → is_open table f ≡ false → Answer f
  held_or_outdone (Birth n k c) own fact closed = birth_held n k c fact.early closed
  held_or_outdone (Value n c a v s) own fact closed = value_held n c a v s fact.early closed

-- ---- what a purged table has

-- the cells of a purged table are purged
purged_in : (t : Stamp) (whole : Entries) (n : List ℕ) (c : Stamp) (a : List ℕ) (cell : AttrCell) → HasCell (purged_table t whole) n c a cell
    → (all : AttrCell) × (cell ≡ purged_cell t all)
purged_in t whole n c a cell of =
    by_entry (get whole n) (sym (get-map_some nat_list_cmp_total octets_exact (entry_left t) whole n) ∙ of.has)
  where
    by_cell : (x : Option AttrCell) → option_and_then (cell_left t) x ≡ Some cell → (all : AttrCell) × (cell ≡ purged_cell t all)
    by_cell None is = absurd (cc (is))
    by_cell (Some x) is = at (is_empty_cell (purged_cell t x)) is
      where
        at : (b : Bool) → (if b then None else Some (purged_cell t x)) ≡ Some cell → (all : AttrCell) × (cell ≡ purged_cell t all)
        at true h = absurd (cc (h))
        at false h = (x, sym (same_inside (purged_cell t x) cell h))

    by_entry : (x : Option EntryCell) → option_and_then (entry_left t) x ≡ Some of.entry → (all : AttrCell) × (cell ≡ purged_cell t all)
    by_entry None is = absurd (cc (is))
    by_entry (Some x) is = at (is_dead_up_to t x.death) is
      where
        at : (b : Bool) → (if b then None else Some (purged_entry t x)) ≡ Some of.entry → (all : AttrCell) × (cell ≡ purged_cell t all)
        at true h = absurd (cc (h))
        at false h =
            by_cell (get x.attrs a)
            (sym (get-map_some nat_list_cmp_total octets_exact (cell_left t) x.attrs a)
            ∙ ap (λ (e : EntryCell). get e.attrs a) (same_inside (purged_entry t x) of.entry h) ∙ of.has_cell)

-- a clear that is left is later than t
late_clear : (t : Stamp) (all : AttrCell) (s : Stamp) → (purged_cell t all).cleared ≡ Some s → is_up_to t s ≡ false
late_clear t all s is = by_clear all.cleared is
  where
    by_clear : (z : Option Stamp) → option_and_then (clear_left t) z ≡ Some s → is_up_to t s ≡ false
    by_clear None h = absurd (cc (h))
    by_clear (Some z) h = at (is_up_to t z) refl h
      where
        at : (b : Bool) → is_up_to t z ≡ b → (if b then None else Some z) ≡ Some s → is_up_to t s ≡ false
        at true up h = absurd (cc (h))
        at false up h = ap (is_up_to t) (sym (same_inside z s h)) ∙ up

-- a mark that is left is present, or later than t
late_mark : (t : Stamp) (all : AttrCell) (v : List ℕ) (m : ValueMark) → get (purged_cell t all).values v ≡ Some m
    → (m.present || not (is_up_to t m.stamp)) ≡ true
late_mark t all v m is = by_mark (get all.values v) (sym (get-purged_cell t all v) ∙ is)
  where
    by_mark : (x : Option ValueMark) → left t x ≡ Some m → (m.present || not (is_up_to t m.stamp)) ≡ true
    by_mark None h = absurd (cc (h))
    by_mark (Some x) h = at (x.present || not (is_up_to t x.stamp)) refl h
      where
        at : (b : Bool) → (x.present || not (is_up_to t x.stamp)) ≡ b → (if b then Some x else None) ≡ Some m
            → (m.present || not (is_up_to t m.stamp)) ≡ true
        at true stays h = ap (λ (y : ValueMark). y.present || not (is_up_to t y.stamp)) (sym (same_inside x m h)) ∙ stays
        at false stays h = absurd (cc (h))

-- ---- what outdoes a fact is later

same_one : {A : Type 0} (x y : Option A) (a b : A) → x ≡ Some a → y ≡ Some b → x ≡ y → a ≡ b
same_one x y a b p q r = cc (p, q, r)

-- a table that is purged up to t, and another, valid, which answers for all of its facts up to t
module _ (t : Stamp) (whole own : Entries) (valid : IsValidTable own)
    (closed : (f : Fact) → HasFact t (purged_table t whole) f → is_open own f ≡ false) where
  abbrev other : Entries
  other = purged_table t whole

  -- what is not up to t is later
  later : (s : Stamp) → (is_up_to t s ≡ true → ⊥) → is_earlier t s ≡ true
  later s never = at (is_earlier t s) refl
    where
      at : (b : Bool) → is_earlier t s ≡ b → b ≡ true
      at true p = refl
      at false p = absurd (never (ap not p))

  -- the birth that is later than that of an own entry is later than t
  late_birth : (n : List ℕ) (e : EntryCell) → get own n ≡ Some e → (s : Stamp) → LaterBirth other n e.birth s → is_earlier t s ≡ true
  late_birth n e has s b = later s (λ up.
      let fact : HasBirth t other n b.entry.kind s = record { entry = b.entry; has = b.has; kind = refl; birth = b.birth; early = up } in
      let silent : option_map_or (answers_birth b.entry.kind s) (get own n) false ≡ false =
      ap (λ x. option_map_or (answers_birth b.entry.kind s) x false) has
      ∙ ap (λ x. x || (is_stamp e.birth s && is_kind e.kind b.entry.kind)) (not_back stamp_total s e.birth b.later)
      ∙ ap (λ x. x && is_kind e.kind b.entry.kind) (not_one stamp_total s e.birth b.later) in
      not_both (option_map_or (answers_birth b.entry.kind s) (get own n) false)
      (answered (option_map_or (answers_birth b.entry.kind s) (get own n) false) (closed (Birth n b.entry.kind s) fact)) silent)

  -- a present mark that is later than an own present one is later than t
  late_present : (n : List ℕ) (c : Stamp) (a v : List ℕ) (r s : Stamp) → HasValue t own n c a v r → LaterMark (HasCell other n c a) v r s
      → (m : ValueMark) → m ≡ present_at s → is_up_to t s ≡ true → (cell : AttrCell) → HasCell other n c a cell → get cell.values v ≡ Some m → ⊥
  late_present n c a v r s mine mark m is up cell of marked =
      let fact : HasValue t other n c a v s = record { cell = cell; of = of; marked = marked ∙ ap Some is; early = up } in
      not_both (option_map_or (answers_value c a v s) (get own n) false)
      (answered (option_map_or (answers_value c a v s) (get own n) false) (closed (Value n c a v s) fact)) silent
    where
      held : IsHeldCell mine.cell
      held =
          let entry : IsValidEntry mine.of.entry = subst (λ e. IfSome e IsValidEntry) mine.of.has (valid n) in
          subst (λ d. IfSome d IsHeldCell) mine.of.has_cell (entry a)

      -- no own clear is later
      clear_silent : option_map_or (is_earlier s) mine.cell.cleared false ≡ false
      clear_silent = by_clear mine.cell.cleared (ap (mark_after_clear mine.cell.cleared) (sym mine.marked) ∙ held.0 v ∙ mine.marked)
        where
          by_clear : (z : Option Stamp) → mark_after_clear z (Some (present_at r)) ≡ Some (present_at r) → option_map_or (is_earlier s) z false ≡ false
          by_clear None h = refl
          by_clear (Some z) h = later-than stamp_total z r s (not_earlier (is_earlier r z) h) mark.later
            where
              not_earlier : (b : Bool) → (if b then None else Some (present_at r)) ≡ Some (present_at r) → b ≡ false
              not_earlier true h = absurd (cc (h))
              not_earlier false h = refl

      mark_silent : answers_mark s (present_at r) ≡ false
      mark_silent =
          ap (λ b. b || is_stamp r s) (not_back stamp_total s r mark.later) ∙ not_one stamp_total s r mark.later

      cell_silent : answers_cell v s mine.cell ≡ false
      cell_silent =
          ap (λ b. b || option_map_or (answers_mark s) (get mine.cell.values v) false) clear_silent
          ∙ ap (λ m. option_map_or (answers_mark s) m false) mine.marked ∙ mark_silent

      itself : is_earlier c c ≡ false
      itself = not_before_itself stamp_total c
        where
          not_before_itself : {K : Type 0} {R : K → K → Ordering} → IsTotalOrder R → (x : K) → is_lt (R x x) ≡ false
          not_before_itself o x = grind (arith, o.antisymm x x)

      and_false : (b x : Bool) → x ≡ false → (b && x) ≡ false
      and_false true x e = e
      and_false false x e = refl

      silent : option_map_or (answers_value c a v s) (get own n) false ≡ false
      silent =
          ap (λ e. option_map_or (answers_value c a v s) e false) mine.of.has
          ∙ ap (λ b. is_earlier c b || (is_stamp mine.of.entry.birth c && option_map_or (answers_cell v s) (get mine.of.entry.attrs a) false)) mine.of.birth
          ∙ ap (λ b. b || (is_stamp mine.of.entry.birth c && option_map_or (answers_cell v s) (get mine.of.entry.attrs a) false)) itself
          ∙ and_false (is_stamp mine.of.entry.birth c) (option_map_or (answers_cell v s) (get mine.of.entry.attrs a) false)
          (ap (λ d. option_map_or (answers_cell v s) d false) mine.of.has_cell ∙ cell_silent)

  late_marked : (n : List ℕ) (c : Stamp) (a v : List ℕ) (r s : Stamp) → HasValue t own n c a v r → LaterMark (HasCell other n c a) v r s → is_earlier t s ≡ true
  late_marked n c a v r s mine mark = later s (λ up. by_flag up mark.mark.present refl)
    where
      left_mark : (mark.mark.present || not (is_up_to t mark.mark.stamp)) ≡ true
      left_mark =
          let all = purged_in t whole n c a mark.cell mark.of in
          late_mark t all.0 v mark.mark (ap (λ (d : AttrCell). get d.values v) (sym all.1) ∙ mark.marked)

      by_flag : is_up_to t s ≡ true → (b : Bool) → mark.mark.present ≡ b → ⊥
      by_flag up true shows =
          let is : mark.mark ≡ present_at s = λ i. record { present = shows i; stamp = mark.stamp i } in
          late_present n c a v r s mine mark mark.mark is up mark.cell mark.of mark.marked
      by_flag up false gone =
          not_both (mark.mark.present || not (is_up_to t mark.mark.stamp)) left_mark
          (ap (λ b. b || not (is_up_to t mark.mark.stamp)) gone ∙ ap (λ r. not (is_up_to t r)) mark.stamp ∙ ap not up)

  late_cleared : (n : List ℕ) (c : Stamp) (a : List ℕ) (r s : Stamp) → LaterClear other n c a r s → is_earlier t s ≡ true
  late_cleared n c a r s clear = later s (λ up.
      let all = purged_in t whole n c a clear.cell clear.of in
      not_both (is_up_to t s) up (late_clear t all.0 s (ap (λ (d : AttrCell). d.cleared) (sym all.1) ∙ clear.clear)))

  -- all that outdoes an own fact up to t is later than t
  pub outdone_later : (f : Fact) → HasFact t own f → (s : Stamp) → Outdoes other f s → is_earlier t s ≡ true
  outdone_later (Birth n k c) fact s by =
      late_birth n fact.entry fact.has s (subst (λ b. LaterBirth other n b s) (sym fact.birth) by)
  outdone_later (Value n c a v r) fact s (inl by) =
      late_birth n fact.of.entry fact.of.has s (subst (λ b. LaterBirth other n b s) (sym fact.of.birth) by)
  outdone_later (Value n c a v r) fact s (inr (inl by)) = late_cleared n c a r s by
  outdone_later (Value n c a v r) fact s (inr (inr by)) = late_marked n c a v r s fact by

-- ---- images

-- replicas of which nothing is open
no_fact : (f g : Option Fact) → first_of f g ≡ None → (f ≡ None) × (g ≡ None)
no_fact None None e = (refl, refl)
no_fact None (Some g) e = absurd (cc (e))
no_fact (Some f) None e = absurd (cc (e))
no_fact (Some f) (Some g) e = at (is_lt (fact_cmp g f)) (2, g) (1, f) e
  where
    at : (b : Bool) (x y : ℕ × Fact) → (if b then Some x else Some y) ≡ None → (Some f ≡ None) × (Some g ≡ None)
    at true x y h = absurd (cc (h))
    at false x y h = absurd (cc (h))

agrees : (t u : Option Stamp) (x : Option (ℕ × Fact)) → tell_verdict t x ≡ Agree u → x ≡ None
agrees t u None e = refl
agrees t u (Some x) e = absurd (cc (e))

one_stamp : (t : Stamp) → smaller (Some t) (Some t) ≡ Some t
one_stamp t = ap Some (earlier_stamp_laws.idem t)

itself_asked : (t : Stamp) → is_up_to_same (Some t) (Some t) ≡ true
itself_asked t = same_stamp t

-- where an audit of two images says that the replicas of two histories with one AllUpTo agree
module _ (first second : Image) (dir : DirId) (h g : List Mark) (t : Stamp) (mine : HasReplica first dir h (Some t))
    (theirs : HasReplica second dir g (Some t)) (agree : verdict first second dir ≡ Agree (Some t)) where
  none_open : first_open (replica_of h (Some t)) (replica_of g (Some t)) ≡ None
  none_open =
      agrees (smaller (Some t) (Some t)) (Some t) (first_open (replica_of h (Some t)) (replica_of g (Some t)))
      (ap (verdict_of (Some (replica_of h (Some t)))) (sym theirs) ∙ ap (λ r. verdict_of r (replica_in second dir)) (sym mine) ∙ agree)

  both : (open_of (Some t) (replica_of h (Some t)) (replica_of g (Some t)) ≡ None) × (open_of (Some t) (replica_of g (Some t)) (replica_of h (Some t)) ≡ None)
  both =
      no_fact (open_of (Some t) (replica_of h (Some t)) (replica_of g (Some t))) (open_of (Some t) (replica_of g (Some t)) (replica_of h (Some t)))
      (ap (λ u. first_of (open_of u (replica_of h (Some t)) (replica_of g (Some t))) (open_of u (replica_of g (Some t)) (replica_of h (Some t))))
      (sym (one_stamp t)) ∙ none_open)

  -- each fact of the one is answered by the other
  closed_by : (x y : List Mark) → open_of (Some t) (replica_of x (Some t)) (replica_of y (Some t)) ≡ None
      → (f : Fact) → HasFact t (purged_entries x (Some t)) f → is_open (purged_entries y (Some t)) f ≡ false
  closed_by x y none f fact =
      find-none (is_open (purged_entries y (Some t))) (facts (Some t) (purged_entries x (Some t)))
      (ap (λ b. if b then find (is_open (purged_entries y (Some t))) (facts (Some t) (purged_entries x (Some t))) else None) (sym (itself_asked t)) ∙ none)
      f (listed t (purged_entries x (Some t)) f fact)

  holds : (x y : List Mark) → open_of (Some t) (replica_of x (Some t)) (replica_of y (Some t)) ≡ None
      → open_of (Some t) (replica_of y (Some t)) (replica_of x (Some t)) ≡ None
      → (f : Fact) → Contains (facts (Some t) (purged_entries x (Some t))) f → HoldsUpTo t (purged_entries y (Some t)) f
  holds x y none back f among =
      let fact = looked t (purged_entries x (Some t)) f among in
      record {
        held =
            ⊎_elim (λ has. inl (listed t (purged_entries y (Some t)) f has)) inr
            (held_or_outdone t (purged_entries y (Some t)) f (purged_entries x (Some t)) fact (closed_by x y none f fact));
        later = outdone_later t (table_of y) (purged_entries x (Some t)) (purged-valid x (Some t)) (closed_by y x back) f fact;
      }

  -- each fact of the first is held by the second, or outdone by what is later
  pub first_held : (f : Fact) → Contains (facts (Some t) (purged_entries h (Some t))) f → HoldsUpTo t (purged_entries g (Some t)) f
  first_held = holds h g both.0 both.1

  -- and each of the second by the first
  pub second_held : (f : Fact) → Contains (facts (Some t) (purged_entries g (Some t))) f → HoldsUpTo t (purged_entries h (Some t)) f
  second_held = holds g h both.1 both.0
