-- Replicas of histories that agree up to a stamp answer for each other's facts up to it.
use Rattle.std.proofs.Common.{◌≡◌, ◌≢◌, ℕ, Bool, true, false, not, List, [], ◌∷◌, Option, Some, None, refl, sym, ap, subst, ◌∙◌, arith}
use Rattle.std.specs.Prelude.{◌&&◌, ◌||◌, if◌then◌else◌}
use Rattle.std.specs.FinMap.{get}
use Rattle.std.specs.List.{Contains, find, list_any}
use Rattle.std.specs.Option.{option_and_then, option_map, option_map_or}
use Rattle.std.specs.declared.cmp.Ordering.{Ordering}
use Rattle.std.specs.Ordering.{is_lt, flip_args}
use Rattle.std.specs.Cmp.{IsTotalOrder, tied_itself}
use Rattle.cds_stamps.specs.declared.stamp.Stamp.{Stamp}
use Rattle.cds_stamps.specs.Keyed.{ties_are_equal}
use Rattle.cds_stamps.specs.Octets.{is_octets}
use Rattle.cds_stamps.specs.Stamps.{stamp_total, stamp_exact, is_earlier, is_up_to, is_stamp, earlier_stamp, earlier_stamp_laws}
use Rattle.cds_stamps.specs.Semilattice.{greater}
use Rattle.cds_stamps.proofs.ListMembers.{Contains-none, filter-Contains}
use Rattle.attr_sets.specs.declared.cell.AttrCell.{AttrCell}
use Rattle.attr_sets.specs.Marks.{present_at}
use Rattle.attr_sets.specs.AttributeCells.{AttrMark, attr_stamp, cell_of, empty_cell}
use Rattle.attr_sets.specs.CellPurges.{cell_left, purged_cell, is_empty_cell}
use Rattle.attr_sets.proofs.SomeCellLaws.{some_of-other}
use Rattle.directory.specs.declared.entry.Kind.{Kind}
use Rattle.directory.specs.declared.entry.Kind.TheVariants.{Object, Link, Child}
use Rattle.directory.specs.declared.entry.EntryCell.{EntryCell}
use Rattle.directory.specs.Kinds.{is_kind}
use Rattle.directory.specs.Histories.{Mark, Birth, Death, Attr, Born, name_in, born_in, stamp_in, attr_mark_in, is_birth, birth_of, death_of, attr_history}
use Rattle.directory.specs.Histories.{cell_of_some, entry_at, up_to, IsHistory, SameMarks}
use Rattle.directory.specs.Purges.{purged_entry, is_dead_up_to, purged_entries}
use Rattle.directory.proofs.FragmentLaws.{same_stamp}
use Rattle.directory.proofs.HistoryLaws.{before, no_birth, about}
use Rattle.directory.proofs.KnownLaws.{Covers, known, known_birth, known_death, known_attr, attr_mark, dead_after_birth}
use Rattle.directory.proofs.MemberLaws.{found_in}
use Rattle.directory.proofs.PurgeLaws.{early_early}
use Rattle.directory.proofs.SeenLaws.{birth_among}
use Rattle.directory.proofs.TakeLaws.{get-left, get-purged, entry_left_by}
use Rattle.directory.proofs.UpdateLaws.{all_at, not_both, or_right}
use Rattle.purge_rule.specs.declared.replica.Replica.{Replica}
use Rattle.purge_rule.specs.Replicas.{replica_of}
use Rattle.image_audit.specs.declared.fact.Fact.{Fact}
use Rattle.image_audit.specs.declared.fact.Fact.TheVariants.{Birth as BirthFact, Value as ValueFact}
use Rattle.image_audit.specs.Facts.{answers_cell, answers_fact, is_open, fact_name}
use Rattle.image_audit.specs.Facts.{facts}
use Rattle.image_audit.specs.declared.verdict.Verdict.TheVariants.{Agree}
use Rattle.image_audit.specs.LawWords.{HasReplica}
use Rattle.image_audit.specs.Verdicts.{smaller, is_up_to_same, open_of, first_of, first_open, replica_in, tell_verdict, verdict_of, verdict}
use Rattle.cds_messages.specs.declared.image.Image.{Image}
use Rattle.cds_stamps.specs.declared.numbers.DirId.{DirId}
use Rattle.image_audit.proofs.Looked.{HasBirth, HasValue, HasFact, looked, none-find}
use Rattle.image_audit.proofs.KnownCells.{attr_answers, own_member, mark_stamp, must_be_later}

-- ---- what is left

-- the entry that is left of a history
pub record IsLeft (a : Stamp) (h : List Mark) (n : List ℕ) (e : EntryCell) : Type 0 where
  pub born : Born
  pub of : birth_of h n ≡ Some born
  pub alive : is_dead_up_to a (death_of h n born.at) ≡ false
  pub entry : e ≡ purged_entry a (entry_at h n born)

-- each entry of a purged table is such a one
pub entry-left : (a : Stamp) (h : List Mark) (n : List ℕ) (e : EntryCell) → get (purged_entries h (Some a)) n ≡ Some e → IsLeft a h n e
entry-left a h n e has = by_birth (birth_of h n) refl (sym (get-purged h (Some a) n) ∙ has)
  where
    alive : (b : Born) → birth_of h n ≡ Some b → (t : Bool) → is_dead_up_to a (death_of h n b.at) ≡ t
        → (if t then None else Some (purged_entry a (entry_at h n b))) ≡ Some e → IsLeft a h n e
    alive b of true dead is = absurd (cc (is))
    alive b of false dead is = record { born = b; of = of; alive = dead; entry = inside e (purged_entry a (entry_at h n b)) is }
      where
        inside : (x y : EntryCell) → Some y ≡ Some x → x ≡ y
        inside x y h = cc (h)

    by_birth : (b : Option Born) → birth_of h n ≡ b → option_and_then (entry_left_by (Some a)) (option_map (entry_at h n) b) ≡ Some e → IsLeft a h n e
    by_birth None of is = absurd (cc (is))
    by_birth (Some b) of is = alive b of (is_dead_up_to a (death_of h n b.at)) refl is

-- and where one is left it is looked up
pub left-entry : (t : Stamp) (g : List Mark) (n : List ℕ) (b : Born) → birth_of g n ≡ Some b → is_dead_up_to t (death_of g n b.at) ≡ false
    → get (purged_entries g (Some t)) n ≡ Some (purged_entry t (entry_at g n b))
left-entry t g n b born alive =
    get-purged g (Some t) n ∙ ap (λ b. option_and_then (entry_left_by (Some t)) (option_map (entry_at g n) b)) born
    ∙ ap (λ d. if d then None else Some (purged_entry t (entry_at g n b))) alive

-- the cell that is left of an attribute
pub cell-left : (a : Stamp) (x : List AttrMark) (cell : AttrCell) → option_and_then (cell_left a) (cell_of_some x) ≡ Some cell
    → cell ≡ purged_cell a (cell_of x)
cell-left a [] cell is = absurd (cc (is))
cell-left a (x ∷ xs) cell is = at (is_empty_cell (purged_cell a (cell_of (x ∷ xs)))) is
  where
    at : (b : Bool) → (if b then None else Some (purged_cell a (cell_of (x ∷ xs)))) ≡ Some cell → cell ≡ purged_cell a (cell_of (x ∷ xs))
    at true h = absurd (cc (h))
    at false h = cc (h)

-- and where it is not empty it is left
pub left-cell : (t : Stamp) (y : List AttrMark) (m : AttrMark) → Contains y m → purged_cell t (cell_of y) ≢ empty_cell
    → option_and_then (cell_left t) (cell_of_some y) ≡ Some (purged_cell t (cell_of y))
left-cell t [] m has filled = absurd (Contains-none m has)
left-cell t (y ∷ ys) m has filled = some_of-other (purged_cell t (cell_of (y ∷ ys))) filled

-- ---- births

-- the name and the birth of a mark of an attribute
attr_about : (n : List ℕ) (c : Stamp) (a : List ℕ) (m : Mark) (x : AttrMark) → attr_mark_in n c a m ≡ Some x → (n ≡ name_in m) × (c ≡ born_in m)
attr_about n c a (Birth m k d) x is = absurd (cc (is))
attr_about n c a (Death m d s) x is = absurd (cc (is))
attr_about n c a (Attr m d b y) x is = at (is_octets n m && is_stamp c d) (is_octets a b) refl is
  where
    at : (p q : Bool) → (is_octets n m && is_stamp c d) ≡ p → (if p && q then Some y else None) ≡ Some x → (n ≡ m) × (c ≡ d)
    at true q e h = about n m c d e
    at false q e h = absurd (cc (h))

-- a history in which there is a mark of an entry has no earlier birth alone
born_by : (g : List Mark) (n : List ℕ) (c : Stamp) → list_any (is_birth n c) g ≡ true → before (birth_of g n) c ≡ false
born_by g n c any = at (before (birth_of g n) c) refl
  where
    at : (b : Bool) → before (birth_of g n) c ≡ b → b ≡ false
    at true p = absurd (not_both (list_any (is_birth n c) g) any (no_birth g n c p))
    at false p = refl

kind_itself : (k : Kind) → is_kind k k ≡ true
kind_itself Object = refl
kind_itself Link = refl
kind_itself Child = refl

-- ---- one way

-- the first history has what the second has up to t, and the other way round; of the first
-- deletions up to a, which is not earlier than t, are dropped, and of the second those up to t
module _ (t a : Stamp) (not_before : is_earlier a t ≡ false) (h g : List Mark) (mine : IsHistory h) (theirs : IsHistory g)
    (there : Covers t g h) (back : Covers t h g) where
  dead_later : (d : Option Stamp) → is_dead_up_to t d ≡ true → is_dead_up_to a d ≡ true
  dead_later None e = absurd (cc (e))
  dead_later (Some d) e = early_early stamp_total t a d not_before e

  -- the entry of the second history, where it is born no earlier than that of the first
  record IsMet (n : List ℕ) (c : Stamp) : Type 0 where
    pub born : Born
    pub of : birth_of g n ≡ Some born
    pub not_earlier : is_earlier born.at c ≡ false
    pub alive : is_dead_up_to t (death_of g n born.at) ≡ false

  met : (n : List ℕ) (e : EntryCell) → (left : IsLeft a h n e) → before (birth_of g n) left.born.at ≡ false → IsMet n left.born.at
  met n e left known_there = by_birth (birth_of g n) refl known_there
    where
      c : Stamp
      c = left.born.at

      not_dead : (b : Born) → birth_of g n ≡ Some b → is_earlier b.at c ≡ false → (same : Bool) → is_stamp b.at c ≡ same
          → is_dead_up_to t (death_of g n b.at) ≡ true → ⊥
      not_dead b of not_earlier true same dead =
          let in_mine : is_dead_up_to t (death_of h n c) ≡ true =
          ap (λ s. is_dead_up_to t (death_of h n s)) (sym (ties_are_equal stamp_exact b.at c same)) ∙ known_death t h g back n b.at dead in
          not_both (is_dead_up_to a (death_of h n c)) (dead_later (death_of h n c) in_mine) left.alive
      not_dead b of not_earlier false apart dead =
          let early : is_up_to t b.at ≡ true = dead_after_birth t g theirs.ordered n b.at dead in
          not_both (is_earlier c b.at) (must_be_later stamp_total b.at c not_earlier apart)
          (ap (λ o. before o b.at) (sym left.of) ∙ known_birth t h g back n b of early)

      alive : (b : Born) → birth_of g n ≡ Some b → is_earlier b.at c ≡ false → (dead : Bool) → is_dead_up_to t (death_of g n b.at) ≡ dead → dead ≡ false
      alive b of not_earlier true dead = absurd (not_dead b of not_earlier (is_stamp b.at c) refl dead)
      alive b of not_earlier false dead = refl

      by_birth : (b : Option Born) → birth_of g n ≡ b → before b c ≡ false → IsMet n c
      by_birth None of known_there = absurd (cc (known_there))
      by_birth (Some b) of known_there = record {
        born = b;
        of = of;
        not_earlier = known_there;
        alive = alive b of known_there (is_dead_up_to t (death_of g n b.at)) refl;
      }

  -- a fact of an entry is answered, if the entry that is met answers
  answered_by : (n : List ℕ) (c : Stamp) (m : IsMet n c) (f : Fact) → fact_name f ≡ n
      → answers_fact f (purged_entry t (entry_at g n m.born)) ≡ true → is_open (purged_entries g (Some t)) f ≡ false
  answered_by n c m f named answers =
      ap (λ n. not (option_map_or (answers_fact f) (get (purged_entries g (Some t)) n) false)) named
      ∙ ap (λ e. not (option_map_or (answers_fact f) e false)) (left-entry t g n m.born m.of m.alive)
      ∙ ap not answers

  -- of births that are not earlier, one is later, or the same
  later_or_same : (n : List ℕ) (c : Stamp) (m : IsMet n c) (P : Type 0) → (is_earlier c m.born.at ≡ true → P) → (m.born.at ≡ c → P) → P
  later_or_same n c m P later same = at (is_stamp m.born.at c) refl
    where
      at : (b : Bool) → is_stamp m.born.at c ≡ b → P
      at true is = same (ties_are_equal stamp_exact m.born.at c is)
      at false apart = later (must_be_later stamp_total m.born.at c m.not_earlier apart)

  birth_answered : (n : List ℕ) (k : Kind) (c : Stamp) → HasBirth t (purged_entries h (Some a)) n k c → is_open (purged_entries g (Some t)) (BirthFact n k c) ≡ false
  birth_answered n k c fact =
      let left = entry-left a h n fact.entry fact.has in
      let birth : left.born.at ≡ c = ap (λ (e : EntryCell). e.birth) (sym left.entry) ∙ fact.birth in
      let kind : left.born.kind ≡ k = ap (λ (e : EntryCell). e.kind) (sym left.entry) ∙ fact.kind in
      let early : is_up_to t left.born.at ≡ true = ap (is_up_to t) birth ∙ fact.early in
      let m = met n fact.entry left (known_birth t g h there n left.born left.of early) in
      later_or_same n left.born.at m (is_open (purged_entries g (Some t)) (BirthFact n k c) ≡ false)
      (λ later. answered_by n left.born.at m (BirthFact n k c) refl
      (ap (λ b. b || (is_stamp m.born.at c && is_kind m.born.kind k)) (ap (λ s. is_earlier s m.born.at) (sym birth) ∙ later)))
      (λ same.
      let in_mine : Contains h (Birth n m.born.kind left.born.at) =
      subst (λ s. Contains h (Birth n m.born.kind s)) same
      (known t h g back (Birth n m.born.kind m.born.at) (birth_among g n m.born m.of) (ap (is_up_to t) same ∙ early)) in
      let one : m.born.kind ≡ k = mine.kinds n left.born.at m.born.kind left.born.kind in_mine (birth_among h n left.born left.of) ∙ kind in
      answered_by n left.born.at m (BirthFact n k c) refl
      (or_right (is_earlier c m.born.at) (is_stamp m.born.at c && is_kind m.born.kind k)
      (ap (λ s. is_stamp s c && is_kind m.born.kind k) (same ∙ birth) ∙ ap (λ b. b && is_kind m.born.kind k) (same_stamp c)
      ∙ ap (λ j. is_kind j k) one ∙ kind_itself k)))

  value_answered : (n : List ℕ) (c : Stamp) (attr v : List ℕ) (s : Stamp) → HasValue t (purged_entries h (Some a)) n c attr v s
      → is_open (purged_entries g (Some t)) (ValueFact n c attr v s) ≡ false
  value_answered n c attr v s fact =
      let left = entry-left a h n fact.of.entry fact.of.has in
      let b : Stamp = left.born.at in
      let birth : b ≡ c = ap (λ (e : EntryCell). e.birth) (sym left.entry) ∙ fact.of.birth in
      let x = attr_history h n b attr in
      let y = attr_history g n b attr in
      let cell : fact.cell ≡ purged_cell a (cell_of x) =
      cell-left a x fact.cell (sym (get-left a h n b attr) ∙ ap (λ (e : EntryCell). get e.attrs attr) (sym left.entry) ∙ fact.of.has_cell) in
      let present : get (purged_cell a (cell_of x)).values v ≡ Some (present_at s) =
      ap (λ (c : AttrCell). get c.values v) (sym cell) ∙ fact.marked in
      let own = own_member a x v s present in
      let at_s : is_up_to t (attr_stamp own.0) ≡ true = ap (is_up_to t) (mark_stamp v own.0 (present_at s) own.2) ∙ fact.early in
      let mark = found_in (attr_mark_in n b attr) h own.0 own.1 in
      let has : Contains g mark.0 = known t g h there mark.0 mark.1 (ap (is_up_to t) (attr_mark n b attr mark.0 own.0 mark.2) ∙ at_s) in
      let is_about = attr_about n b attr mark.0 own.0 mark.2 in
      let any : list_any (is_birth n b) g ≡ true =
      ap (λ n. list_any (is_birth n b) g) is_about.0 ∙ ap (λ c. list_any (is_birth (name_in mark.0) c) g) is_about.1
      ∙ all_at (λ m. list_any (is_birth (name_in m) (born_in m)) g ≡ true) g mark.0 theirs.births has in
      let m = met n fact.of.entry left (born_by g n b any) in
      later_or_same n b m (is_open (purged_entries g (Some t)) (ValueFact n c attr v s) ≡ false)
      (λ later. answered_by n b m (ValueFact n c attr v s) refl
      (ap (λ e. e || (is_stamp m.born.at c && option_map_or (answers_cell v s) (get (purged_entry t (entry_at g n m.born)).attrs attr) false))
      (ap (λ s. is_earlier s m.born.at) (sym birth) ∙ later)))
      (λ same.
      let answers = attr_answers t a x y v s fact.early (known_attr t g h there n b attr) (known_attr t h g back n b attr) present in
      let in_both : Contains y own.0 = known_attr t g h there n b attr own.0 own.1 at_s in
      let stays : get (purged_entry t (entry_at g n m.born)).attrs attr ≡ Some (purged_cell t (cell_of y)) =
      get-left t g n m.born.at attr ∙ ap (λ b. option_and_then (cell_left t) (cell_of_some (attr_history g n b attr))) same
      ∙ left-cell t y own.0 in_both answers.filled in
      answered_by n b m (ValueFact n c attr v s) refl
      (or_right (is_earlier c m.born.at)
      (is_stamp m.born.at c && option_map_or (answers_cell v s) (get (purged_entry t (entry_at g n m.born)).attrs attr) false)
      (ap (λ r. is_stamp r c && option_map_or (answers_cell v s) (get (purged_entry t (entry_at g n m.born)).attrs attr) false) (same ∙ birth)
      ∙ ap (λ e. e && option_map_or (answers_cell v s) (get (purged_entry t (entry_at g n m.born)).attrs attr) false) (same_stamp c)
      ∙ ap (λ d. option_map_or (answers_cell v s) d false) stays ∙ answers.answers)))

  -- each fact of the first up to t is answered
  pub fact_answered : (f : Fact) → HasFact t (purged_entries h (Some a)) f → is_open (purged_entries g (Some t)) f ≡ false
  fact_answered (BirthFact n k c) fact = birth_answered n k c fact
  fact_answered (ValueFact n c attr v s) fact = value_answered n c attr v s fact

-- ---- both ways

-- where neither has an open fact there is none
both_none : (f g : Option Fact) → f ≡ None → g ≡ None → first_of f g ≡ None
both_none f g p q = ap (λ f. first_of f g) p ∙ ap (first_of None) q

-- of two stamps the earlier is later than neither
not_before_first : (x y : Stamp) → is_earlier x (earlier_stamp x y) ≡ false
not_before_first = first_of stamp_total
  where
    first_of : {K : Type 0} {R : K → K → Ordering} → IsTotalOrder R → (x y : K) → is_lt (R x (greater (flip_args R) x y)) ≡ false
    first_of o x y = grind (arith, o.antisymm x y, o.antisymm y x, tied_itself o x)

-- what the two have up to t is known both ways
covered : (t : Stamp) (h g : List Mark) → SameMarks (up_to h (Some t)) (up_to g (Some t)) → Covers t h g
covered t h g same m has = (filter-Contains (λ m. is_up_to t (stamp_in m)) h m ((same m).1 has)).0

swapped : (h g : List Mark) (t : Option Stamp) → SameMarks (up_to h t) (up_to g t) → SameMarks (up_to g t) (up_to h t)
swapped h g t same m = ((same m).1, (same m).0)

-- nothing of the first is open up to t, where the second is asked
none_open : (h g : List Mark) (x y t : Stamp) → is_earlier x t ≡ false → IsHistory h → IsHistory g → SameMarks (up_to h (Some t)) (up_to g (Some t))
    → open_of (Some t) (replica_of h (Some x)) (replica_of g (Some y)) ≡ None
none_open h g x y t not_before mine theirs same = at (is_stamp t y) refl
  where
    at : (b : Bool) → is_stamp t y ≡ b
        → (if b then find (is_open (purged_entries g (Some y))) (facts (Some t) (purged_entries h (Some x))) else None) ≡ None
    at true is =
        none-find (is_open (purged_entries g (Some y))) (facts (Some t) (purged_entries h (Some x))) (λ f c.
        subst (λ u. is_open (purged_entries g (Some u)) f ≡ false) (ties_are_equal stamp_exact t y is)
        (fact_answered t x not_before h g mine theirs (covered t g h (swapped h g (Some t) same)) (covered t h g same) f
        (looked t (purged_entries h (Some x)) f c)))
    at false apart = refl

-- where there is no AllUpTo nothing is open
none_asked : (own other : Replica) → open_of None own other ≡ None
none_asked own other = at (is_up_to_same None other.all_up_to) (find (is_open other.table) (facts None own.table)) refl
  where
    at : (b : Bool) (x : Option Fact) → x ≡ None → (if b then x else None) ≡ None
    at true x e = e
    at false x e = refl

-- replicas that agree up to the smaller AllUpTo have no open fact
pub none_differ : (h g : List Mark) (a b : Option Stamp) → IsHistory h → IsHistory g → SameMarks (up_to h (smaller a b)) (up_to g (smaller a b))
    → first_open (replica_of h a) (replica_of g b) ≡ None
none_differ h g None b mine theirs same = both_none _ _ (none_asked (replica_of h None) (replica_of g b)) (none_asked (replica_of g b) (replica_of h None))
none_differ h g (Some x) None mine theirs same =
    both_none _ _ (none_asked (replica_of h (Some x)) (replica_of g None)) (none_asked (replica_of g None) (replica_of h (Some x)))
none_differ h g (Some x) (Some y) mine theirs same =
    let t : Stamp = earlier_stamp x y in
    both_none _ _ (none_open h g x y t (not_before_first x y) mine theirs same)
    (none_open g h y x t (ap (is_earlier y) (earlier_stamp_laws.comm x y) ∙ not_before_first y x) theirs mine (swapped h g (Some t) same))

-- images that have such replicas agree
pub images_agree : (first second : Image) (dir : DirId) (h g : List Mark) (a b : Option Stamp) → HasReplica first dir h a → HasReplica second dir g b
    → IsHistory h → IsHistory g → SameMarks (up_to h (smaller a b)) (up_to g (smaller a b)) → verdict first second dir ≡ Agree (smaller a b)
images_agree first second dir h g a b one two mine theirs same =
    ap (λ r. verdict_of r (replica_in second dir)) one ∙ ap (verdict_of (Some (replica_of h a))) two
    ∙ ap (tell_verdict (smaller a b)) (none_differ h g a b mine theirs same)
