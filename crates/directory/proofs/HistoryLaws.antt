-- The table of two histories together.
use Rattle.std.proofs.Common.{◌≡◌, ℕ, Bool, true, false, List, [], ◌∷◌, ◌++◌, map, Option, Some, None, refl, sym, ap, ◌∙◌, arith, append-nil}
use Rattle.std.specs.Prelude.{◌&&◌, ◌||◌, if◌then◌else◌}
use Rattle.std.specs.FinMap.{IsAntisymmetric, get, same_map}
use Rattle.std.specs.List.{filter_map, list_any, AllByRecursion}
use Rattle.std.specs.Option.{option_map}
use Rattle.std.specs.declared.cmp.Ordering.{Ordering}
use Rattle.std.specs.declared.cmp.Ordering.TheVariants.{Less, Equal, Greater}
use Rattle.std.specs.Ordering.{is_lt, ordering_then, ordering_reverse}
use Rattle.std.specs.Cmp.{IsTotalOrder, nat_cmp_total}
use Rattle.std.specs.Cmp.Lexicographic.{nat_list_cmp_total}
use Rattle.std.proofs.lemmas.Cmp.{on_total, then_total}
use Rattle.std.proofs.lemmas.Map.Lookups.{exact_pairs}
use Rattle.std.proofs.lemmas.List.Elements.{filter_map-append}
use Rattle.cds_stamps.specs.declared.stamp.Stamp.{Stamp}
use Rattle.cds_stamps.specs.Semilattice.{IsSemilattice, maybe, join_of-append, greater, greater_semilattice}
use Rattle.cds_stamps.specs.Keyed.{ties_are_equal, get-of_all_keys}
use Rattle.cds_stamps.specs.Stamps.{stamp_cmp, stamp_total, stamp_exact, is_earlier, is_stamp, earlier_stamp, earlier_stamp_laws}
use Rattle.cds_stamps.specs.Octets.{octets_exact, is_octets}
use Rattle.cds_stamps.specs.Joins.{join_maps, get-join_maps}
use Rattle.attr_sets.specs.AttributeCells.{AttrMark, join_cells}
use Rattle.attr_sets.specs.CellLawProofs.{join_cells-cell_of}
use Rattle.directory.specs.declared.entry.Kind.{Kind}
use Rattle.directory.specs.Kinds.{rank, kind_cmp}
use Rattle.directory.specs.Entries.{join_tied, join_entries, join_tables}
use Rattle.directory.specs.EntryLawProofs.{kind_exact}
use Rattle.directory.specs.Histories.{Mark, Birth, Death, Attr, Born, name_in, born_in, birth_in, death_in, attr_mark_in, attr_in}
use Rattle.directory.specs.Histories.{birth_cmp, birth_of, death_of, attr_history, cell_of_some, attrs_of, entry_at, entry_of, table_of, is_birth, HasBirths}

-- ---- what a history says nothing of

no_name : (h : List Mark) (n : List ℕ) → list_any (is_octets n) (map name_in h) ≡ false → birth_of h n ≡ None
no_name [] n e = refl
no_name (Birth m k c ∷ h) n e = grind (arith, no_name h n, e)
no_name (Death m c s ∷ h) n e = grind (arith, no_name h n, e)
no_name (Attr m c a x ∷ h) n e = grind (arith, no_name h n, e)

no_attr : (h : List Mark) (n : List ℕ) (c : Stamp) (a : List ℕ) → list_any (is_octets a) (filter_map attr_in h) ≡ false → attr_history h n c a ≡ []
no_attr [] n c a e = refl
no_attr (Birth m k d ∷ h) n c a e = no_attr h n c a e
no_attr (Death m d s ∷ h) n c a e = no_attr h n c a e
no_attr (Attr m d b x ∷ h) n c a e = grind (arith, no_attr h n c a, e)

-- what the table of a history has of a name
pub get-table_of : (h : List Mark) (n : List ℕ) → get (table_of h) n ≡ entry_of h n
get-table_of h = get-of_all_keys nat_list_cmp_total octets_exact (map name_in h) (entry_of h) (λ n e. ap (option_map (entry_at h n)) (no_name h n e))

-- what the entry of a history has of an attribute
pub get-attrs_of : (h : List Mark) (n : List ℕ) (c : Stamp) (a : List ℕ) → get (attrs_of h n c) a ≡ cell_of_some (attr_history h n c a)
get-attrs_of h n c =
    get-of_all_keys nat_list_cmp_total octets_exact (filter_map attr_in h) (λ a. cell_of_some
    (attr_history h n c a)) (λ a e. ap cell_of_some (no_attr h n c a e))

-- ---- two histories, at one birth

cells_joined : (x y : List AttrMark) → maybe join_cells (cell_of_some x) (cell_of_some y) ≡ cell_of_some (x ++ y)
cells_joined [] y = refl
cells_joined (x ∷ xs) [] = ap cell_of_some (sym (append-nil (x ∷ xs)))
cells_joined (x ∷ xs) (y ∷ ys) = ap Some (join_cells-cell_of (x ∷ xs) (y ∷ ys))

-- the attributes of one birth in two histories
pub attrs_joined : (g h : List Mark) (n : List ℕ) (c : Stamp) → join_maps join_cells (attrs_of g n c) (attrs_of h n c) ≡ attrs_of (g ++ h) n c
attrs_joined g h n c = same_map nat_list_cmp_total octets_exact (join_maps join_cells (attrs_of g n c) (attrs_of h n c)) (attrs_of (g ++ h) n c) (λ a.
    cc (
      get-join_maps nat_list_cmp_total octets_exact join_cells (attrs_of g n c) (attrs_of h n c) a,
      get-attrs_of g n c a,
      get-attrs_of h n c a,
      get-attrs_of (g ++ h) n c a,
      cells_joined (attr_history g n c a) (attr_history h n c a),
      filter_map-append (attr_mark_in n c a) g h,
    ))

-- ---- births

-- the birth is earlier than c, or there is none
abbrev pub before : Option Born → Stamp → Bool
before None c = true
before (Some b) c = is_earlier b.at c

both_before : {E K : Type 0} (key : E → K) {R : K → K → Ordering} → IsTotalOrder R → (S : E → E → Ordering) (x y : E) (c : K)
    → is_lt (R (key (greater (λ a b. ordering_then (R (key a) (key b)) (S a b)) x y)) c) ≡ true → (is_lt (R (key x) c) ≡ true) × (is_lt (R (key y) c) ≡ true)
both_before key o S x y c e = grind (arith, e, o.trans (key x) (key y) c, o.trans (key y) (key x) c, o.congr (key x) (key y) c, o.antisymm (key x) (key y))

pub before-maybe : (x y : Option Born) (c : Stamp) → before (maybe (greater birth_cmp) x y) c ≡ true → (before x c ≡ true) × (before y c ≡ true)
before-maybe None y c e = (refl, e)
before-maybe (Some x) None c e = (e, refl)
before-maybe (Some x) (Some y) c e = both_before (λ (b : Born). b.at) stamp_total (λ a b. kind_cmp a.kind b.kind) x y c e

pub not_tied : (c d : Stamp) → is_earlier d c ≡ true → is_stamp c d ≡ false
not_tied c d e = grind (arith, stamp_total.antisymm c d)

-- a mark that is tied to (n, c) is about it
pub about : (n m : List ℕ) (c d : Stamp) → (is_octets n m && is_stamp c d) ≡ true → (n ≡ m) × (c ≡ d)
about n m c d e = parts (is_octets n m) (is_stamp c d) refl refl e
  where
    parts : (s t : Bool) → is_octets n m ≡ s → is_stamp c d ≡ t → (s && t) ≡ true → (n ≡ m) × (c ≡ d)
    parts true true p q e = (ties_are_equal octets_exact n m p, ties_are_equal stamp_exact c d q)
    parts true false p q e = cc
    parts false t p q e = cc

-- a birth that is later than all of a history is not in it
pub no_birth : (h : List Mark) (n : List ℕ) (c : Stamp) → before (birth_of h n) c ≡ true → list_any (is_birth n c) h ≡ false
no_birth [] n c e = refl
no_birth (Birth m k d ∷ h) n c e =
    let both = before-maybe (birth_in n (Birth m k d)) (birth_of h n) c e in
    at (is_octets n m) both.0 (no_birth h n c both.1)
  where
    at : (b : Bool) → before (if b then Some (record { at = d; kind = k }) else None) c ≡ true → list_any (is_birth n c) h ≡ false
        → ((b && is_stamp c d) || list_any (is_birth n c) h) ≡ false
    at true p q = rw (not_tied c d p) q
    at false p q = q
no_birth (Death m d s ∷ h) n c e = no_birth h n c e
no_birth (Attr m d a x ∷ h) n c e = no_birth h n c e

-- nothing is known of an entry whose birth is not known
pub no_death : (h all : List Mark) (n : List ℕ) (c : Stamp) → AllByRecursion (λ x. list_any (is_birth (name_in x) (born_in x)) all ≡ true) h
    → list_any (is_birth n c) all ≡ false → death_of h n c ≡ None
no_death [] all n c b e = refl
no_death (Birth m k d ∷ h) all n c b e = no_death h all n c b.1 e
no_death (Death m d s ∷ h) all n c b e = at (is_octets n m && is_stamp c d) refl (no_death h all n c b.1 e)
  where
    at : (t : Bool) → (is_octets n m && is_stamp c d) ≡ t → death_of h n c ≡ None → maybe earlier_stamp (if t then Some s else None) (death_of h n c) ≡ None
    at true p q = let same = about n m c d p in cc (b.0, e, same.0, same.1)
    at false p q = q
no_death (Attr m d a x ∷ h) all n c b e = no_death h all n c b.1 e

-- so no mark of an attribute is about it
pub no_attrs : (h all : List Mark) (n : List ℕ) (c : Stamp) (a : List ℕ)
    → AllByRecursion (λ x. list_any (is_birth (name_in x) (born_in x)) all ≡ true) h → list_any (is_birth n c) all ≡ false → attr_history h n c a ≡ []
no_attrs [] all n c a b e = refl
no_attrs (Birth m k d ∷ h) all n c a b e = no_attrs h all n c a b.1 e
no_attrs (Death m d s ∷ h) all n c a b e = no_attrs h all n c a b.1 e
no_attrs (Attr m d y x ∷ h) all n c a b e = at (is_octets n m && is_stamp c d) refl (no_attrs h all n c a b.1 e)
  where
    at : (t : Bool) → (is_octets n m && is_stamp c d) ≡ t → attr_history h n c a ≡ [] → attr_history (Attr m d y x ∷ h) n c a ≡ []
    at true p q = let same = about n m c d p in cc (b.0, e, same.0, same.1)
    at false p q = rw p q

-- ---- entries

pub birth_exact : IsAntisymmetric birth_cmp
birth_exact a b e =
    ap (λ (p : Stamp × Kind). record { at = p.0; kind = p.1 }) (exact_pairs stamp_cmp kind_cmp stamp_exact kind_exact (a.at, a.kind) (b.at, b.kind) e)

-- births that may be missing are a semilattice
pub births : IsSemilattice (greater birth_cmp)
births = greater_semilattice (then_total (on_total (λ b. b.at) stamp_total) (on_total (λ b. b.kind) (on_total rank nat_cmp_total))) birth_exact

-- the least death of two histories
pub death_joined : (g h : List Mark) (n : List ℕ) (c : Stamp) → maybe earlier_stamp (death_of g n c) (death_of h n c) ≡ death_of (g ++ h) n c
death_joined g h n c = sym (join_of-append earlier_stamp_laws (death_in n c) g h)

no_death_right : (x : Option Stamp) → maybe earlier_stamp x None ≡ x
no_death_right None = refl
no_death_right (Some x) = refl

-- a history that knows no such birth adds nothing to the entry
pub entry_right : (g h : List Mark) (n : List ℕ) (b : Born) → HasBirths g → before (birth_of g n) b.at ≡ true → entry_at h n b ≡ entry_at (g ++ h) n b
entry_right g h n b born e =
    let none = no_birth g n b.at e in
    let death : death_of h n b.at ≡ death_of (g ++ h) n b.at = cc (death_joined g h n b.at, no_death g g n b.at born none) in
    let attrs : attrs_of h n b.at ≡ attrs_of (g ++ h) n b.at = same_map nat_list_cmp_total octets_exact _ _ (λ a.
    cc (get-attrs_of h n b.at a, get-attrs_of (g ++ h) n b.at a, filter_map-append (attr_mark_in n b.at a) g h, no_attrs g g n b.at a born none)) in
    λ i. record { birth = b.at; kind = b.kind; death = death i; attrs = attrs i }

-- nor does one that is joined from the other side
pub entry_front : (g h : List Mark) (n : List ℕ) (b : Born) → HasBirths h → before (birth_of h n) b.at ≡ true → entry_at g n b ≡ entry_at (g ++ h) n b
entry_front g h n b born e =
    let none = no_birth h n b.at e in
    let death : death_of g n b.at
    ≡ death_of (g ++ h) n b.at = cc (death_joined g h n b.at, no_death h h n b.at born none, no_death_right (death_of g n b.at)) in
    let attrs : attrs_of g n b.at ≡ attrs_of (g ++ h) n b.at = same_map nat_list_cmp_total octets_exact _ _ (λ a.
    cc (
      get-attrs_of g n b.at a,
      get-attrs_of
          (g ++ h) n b.at a,
      filter_map-append (attr_mark_in n b.at a) g h,
      no_attrs h h n b.at a born none,
      append-nil (attr_history g n b.at a),
    )) in
    λ i. record { birth = b.at; kind = b.kind; death = death i; attrs = attrs i }

-- entries of one birth
pub entries_tied : (g h : List Mark) (n : List ℕ) (b d : Born) → b.at ≡ d.at
    → join_tied (entry_at g n b) (entry_at h n d) ≡ entry_at (g ++ h) n (if is_lt (kind_cmp b.kind d.kind) then d else b)
entries_tied g h n b d same = at (is_lt (kind_cmp b.kind d.kind))
  where
    death : (c e : Stamp) → c ≡ e → maybe earlier_stamp (death_of g n c) (death_of h n e) ≡ death_of (g ++ h) n c
    death c e is = ap (λ e. maybe earlier_stamp (death_of g n c) (death_of h n e)) (sym is) ∙ death_joined g h n c

    attrs : (c e : Stamp) → c ≡ e → join_maps join_cells (attrs_of g n c) (attrs_of h n e) ≡ attrs_of (g ++ h) n c
    attrs c e is = ap (λ e. join_maps join_cells (attrs_of g n c) (attrs_of h n e)) (sym is) ∙ attrs_joined g h n c

    at : (t : Bool)
        → record {
          birth = b.at;
          kind = if t then d.kind else b.kind;
          death = maybe earlier_stamp (death_of g n b.at) (death_of h n d.at);
          attrs = join_maps join_cells (attrs_of g n b.at) (attrs_of h n d.at);
        }
        ≡ entry_at (g ++ h) n (if t then d else b)
    at false i = record { birth = b.at; kind = b.kind; death = death b.at d.at same i; attrs = attrs b.at d.at same i }
    at true i =
        let deaths = death b.at d.at same ∙ ap (death_of (g ++ h) n) same in
        let cells = attrs b.at d.at same ∙ ap (attrs_of (g ++ h) n) same in
        record { birth = same i; kind = d.kind; death = deaths i; attrs = cells i }

-- what two histories have of a name, joined
pub entries_joined : (g h : List Mark) (n : List ℕ) → HasBirths g → HasBirths h → maybe join_entries (entry_of g n) (entry_of h n) ≡ entry_of (g ++ h) n
entries_joined g h n p q = by_births (birth_of g n) (birth_of h n) refl refl
    ∙ ap (option_map (entry_at (g ++ h) n)) (sym (join_of-append births (birth_in n) g h))
  where
    picked : (b d : Born) → birth_of g n ≡ Some b → birth_of h n ≡ Some d → (r : Ordering) → stamp_cmp b.at d.at ≡ r
        → (elim r [ Less ↦ entry_at h n d | Equal ↦ join_tied (entry_at g n b) (entry_at h n d) | Greater ↦ entry_at g n b ])
        ≡ entry_at (g ++ h) n (if is_lt (ordering_then r (kind_cmp b.kind d.kind)) then d else b)
    picked b d x y Less e = entry_right g h n d p (ap (λ o. before o d.at) x ∙ ap is_lt e)
    picked b d x y Equal e = entries_tied g h n b d (stamp_exact b.at d.at e)
    picked b d x y Greater e = entry_front g h n b q (ap (λ o. before o b.at) y ∙ ap is_lt (stamp_total.antisymm d.at b.at ∙ ap ordering_reverse e))

    by_births : (x y : Option Born) → birth_of g n ≡ x → birth_of h n ≡ y
        → maybe join_entries (option_map (entry_at g n) x) (option_map (entry_at h n) y) ≡ option_map (entry_at (g ++ h) n) (maybe (greater birth_cmp) x y)
    by_births None None x y = refl
    by_births None (Some d) x y = ap Some (entry_right g h n d p (ap (λ o. before o d.at) x))
    by_births (Some b) None x y = ap Some (entry_front g h n b q (ap (λ o. before o b.at) y))
    by_births (Some b) (Some d) x y = ap Some (picked b d x y _ refl)

-- the table of two histories together
pub join_tables-table_of : (g h : List Mark) → HasBirths g → HasBirths h → join_tables (table_of g) (table_of h) ≡ table_of (g ++ h)
join_tables-table_of g h p q = same_map nat_list_cmp_total octets_exact (join_tables (table_of g) (table_of h)) (table_of (g ++ h)) (λ n.
    get-join_maps nat_list_cmp_total octets_exact join_entries (table_of g) (table_of h) n
    ∙ ap (λ x. maybe join_entries x (get (table_of h) n)) (get-table_of g n) ∙ ap (maybe join_entries (entry_of g n)) (get-table_of h n)
    ∙ entries_joined g h n p q ∙ sym (get-table_of (g ++ h) n))
