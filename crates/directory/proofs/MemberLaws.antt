-- Lists of the same marks have the same table.
use Rattle.std.proofs.Common.{◌≡◌, ℕ, List, [], ◌∷◌, Option, Some, None, refl, sym, ap, subst, ◌∙◌, ⊎_elim}
use Rattle.std.specs.FinMap.{same_map}
use Rattle.std.specs.List.{Contains, filter_map, cons_option}
use Rattle.std.specs.Option.{option_map}
use Rattle.std.specs.Cmp.Lexicographic.{nat_list_cmp_total}
use Rattle.cds_stamps.specs.declared.stamp.Stamp.{Stamp}
use Rattle.cds_stamps.specs.Semilattice.{IsSemilattice, maybe, maybe_semilattice, join_of}
use Rattle.cds_stamps.specs.Stamps.{later_stamp_laws, earlier_stamp_laws}
use Rattle.cds_stamps.specs.Octets.{octets_exact}
use Rattle.attr_sets.specs.Marks.{later_laws, mark_after_clear}
use Rattle.attr_sets.specs.AttributeCells.{AttrMark, clear_in, mark_in, cell_of, greatest_clear, greatest_mark}
use Rattle.attr_sets.specs.CellLawProofs.{same_cell, get-cell_of}
use Rattle.attr_sets.proofs.Greatest.{Contains-head, Contains-tail, Contains-none, Contains-cases, join_of-member}
use Rattle.directory.specs.Histories.{Mark, Born, birth_in, death_in, attr_mark_in, birth_of, death_of}
use Rattle.directory.specs.Histories.{attr_history, cell_of_some, attrs_of, entry_at, entry_of, table_of, SameMarks}
use Rattle.directory.proofs.HistoryLaws.{births, get-table_of, get-attrs_of}

-- each member of the first is one of the second
abbrev IsIncluded : {A : Type 0} → List A → List A → Type 0
IsIncluded {A} g h = (m : A) → Contains g m → Contains h m

-- a join has taken in what a part of its list has
join_of-included : {A X : Type 0} {f : X → X → X} → IsSemilattice f → (k : A → Option X) (g h : List A) → IsIncluded g h
    → maybe f (join_of f k g) (join_of f k h) ≡ join_of f k h
join_of-included s k [] h inc = refl
join_of-included {f = f} s k (x ∷ g) h inc =
    (maybe_semilattice s).assoc (k x) (join_of f k g) (join_of f k h)
    ∙ ap (maybe f (k x)) (join_of-included s k g h (λ m c. inc m (Contains-tail x g m c))) ∙ join_of-member s k h x (inc x (Contains-head x g))

pub join_of-same : {A X : Type 0} {f : X → X → X} → IsSemilattice f → (k : A → Option X) (g h : List A) → IsIncluded g h → IsIncluded h g
    → join_of f k g ≡ join_of f k h
join_of-same {f = f} s k g h there back =
    sym (join_of-included s k h g back) ∙ (maybe_semilattice s).comm (join_of f k h) (join_of f k g) ∙ join_of-included s k g h there

-- what is found in a list is found in a member, and the other way round
pub found_in : {A X : Type 0} (k : A → Option X) (g : List A) (x : X) → Contains (filter_map k g) x → (m : A) × Contains g m × (k m ≡ Some x)
found_in k [] x c = absurd (Contains-none x c)
found_in {A} {X} k (m ∷ g) x c = at (k m) refl c (found_in k g x)
  where
    later : (n : A) × Contains g n × (k n ≡ Some x) → (n : A) × Contains (m ∷ g) n × (k n ≡ Some x)
    later r = (r.0, Contains-tail m g r.0 r.1, r.2)

    at : (y : Option X) → k m ≡ y → Contains (cons_option y (filter_map k g)) x
        → (Contains (filter_map k g) x → (n : A) × Contains g n × (k n ≡ Some x)) → (n : A) × Contains (m ∷ g) n × (k n ≡ Some x)
    at None e c rec = later (rec c)
    at (Some y) e c rec = ⊎_elim (λ same. (m, Contains-head m g, e ∙ ap Some same)) (λ r. later (rec r)) (Contains-cases y (filter_map k g) x c)

-- what a member gives is among what the members give
pub finds : {A X : Type 0} (k : A → Option X) (g : List A) (x : X) (m : A) → Contains g m → k m ≡ Some x → Contains (filter_map k g) x
finds k [] x m c e = absurd (Contains-none m c)
finds {A} {X} k (n ∷ g) x m c e = ⊎_elim (λ same. here (k n) (ap k same ∙ e)) (λ r. there (k n) (finds k g x m r e)) (Contains-cases n g m c)
  where
    here : (y : Option X) → y ≡ Some x → Contains (cons_option y (filter_map k g)) x
    here y is = subst (λ y. Contains (cons_option y (filter_map k g)) x) (sym is) (Contains-head x (filter_map k g))

    there : (y : Option X) → Contains (filter_map k g) x → Contains (cons_option y (filter_map k g)) x
    there None r = r
    there (Some y) r = Contains-tail y (filter_map k g) x r

filter_map-included : {A X : Type 0} (k : A → Option X) (g h : List A) → IsIncluded g h → IsIncluded (filter_map k g) (filter_map k h)
filter_map-included k g h inc x c = let f = found_in k g x c in finds k h x f.0 (inc f.0 f.1) f.2

-- cells of the same marks
cell_of-same : (g h : List AttrMark) → IsIncluded g h → IsIncluded h g → cell_of g ≡ cell_of h
cell_of-same g h there back =
    let clear : greatest_clear g ≡ greatest_clear h = join_of-same later_stamp_laws clear_in g h there back in
    same_cell (cell_of g) (cell_of h) clear (λ v.
    let mark : greatest_mark g v ≡ greatest_mark h v = join_of-same later_laws (mark_in v) g h there back in
    get-cell_of g v ∙ ap (λ c. mark_after_clear c (greatest_mark g v)) clear ∙ ap (mark_after_clear (greatest_clear h)) mark ∙ sym (get-cell_of h v))

cell_of_some-same : (g h : List AttrMark) → IsIncluded g h → IsIncluded h g → cell_of_some g ≡ cell_of_some h
cell_of_some-same [] [] there back = refl
cell_of_some-same [] (y ∷ h) there back = absurd (Contains-none y (back y (Contains-head y h)))
cell_of_some-same (x ∷ g) [] there back = absurd (Contains-none x (there x (Contains-head x g)))
cell_of_some-same (x ∷ g) (y ∷ h) there back = ap Some (cell_of-same (x ∷ g) (y ∷ h) there back)

-- entries of the same marks
module _ (g h : List Mark) (there : IsIncluded g h) (back : IsIncluded h g) where
  attrs_of-same : (n : List ℕ) (c : Stamp) → attrs_of g n c ≡ attrs_of h n c
  attrs_of-same n c = same_map nat_list_cmp_total octets_exact (attrs_of g n c) (attrs_of h n c) (λ a.
      get-attrs_of g n c a
      ∙ cell_of_some-same (attr_history g n c a) (attr_history h n c a) (filter_map-included
      (attr_mark_in n c a) g h there) (filter_map-included (attr_mark_in n c a) h g back)
      ∙ sym (get-attrs_of h n c a))

  entry_at-same : (n : List ℕ) (b : Born) → entry_at g n b ≡ entry_at h n b
  entry_at-same n b =
      let death : death_of g n b.at ≡ death_of h n b.at = join_of-same earlier_stamp_laws (death_in n b.at) g h there back in
      let attrs : attrs_of g n b.at ≡ attrs_of h n b.at = attrs_of-same n b.at in
      λ i. record { birth = b.at; kind = b.kind; death = death i; attrs = attrs i }

  entry_of-same : (n : List ℕ) → entry_of g n ≡ entry_of h n
  entry_of-same n = by_birth (birth_of g n) ∙ ap (option_map (entry_at h n)) (join_of-same births (birth_in n) g h there back)
    where
      by_birth : (b : Option Born) → option_map (entry_at g n) b ≡ option_map (entry_at h n) b
      by_birth None = refl
      by_birth (Some b) = ap Some (entry_at-same n b)

-- neither the order nor repeats of marks count
pub table_of-same : (g h : List Mark) → SameMarks g h → table_of g ≡ table_of h
table_of-same g h same = same_map nat_list_cmp_total octets_exact (table_of g) (table_of h) (λ n.
    get-table_of g n ∙ entry_of-same g h (λ m. (same m).0) (λ m. (same m).1) n ∙ sym (get-table_of h n))
