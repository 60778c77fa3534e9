-- The facts of a table ascend, so the first that is open is the least of those that are.
use Rattle.std.proofs.Common.{◌≡◌, ℕ, Bool, true, false, List, [], ◌∷◌, ◌++◌, Option, Some, None, refl, sym, ap, subst, ◌∙◌, ⊎_elim}
use Rattle.std.specs.Prelude.{◌&&◌, if◌then◌else◌}
use Rattle.std.specs.FinMap.{FinMap, entries}
use Rattle.std.specs.List.{AllByRecursion, Contains, find, flat_map}
use Rattle.std.specs.List.Sorted.{IsStrictlySortedBy}
use Rattle.std.specs.Map.{keys_of}
use Rattle.std.specs.declared.cmp.Ordering.{Ordering}
use Rattle.std.specs.declared.cmp.Ordering.TheVariants.{Less, Equal, Greater}
use Rattle.std.specs.Ordering.{is_lt, nat_cmp, ordering_then, ordering_reverse}
use Rattle.std.specs.Cmp.{IsTotalOrder, tied_itself, nat_cmp_total}
use Rattle.std.proofs.lemmas.Cmp.{on_total, then_total}
use Rattle.std.specs.Cmp.Lexicographic.{nat_list_cmp_total}
use Rattle.std.proofs.lemmas.List.Elements.{Contains-append_cases}
use Rattle.cds_stamps.specs.declared.stamp.Stamp.{Stamp}
use Rattle.cds_stamps.specs.Octets.{octets_cmp}
use Rattle.cds_stamps.specs.Stamps.{is_up_to}
use Rattle.cds_stamps.proofs.ListMembers.{Contains-head, Contains-tail, Contains-none, Contains-cases, flat_map-Contains}
use Rattle.attr_sets.specs.declared.mark.ValueMark.{ValueMark}
use Rattle.attr_sets.specs.declared.cell.AttrCell.{AttrCell}
use Rattle.attr_sets.proofs.ShownLaws.{map_rises}
use Rattle.directory.specs.declared.entry.Kind.{Kind}
use Rattle.directory.specs.declared.entry.EntryCell.{EntryCell}
use Rattle.directory.specs.Entries.{Entries}
use Rattle.directory.proofs.UpdateLaws.{all_at}
use Rattle.image_audit.specs.declared.fact.Fact.{Fact}
use Rattle.image_audit.specs.declared.fact.Fact.TheVariants.{Birth, Value}
use Rattle.image_audit.specs.Facts.{birth_fact, value_fact, attr_facts, entry_facts, facts, fact_name, fact_cmp}
use Rattle.image_audit.proofs.Looked.{in_one}

-- ---- lists in order

module _ {A : Type 0} where
  -- what holds of each item that is in a list
  all_from : (P : A → Type 0) (xs : List A) → ((x : A) → Contains xs x → P x) → AllByRecursion P xs
  all_from P [] each = tt
  all_from P (x ∷ xs) each = (each x (Contains-head x xs), all_from P xs (λ y c. each y (Contains-tail x xs y c)))

  -- a list that ascends, before another whose items are greater
  sorted_append : (S : A → A → Ordering) (xs ys : List A) → IsStrictlySortedBy S xs → IsStrictlySortedBy S ys
      → ((a b : A) → Contains xs a → Contains ys b → S a b ≡ Less) → IsStrictlySortedBy S (xs ++ ys)
  unfolding IsStrictlySortedBy
  sorted_append S [] ys p q across = q
  sorted_append S (x ∷ xs) ys p q across = (
    all_from (λ y. S x y ≡ Less) (xs ++ ys) (λ y c.
        ⊎_elim (λ mine. all_at (λ z. S x z ≡ Less) xs y p.0 mine) (λ theirs. across x y (Contains-head x xs) theirs) (Contains-append_cases xs ys y c)),
    sorted_append S xs ys p.1 q (λ a b ca cb. across a b (Contains-tail x xs a ca) cb),
  )

  -- a list of one item that may be there
  sorted_one : (S : A → A → Ordering) (b : Bool) (x : A) → IsStrictlySortedBy S (if b then x ∷ [] else [])
  unfolding IsStrictlySortedBy
  sorted_one S true x = (tt, tt)
  sorted_one S false x = tt

  -- the first that passes, of a list that ascends, is not above another that does
  pub found_least : (S : A → A → Ordering) → ((x y : A) → S x y ≡ Less → is_lt (S y x) ≡ false) → ((x : A) → is_lt (S x x) ≡ false)
      → (p : A → Bool) (xs : List A) → IsStrictlySortedBy S xs → (f g : A) → find p xs ≡ Some f → Contains xs g → p g ≡ true → is_lt (S g f) ≡ false
  unfolding IsStrictlySortedBy
  found_least S back itself p [] sorted f g found among passes = absurd (Contains-none g among)
  found_least S back itself p (x ∷ xs) sorted f g found among passes =
      at (p x) refl found (λ rest. found_least S back itself p xs sorted.1 f g rest)
    where
      at : (b : Bool) → p x ≡ b → (if b then Some x else find p xs) ≡ Some f
          → (find p xs ≡ Some f → Contains xs g → p g ≡ true → is_lt (S g f) ≡ false) → is_lt (S g f) ≡ false
      at true is h later =
          let first : x ≡ f = cc (h) in
          ⊎_elim (λ same. subst (λ z. is_lt (S z f) ≡ false) same (subst (λ z. is_lt (S x z) ≡ false) first (itself x)))
          (λ rest. subst (λ z. is_lt (S g z) ≡ false) first (back x g (all_at (λ z. S x z ≡ Less) xs g sorted.0 rest))) (Contains-cases x xs g among)
      at false is h later =
          ⊎_elim (λ same. absurd (no (p g) passes (ap p (sym same) ∙ is))) (λ rest. later h rest passes) (Contains-cases x xs g among)
        where
          no : (b : Bool) → b ≡ true → b ≡ false → ⊥
          no true p q = cc (q)
          no false p q = cc (p)

-- items of which each is before those after it
abbrev Pairs : {A : Type 0} → (A → A → Type 0) → List A → Type 0
Pairs before [] = Unit {0}
Pairs before (x ∷ xs) = AllByRecursion (before x) xs × Pairs before xs

-- what a function makes of such items ascends, if what it makes of each does, and what it makes of
-- one is before what it makes of another
flat_sorted : {A B : Type 0} (before : A → A → Type 0) (S : B → B → Ordering) (f : A → List B) → ((x : A) → IsStrictlySortedBy S (f x))
    → ((x y : A) → before x y → (a b : B) → Contains (f x) a → Contains (f y) b → S a b ≡ Less)
    → (xs : List A) → Pairs before xs → IsStrictlySortedBy S (flat_map f xs)
unfolding IsStrictlySortedBy
flat_sorted before S f each across [] pairs = tt
flat_sorted before S f each across (x ∷ xs) pairs =
    sorted_append S (f x) (flat_map f xs) (each x) (flat_sorted before S f each across xs pairs.1) (λ a b ca cb.
    let of = flat_map-Contains f xs b cb in
    across x of.0 (all_at (before x) xs of.0 pairs.0 of.1) a b ca of.2)

-- the entries of a map, by their keys
abbrev Before : {X : Type 0} → List ℕ × X → List ℕ × X → Type 0
Before e d = octets_cmp e.0 d.0 ≡ Less

keys_below : {X : Type 0} (k : List ℕ) (es : List (List ℕ × X)) → AllByRecursion (λ y. octets_cmp k y ≡ Less) (keys_of es)
    → AllByRecursion (λ (d : List ℕ × X). octets_cmp k d.0 ≡ Less) es
keys_below k [] below = tt
keys_below k (e ∷ es) below = (below.0, keys_below k es below.1)

keys_pairs : {X : Type 0} (es : List (List ℕ × X)) → IsStrictlySortedBy octets_cmp (keys_of es) → Pairs (Before {X = X}) es
unfolding IsStrictlySortedBy
keys_pairs [] rises = tt
keys_pairs (e ∷ es) rises = (keys_below e.0 es rises.0, keys_pairs es rises.1)

entries_pairs : {X : Type 0} (m : FinMap octets_cmp X) → Pairs (Before {X = X}) (entries m)
entries_pairs m = keys_pairs (entries m) (map_rises m)

-- ---- facts

-- births before values
part : Fact → ℕ
part (Birth n k c) = 0
part (Value n c a v s) = 1

fact_attr : Fact → List ℕ
fact_attr (Birth n k c) = []
fact_attr (Value n c a v s) = a

fact_value : Fact → List ℕ
fact_value (Birth n k c) = []
fact_value (Value n c a v s) = v

-- facts by their keys
abbrev key_cmp : Fact → Fact → Ordering
key_cmp f g =
    ordering_then (octets_cmp (fact_name f) (fact_name g))
    (ordering_then (nat_cmp (part f) (part g)) (ordering_then (octets_cmp (fact_attr f) (fact_attr g)) (octets_cmp (fact_value f) (fact_value g))))

key_total : IsTotalOrder key_cmp
key_total =
    then_total (on_total fact_name nat_list_cmp_total)
    (then_total (on_total part nat_cmp_total) (then_total (on_total fact_attr nat_list_cmp_total) (on_total fact_value nat_list_cmp_total)))

then_equal : (r : Ordering) → r ≡ ordering_then r Equal
then_equal Less = refl
then_equal Equal = refl
then_equal Greater = refl

fact_keyed : (f g : Fact) → fact_cmp f g ≡ key_cmp f g
unfolding part fact_attr fact_value
fact_keyed (Birth n k c) (Birth m l d) = then_equal (octets_cmp n m)
fact_keyed (Birth n k c) (Value m d b w u) = refl
fact_keyed (Value n c a v s) (Birth m l d) = refl
fact_keyed (Value n c a v s) (Value m d b w u) = refl

-- facts are in a total order
pub fact_total : IsTotalOrder fact_cmp
fact_total =
    let same : key_cmp ≡ fact_cmp = λ i f g. sym (fact_keyed f g) i in
    subst IsTotalOrder same key_total

itself : (n : List ℕ) → octets_cmp n n ≡ Equal
itself n = tied_itself nat_list_cmp_total n

less_back : (f g : Fact) → fact_cmp f g ≡ Less → is_lt (fact_cmp g f) ≡ false
less_back f g less = ap is_lt (fact_total.antisymm g f ∙ ap ordering_reverse less)

not_before_itself : (f : Fact) → is_lt (fact_cmp f f) ≡ false
not_before_itself f = ap is_lt (tied_itself fact_total f)

-- facts of names in order
by_name : (f g : Fact) → octets_cmp (fact_name f) (fact_name g) ≡ Less → fact_cmp f g ≡ Less
by_name (Birth n k c) (Birth m l d) less = less
by_name (Birth n k c) (Value m d b w u) less = ap (λ r. ordering_then r Less) less
by_name (Value n c a v s) (Birth m l d) less = ap (λ r. ordering_then r Greater) less
by_name (Value n c a v s) (Value m d b w u) less = ap (λ r. ordering_then r (ordering_then (octets_cmp a b) (octets_cmp v w))) less

module _ (t : Stamp) (n : List ℕ) (c : Stamp) where
  -- a fact of a value
  record IsValueOf (a : List ℕ) (f : Fact) : Type 0 where
    value : List ℕ
    stamp : Stamp
    is : Value n c a value stamp ≡ f

  value_is : (a : List ℕ) (v : List ℕ × ValueMark) (f : Fact) → Contains (value_fact t n c a v) f → Value n c a v.0 v.1.stamp ≡ f
  value_is a v f among = (in_one (v.1.present && is_up_to t v.1.stamp) (Value n c a v.0 v.1.stamp) f among).1

  attr_is : (a : List ℕ × AttrCell) (f : Fact) → Contains (attr_facts t n c a) f → IsValueOf a.0 f
  attr_is a f among =
      let of = flat_map-Contains (value_fact t n c a.0) (entries a.1.values) f among in
      record { value = of.0.0; stamp = of.0.1.stamp; is = value_is a.0 of.0 f of.2 }

  values_less : (a v w : List ℕ) (s u : Stamp) → octets_cmp v w ≡ Less → fact_cmp (Value n c a v s) (Value n c a w u) ≡ Less
  values_less a v w s u less =
      ap (λ r. ordering_then r (ordering_then (octets_cmp a a) (octets_cmp v w))) (itself n)
      ∙ ap (λ r. ordering_then r (octets_cmp v w)) (itself a) ∙ less

  attrs_less : (a b v w : List ℕ) (s u : Stamp) → octets_cmp a b ≡ Less → fact_cmp (Value n c a v s) (Value n c b w u) ≡ Less
  attrs_less a b v w s u less =
      ap (λ r. ordering_then r (ordering_then (octets_cmp a b) (octets_cmp v w))) (itself n)
      ∙ ap (λ r. ordering_then r (octets_cmp v w)) less

  attr_sorted : (a : List ℕ × AttrCell) → IsStrictlySortedBy fact_cmp (attr_facts t n c a)
  attr_sorted a =
      flat_sorted Before fact_cmp (value_fact t n c a.0)
      (λ v. sorted_one fact_cmp (v.1.present && is_up_to t v.1.stamp) (Value n c a.0 v.0 v.1.stamp))
      (λ v w less f g mine theirs.
      subst (λ g. fact_cmp f g ≡ Less) (value_is a.0 w g theirs)
      (subst (λ f. fact_cmp f (Value n c a.0 w.0 w.1.stamp) ≡ Less) (value_is a.0 v f mine)
      (values_less a.0 v.0 w.0 v.1.stamp w.1.stamp less)))
      (entries a.1.values) (entries_pairs a.1.values)

  attrs_sorted : (attrs : List (List ℕ × AttrCell)) → Pairs Before attrs → IsStrictlySortedBy fact_cmp (flat_map (attr_facts t n c) attrs)
  attrs_sorted =
      flat_sorted Before fact_cmp (attr_facts t n c) attr_sorted
      (λ a b less f g mine theirs.
      let x = attr_is a f mine in
      let y = attr_is b g theirs in
      subst (λ g. fact_cmp f g ≡ Less) y.is
      (subst (λ f. fact_cmp f (Value n c b.0 y.value y.stamp) ≡ Less) x.is (attrs_less a.0 b.0 x.value y.value x.stamp y.stamp less)))

module _ (t : Stamp) where
  births_first : (n : List ℕ) (k : Kind) (c d : Stamp) (a v : List ℕ) (s : Stamp) → fact_cmp (Birth n k c) (Value n d a v s) ≡ Less
  births_first n k c d a v s = ap (λ r. ordering_then r Less) (itself n)

  entry_sorted : (e : List ℕ × EntryCell) → IsStrictlySortedBy fact_cmp (entry_facts t e)
  entry_sorted e =
      sorted_append fact_cmp (birth_fact t e.0 e.1) (flat_map (attr_facts t e.0 e.1.birth) (entries e.1.attrs))
      (sorted_one fact_cmp (is_up_to t e.1.birth) (Birth e.0 e.1.kind e.1.birth))
      (attrs_sorted t e.0 e.1.birth (entries e.1.attrs) (entries_pairs e.1.attrs))
      (λ f g mine theirs.
      let one = in_one (is_up_to t e.1.birth) (Birth e.0 e.1.kind e.1.birth) f mine in
      let of = flat_map-Contains (attr_facts t e.0 e.1.birth) (entries e.1.attrs) g theirs in
      let y = attr_is t e.0 e.1.birth of.0 g of.2 in
      subst (λ g. fact_cmp f g ≡ Less) y.is
      (subst (λ f. fact_cmp f (Value e.0 e.1.birth of.0.0 y.value y.stamp) ≡ Less) one.1
      (births_first e.0 e.1.kind e.1.birth e.1.birth of.0.0 y.value y.stamp)))

  named : (e : List ℕ × EntryCell) (f : Fact) → Contains (entry_facts t e) f → fact_name f ≡ e.0
  named e f among =
      ⊎_elim (λ birth. ap fact_name (sym (in_one (is_up_to t e.1.birth) (Birth e.0 e.1.kind e.1.birth) f birth).1))
      (λ values.
      let of = flat_map-Contains (attr_facts t e.0 e.1.birth) (entries e.1.attrs) f values in
      ap fact_name (sym (attr_is t e.0 e.1.birth of.0 f of.2).is))
      (Contains-append_cases (birth_fact t e.0 e.1) (flat_map (attr_facts t e.0 e.1.birth) (entries e.1.attrs)) f among)

-- the facts of a table ascend
pub facts_sorted : (t : Option Stamp) (table : Entries) → IsStrictlySortedBy fact_cmp (facts t table)
unfolding IsStrictlySortedBy
facts_sorted None table = tt
facts_sorted (Some t) table =
    flat_sorted Before fact_cmp (entry_facts t) (entry_sorted t)
    (λ e d less f g mine theirs.
    by_name f g (ap (λ n. octets_cmp n (fact_name g)) (named t e f mine) ∙ ap (octets_cmp e.0) (named t d g theirs) ∙ less))
    (entries table) (entries_pairs table)

-- the first of them that passes a test is the least that does
pub first_is_least : (t : Option Stamp) (table : Entries) (p : Fact → Bool) (f g : Fact) → find p (facts t table) ≡ Some f
    → Contains (facts t table) g → p g ≡ true → is_lt (fact_cmp g f) ≡ false
first_is_least t table p f g found among passes =
    found_least fact_cmp less_back not_before_itself p (facts t table) (facts_sorted t table) f g found among passes
