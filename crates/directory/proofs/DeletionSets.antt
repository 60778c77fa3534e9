-- Sets of deletions: what an insertion, a removal and a `retain` leave, what comes first, and loops
-- that add what a map has.
use Rattle.std.proofs.Common.{◌≡◌, ◌⊎◌, inl, inr, ℕ, ◌<◌, Bool, true, false, not, cond, List, [], ◌∷◌}
use Rattle.std.proofs.Common.{slice_get, length, Option, Some, None, Result, Ok, Err, OnOk, OnErr}
use Rattle.std.proofs.Common.{arith, refl, sym, ap, subst, ◌∙◌}
use Rattle.std.specs.Prelude.{◌≢◌, ◌||◌, ◌&&◌, if◌then◌else◌, IfSome, IfNone}
use Rattle.std.specs.declared.cmp.Ordering.{Ordering}
use Rattle.std.specs.declared.cmp.Ordering.TheVariants.{Less, Equal, Greater}
use Rattle.std.specs.Ordering.{is_lt, is_gt, eq_by_cmp, ordering_reverse, ordering_then}
use Rattle.std.specs.List.{filter, list_any}
use Rattle.std.specs.BTreeMap.{is_at}
use Rattle.std.specs.BTreeSet.{BTreeSet, contains, Updates, IsLowerBound}
use Rattle.std.specs.Cmp.{eq_by_cmp_equiv}
use Rattle.std.specs.FinMap.{FinMap, IsAntisymmetric, get, entries, get-entries, find}
use Rattle.cds_stamps.specs.declared.stamp.Stamp.{Stamp}
use Rattle.cds_stamps.specs.Stamps.{stamp_cmp, stamp_total, stamp_exact, is_up_to}
use Rattle.cds_stamps.specs.Octets.{octets_cmp}
use Rattle.cds_stamps.specs.Keyed.{ties_are_equal}
use Rattle.attr_sets.specs.declared.mark.ValueMark.{ValueMark}
use Rattle.attr_sets.specs.declared.cell.AttrCell.{AttrCell}
use Rattle.directory.specs.declared.deletions.What.{What}
use Rattle.directory.specs.declared.deletions.What.TheVariants.{Clear, Absent}
use Rattle.directory.specs.declared.deletions.Deletion.{Deletion}
use Rattle.directory.specs.declared.deletions.Deletions.{Deletions}
use Rattle.directory.specs.Deletions.{is_at as stamped, what_cmp, deletion_cmp, is_before, is_deletion}
use Rattle.directory.specs.IndexWords.{is_indexed, Keeps, AddsAt, AddsOnly, KnowsAt, KnowsMark, KnowsCell}
use Rattle.directory.proofs.DeletionOrder.{derived, derived_cmp, deletion_total, deletion_exact}

-- deletions that are one are equal
pub one_deletion : (d e : Deletion) → is_deletion d e ≡ true → d ≡ e
one_deletion = ties_are_equal deletion_exact

-- what a set has where d was put in or taken out
pub updated : (s n : BTreeSet Deletion) (d : Deletion) (b : Bool) → Updates derived s n d b → (e : Deletion)
    → contains deletion_cmp n e ≡ (if is_deletion e d then b else contains deletion_cmp s e)
updated s n d b updates e =
    (subst (λ R. Updates R s n d b) derived_cmp updates).0 e
    ∙ ap (λ t. cond t b (contains deletion_cmp s e)) ((eq_by_cmp_equiv deletion_total).symm d e)

reversed : (o : Ordering) → is_lt (ordering_reverse o) ≡ is_gt o
reversed Less = refl
reversed Equal = refl
reversed Greater = refl

-- nothing in a set is before its lower bound
pub least : (s : BTreeSet Deletion) (d : Deletion) → IsLowerBound derived s d → (e : Deletion) → contains deletion_cmp s e ≡ true → is_before e d ≡ false
least s d bound e has = ap is_lt (deletion_total.antisymm e d) ∙ reversed (deletion_cmp d e) ∙ subst (λ R. IsLowerBound R s d) derived_cmp bound e has

-- what comes first is in the set, and nothing in the set is before it
pub begins : {A : Type 0} (read : A → Deletion) (s : BTreeSet Deletion) (first : Option A) → IfSome first (λ a. contains derived s (read a) ≡ true)
    → IfSome first (λ a. IsLowerBound derived s (read a))
    → IfSome first (λ a. (contains deletion_cmp s (read a) ≡ true) × ((e : Deletion) → contains deletion_cmp s e ≡ true → is_before e (read a) ≡ false))
begins read s None member bound = tt
begins read s (Some a) member bound = (subst (λ R. contains R s (read a) ≡ true) derived_cmp member, least s (read a) bound)

-- what is not before a deletion that is later than t is later than t
pub stamped_later : (t : Stamp) (d e : Deletion) → is_up_to t d.stamp ≡ false → is_before e d ≡ false → is_up_to t e.stamp ≡ false
stamped_later t d e later after = ap (λ o. not (is_lt o)) (at (stamp_cmp e.stamp d.stamp) refl after)
  where
    earlier : (o : Ordering) → not (is_lt o) ≡ false → o ≡ Less
    earlier Less h = refl
    earlier Equal h = cc
    earlier Greater h = cc

    before : stamp_cmp t d.stamp ≡ Less
    before = earlier (stamp_cmp t d.stamp) later

    at : (o : Ordering) → stamp_cmp e.stamp d.stamp ≡ o
        → is_lt (ordering_then o (ordering_then (octets_cmp e.name d.name) (what_cmp e.what d.what))) ≡ false
        → stamp_cmp t e.stamp ≡ Less
    at Less is h = cc
    at Equal is h = ap (stamp_cmp t) (stamp_exact e.stamp d.stamp is) ∙ before
    at Greater is h = stamp_total.trans t d.stamp e.stamp before (stamp_total.antisymm d.stamp e.stamp ∙ ap ordering_reverse is)

-- a set without keys has nothing
pub has_none : (ds : List Deletion) → (0 < length ds → false ≡ true) → (d : Deletion) → list_any (is_at (deletion_cmp d)) ds ≡ false
has_none [] none d = refl
has_none (e ∷ ds) none d = absurd (let some : false ≡ true = none (omega arith) in cc)

-- what was added is there
pub put_in : (x y : Deletions) (d : Deletion) → ((e : Deletion) → is_indexed y e ≡ (if is_deletion e d then true else is_indexed x e)) → is_indexed y d ≡ true
put_in x y d put = put d ∙ ap (λ t. if t then true else is_indexed x d) ((eq_by_cmp_equiv deletion_total).refl d)

-- where something was added, the rest stays
pub kept_beside : (x y : Deletions) (e : Deletion) → ((d : Deletion) → is_indexed y d ≡ (if is_deletion d e then true else is_indexed x d)) → Keeps x y
kept_beside x y e put d has = put d ∙ either (is_deletion d e)
  where
    either : (b : Bool) → (if b then true else is_indexed x d) ≡ true
    either true = refl
    either false = has

-- of a list of deletions, one more is added
pub one_added : (x y : Deletions) (e : Deletion) (es rest : List Deletion) → es ≡ e ∷ rest
    → ((d : Deletion) → is_indexed y d ≡ (if is_deletion d e then true else is_indexed x d)) → (d : Deletion)
    → (list_any (is_at (deletion_cmp d)) es ≡ true) ⊎ (is_indexed x d ≡ true) → (list_any (is_at (deletion_cmp d)) rest ≡ true) ⊎ (is_indexed y d ≡ true)
one_added x y e es rest first put d (inr known) = inr (kept_beside x y e put d known)
one_added x y e es rest first put d (inl to_come) = by_case (is_deletion d e) refl
  where
    by_case : (b : Bool) → is_deletion d e ≡ b → (list_any (is_at (deletion_cmp d)) rest ≡ true) ⊎ (is_indexed y d ≡ true)
    by_case true at = inr (put d ∙ ap (λ t. if t then true else is_indexed x d) at)
    by_case false at = inl (sym (ap (λ t. t || list_any (is_at (deletion_cmp d)) rest) at) ∙ sym (ap (list_any (is_at (deletion_cmp d))) first) ∙ to_come)

-- a result, either way
pub on_result : {A E P Q C : Type 0} (r : Result A E) → OnOk r P → OnErr r Q → (P → C) → (Q → C) → C
on_result (Ok a) p q f g = f p
on_result (Err e) p q f g = g q

-- nothing is added; and what is added twice
pub adds_none : (n : List ℕ) (x : Deletions) → AddsAt n x x
adds_none n x = (λ d has. has, λ d apart. refl)

-- deletions that are added in two turns, all in the entry of one name, are added in that entry
-- alone
pub adds_both : (n : List ℕ) (x y z : Deletions) → AddsAt n x y → AddsAt n y z → AddsAt n x z
adds_both n x y z a b = (λ d has. b.0 d (a.0 d has), λ d apart. b.1 d apart ∙ a.1 d apart)

-- a deletion is added, or none
pub adds_one : (x y : Deletions) (d : Deletion) → ((e : Deletion) → is_indexed y e ≡ (if is_deletion e d then true else is_indexed x e)) → AddsAt d.name x y
adds_one x y d put = (λ e has. put e ∙ kept (is_deletion e d) (is_indexed x e) has, λ e apart. other e apart (is_deletion e d) refl)
  where
    kept : (b has : Bool) → has ≡ true → (if b then true else has) ≡ true
    kept true has is = refl
    kept false has is = is

    other : (e : Deletion) → e.name ≢ d.name → (b : Bool) → is_deletion e d ≡ b → is_indexed y e ≡ is_indexed x e
    other e apart true same = absurd (apart (ap (λ d. d.name) (one_deletion e d same)))
    other e apart false is = put e ∙ ap (λ b. if b then true else is_indexed x e) is

-- an index that still knows of just the same has nothing added outside the entry of this name
pub adds_same : (n : List ℕ) (x y : Deletions) → ((e : Deletion) → is_indexed y e ≡ is_indexed x e) → AddsAt n x y
adds_same n x y same = (λ d has. same d ∙ has, λ d apart. same d)

-- so it is of what an update deletes, which alone is added
pub adds_it : (x y : Deletions) (d : Deletion) → ((e : Deletion) → is_indexed y e ≡ (if is_deletion e d then true else is_indexed x e))
    → AddsOnly (Some d) x y
adds_it x y d put = (kept_beside x y d put, λ e apart. other e apart (is_deletion e d) refl)
  where
    other : (e : Deletion) → Some d ≢ Some e → (b : Bool) → is_deletion e d ≡ b → is_indexed y e ≡ is_indexed x e
    other e apart true same = absurd (apart (ap Some (sym (one_deletion e d same))))
    other e apart false is = put e ∙ ap (λ b. if b then true else is_indexed x e) is

-- and where it was not added
pub adds_still : (o : Option Deletion) (x y : Deletions) → ((e : Deletion) → is_indexed y e ≡ is_indexed x e) → AddsOnly o x y
adds_still o x y same = (λ d has. same d ∙ has, λ d apart. same d)

-- what is known of a stamp, if there is one
pub known_at : (x : Deletions) (n : List ℕ) (v w : What) (o : Option Stamp) (t : Stamp) → o ≡ Some t → v ≡ w
    → is_indexed x (record { stamp = t; name = n; what = v }) ≡ true → KnowsAt x n w o
known_at x n v w o t some same known s at =
    let is = ties_are_equal stamp_exact t s (ap (λ o. stamped o s) (sym some) ∙ at) in
    subst (λ d. is_indexed x d ≡ true) (λ i. record { stamp = is i; name = n; what = same i }) known

-- and where there is none
pub none_at : (x : Deletions) (n : List ℕ) (w : What) (o : Option Stamp) → o ≡ None → KnowsAt x n w o
none_at x n w o none s at = absurd (let no : false ≡ true = sym (ap (λ o. stamped o s) none) ∙ at in cc)

-- what is known stays known: of a stamp, of a mark, of an attribute
pub more_at : (x y : Deletions) → Keeps x y → (n : List ℕ) (w : What) (o : Option Stamp) → KnowsAt x n w o → KnowsAt y n w o
more_at x y keeps n w o known s at = keeps (record { stamp = s; name = n; what = w }) (known s at)

-- what is known of the mark of a value stays known
pub more_of_mark : (x y : Deletions) → Keeps x y → (n a v : List ℕ) (m : ValueMark) → KnowsMark x n a v m → KnowsMark y n a v m
more_of_mark x y keeps n a v m known s absent = keeps (record { stamp = s; name = n; what = Absent a v }) (known s absent)

-- what is known of the cell of an attribute stays known
pub more_of_cell : (x y : Deletions) → Keeps x y → (n a : List ℕ) (c : AttrCell) → KnowsCell x n a c → KnowsCell y n a c
more_of_cell x y keeps n a c known = (more_at x y keeps n (Clear a) c.cleared known.0, λ v. marks v (get c.values v) (known.1 v))
  where
    marks : (v : List ℕ) (m : Option ValueMark) → IfSome m (KnowsMark x n a v) → IfSome m (KnowsMark y n a v)
    marks v None h = tt
    marks v (Some m) h = more_of_mark x y keeps n a v m h

-- only what comes first has nothing before it
pub first_alone : (s : BTreeSet Deletion) (d : Deletion) → contains derived s d ≡ true → IsLowerBound derived s d
    → (e : Deletion) → contains deletion_cmp s e ≡ true → ((f : Deletion) → contains deletion_cmp s f ≡ true → is_before f e ≡ false) → e ≡ d
first_alone s d member bound e has none_before = deletion_exact e d (neither (deletion_cmp e d) (least s d bound e has)
    (ap is_lt (sym (deletion_total.antisymm d e)) ∙ none_before d (subst (λ R. contains R s d ≡ true) derived_cmp member)))
  where
    neither : (o : Ordering) → is_lt o ≡ false → is_lt (ordering_reverse o) ≡ false → o ≡ Equal
    neither Less h k = cc
    neither Equal h k = refl
    neither Greater h k = cc

-- a set that loses the first of its deletions keeps what passes a test that this one fails
pub others_stay : (test : Deletion → Bool) (s n : BTreeSet Deletion) (d : Deletion) (popped : Option Deletion) → slice_get s.keys 0 ≡ Some d → test d ≡ false
    → IfSome popped (λ k. s.keys ≡ k ∷ n.keys) → IfSome popped (λ k. Updates derived s n k false) → IfNone popped (n.keys ≡ s.keys)
    → (e : Deletion) → test e ≡ true → contains deletion_cmp s e ≡ true → contains deletion_cmp n e ≡ true
others_stay test s n d None first fails removal updates unchanged e passes has = ap (list_any (is_at (deletion_cmp e))) unchanged ∙ has
others_stay test s n d (Some k) first fails removal updates unchanged e passes has =
    updated s n k false updates e ∙ by_case (is_deletion e k) refl
  where
    is_first : k ≡ d
    is_first = let some : Some k ≡ Some d = sym (ap (λ ds. slice_get ds 0) removal) ∙ first in cc

    by_case : (b : Bool) → is_deletion e k ≡ b → (if b then false else contains deletion_cmp s e) ≡ true
    by_case true is = absurd (let test_e : test e ≡ false = ap test (one_deletion e k is ∙ is_first) ∙ fails in cc)
    by_case false is = has

-- nor does the set have more than before
pub fewer : (s n : BTreeSet Deletion) (popped : Option Deletion) → IfSome popped (λ k. Updates derived s n k false) → IfNone popped (n.keys ≡ s.keys)
    → (e : Deletion) → contains deletion_cmp n e ≡ true → contains deletion_cmp s e ≡ true
fewer s n None updates unchanged e has = sym (ap (list_any (is_at (deletion_cmp e))) unchanged) ∙ has
fewer s n (Some k) updates unchanged e has = either (is_deletion e k) (sym (updated s n k false updates e) ∙ has)
  where
    either : (b : Bool) → (if b then false else contains deletion_cmp s e) ≡ true → contains deletion_cmp s e ≡ true
    either true h = cc
    either false h = h

-- where what passes a test is kept
pub kept_of : (test : Deletion → Bool) (ds : List Deletion) (d : Deletion)
    → list_any (is_at (deletion_cmp d)) (filter test ds) ≡ (list_any (is_at (deletion_cmp d)) ds && test d)
kept_of test [] d = refl
kept_of test (x ∷ ds) d = by_case (is_deletion d x) refl (test x) refl (kept_of test ds d)
  where
    none : (b t : Bool) → t ≡ false → (b && t) ≡ false
    none true t is = is
    none false t is = refl

    by_case : (b : Bool) → is_deletion d x ≡ b → (p : Bool) → test x ≡ p
        → list_any (is_at (deletion_cmp d)) (filter test ds) ≡ (list_any (is_at (deletion_cmp d)) ds && test d)
        → list_any (is_at (deletion_cmp d)) (cond p (x ∷ filter test ds) (filter test ds))
        ≡ ((is_deletion d x || list_any (is_at (deletion_cmp d)) ds) && test d)
    by_case true at true is rest =
        ap (λ b. b || list_any (is_at (deletion_cmp d)) (filter test ds)) at
        ∙ sym (ap (λ b. (b || list_any (is_at (deletion_cmp d)) ds) && test d) at ∙ ap test (one_deletion d x at) ∙ is)
    by_case true at false is rest =
        let fails : test d ≡ false = ap test (one_deletion d x at) ∙ is in
        rest ∙ none (list_any (is_at (deletion_cmp d)) ds) (test d) fails
        ∙ sym (none (is_deletion d x || list_any (is_at (deletion_cmp d)) ds) (test d) fails)
    by_case false at true is rest =
        ap (λ b. b || list_any (is_at (deletion_cmp d)) (filter test ds)) at ∙ rest ∙ sym (ap (λ b. (b || list_any (is_at (deletion_cmp d)) ds) && test d) at)
    by_case false at false is rest = rest ∙ sym (ap (λ b. (b || list_any (is_at (deletion_cmp d)) ds) && test d) at)

module _ {K X : Type 0} {R : K → K → Ordering} where
  -- a loop over entries has met each value of the map m, which P says, but for those that are still
  -- to come
  abbrev pub MetOrToCome : FinMap R X → (K → X → Type 0) → List (K × X) → Type 0
  MetOrToCome m P es = (q : K) → (find R q es ≡ get m q) ⊎ IfSome (get m q) (P q)

  -- at first all are to come
  pub all_to_come : (m : FinMap R X) (P : K → X → Type 0) (es : List (K × X)) → es ≡ entries m → MetOrToCome m P es
  all_to_come m P es is = λ q. inl (ap (find R q) is ∙ sym (get-entries m q))

  -- one more is met
  pub one_met : IsAntisymmetric R → (m : FinMap R X) (P Q : K → X → Type 0) (k : K) (x : X) (es rest : List (K × X)) → es ≡ (k, x) ∷ rest
      → ((q : K) (y : X) → P q y → Q q y) → Q k x → MetOrToCome m P es → MetOrToCome m Q rest
  one_met same m P Q k x es rest first more met so_far = λ q. elim (so_far q) [
    | inl still ↦ at q (eq_by_cmp R q k) refl (ap (find R q) (sym first) ∙ still)
    | inr known ↦ inr (weaker q (get m q) known)
  ]
    where
      weaker : (q : K) (o : Option X) → IfSome o (P q) → IfSome o (Q q)
      weaker q None h = h
      weaker q (Some y) h = more q y h

      at : (q : K) (b : Bool) → eq_by_cmp R q k ≡ b → find R q ((k, x) ∷ rest) ≡ get m q → (find R q rest ≡ get m q) ⊎ IfSome (get m q) (Q q)
      at q true is found =
          inr (subst (λ o. IfSome o (Q q)) (ap (λ b. cond b (Some x) (find R q rest)) (sym is) ∙ found) (subst (λ j. Q j x) (sym (ties_are_equal same q k is)) met))
      at q false is found = inl (ap (λ b. cond b (Some x) (find R q rest)) (sym is) ∙ found)
