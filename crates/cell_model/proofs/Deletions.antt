-- No mark that a deletion of a history covers shows there.
use Rattle.std.proofs.Common.{◌≡◌, ℕ, ◌⊎◌, inl, inr, Bool, true, false, ◌&&◌, not, cond, List, [], ◌∷◌, Option, Some, None, refl, sym, ap, ◌∙◌, subst, arith}
use Rattle.std.specs.List.{filter_map, cons_option}
use Rattle.std.specs.declared.cmp.Ordering.{Ordering}
use Rattle.std.specs.declared.cmp.Ordering.TheVariants.{Less, Equal, Greater}
use Rattle.std.specs.Ordering.{is_lt, bool_cmp, ordering_then}
use Rattle.std.specs.Cmp.{IsTotalOrder, Equal-is, tied_itself}
use Rattle.std.specs.Cmp.Lexicographic.{nat_list_cmp_total}
use Rattle.std.specs.FinMap.{IsAntisymmetric}
use Rattle.cds_stamps.specs.declared.stamp.Stamp.{Stamp}
use Rattle.cds_stamps.specs.Semilattice.{maybe, join_of, greater}
use Rattle.cds_stamps.specs.Stamps.{stamp_cmp, stamp_total, stamp_exact, is_earlier, is_stamp, earlier_stamp, later_stamp}
use Rattle.cds_stamps.specs.Octets.{octets_cmp, is_octets}
use Rattle.attr_sets.specs.declared.mark.ValueMark.{ValueMark}
use Rattle.attr_sets.specs.Marks.{mark_cmp, mark_total, mark_exact, mark_after_clear}
use Rattle.attr_sets.specs.AttributeCells.{AttrMark, Cleared, Marked, clear_in, mark_in, greatest_clear, greatest_mark}
use Rattle.directory.specs.Histories.{Mark, Birth, Death, Attr, name_in, born_in, death_in, death_of, attr_mark_in, attr_history}
use Rattle.directory.specs.Shown.{shown_of_name}
use Rattle.cell_model.specs.Sets.{In, IsUpTo}
use Rattle.cell_model.specs.Agreement.{IsLive, IsShown, Covers, of_death, of_absence, of_clear}
use Rattle.cell_model.proofs.Marks.{shown_is}

-- ---- a join of a list

-- what is known of an item is known of the list
join_has : {A X : Type 0} (f : X → X → X) (p : A → Option X) (xs : List A) (x : A) → In x xs → (y : X) → p x ≡ Some y → join_of f p xs ≡ None → ⊥
join_has f p [] x i y e n = i
join_has {A} {X} f p (z ∷ xs) x (inl s) y e n = go (p z) (ap p (sym s) ∙ e) (join_of f p xs) n
  where
    go : (o : Option X) → o ≡ Some y → (q : Option X) → maybe f o q ≡ None → ⊥
    go None a q b = cc
    go (Some u) a None b = cc
    go (Some u) a (Some w) b = cc
join_has {A} {X} f p (z ∷ xs) x (inr i) y e n = go (p z) (join_of f p xs) refl n (join_has f p xs x i y e)
  where
    go : (o q : Option X) → join_of f p xs ≡ q → maybe f o q ≡ None → (join_of f p xs ≡ None → ⊥) → ⊥
    go None q b m rest = rest (b ∙ m)
    go (Some u) None b m rest = rest b
    go (Some u) (Some w) b m rest = cc

module _ {K : Type 0} {R : K → K → Ordering} (o : IsTotalOrder R) (exact : IsAntisymmetric R) where
  not_below : (u w z : K) → is_lt (R w z) ≡ false → is_lt (R u w) ≡ false → is_lt (R u z) ≡ false
  not_below u w z a b = go (R u z) refl (R w z) refl (R u w) refl a b
    where
      go : (p : Ordering) → R u z ≡ p → (q : Ordering) → R w z ≡ q → (r : Ordering) → R u w ≡ r → is_lt q ≡ false → is_lt r ≡ false → is_lt p ≡ false
      go Equal x q y r v a b = refl
      go Greater x q y r v a b = refl
      go Less x Less y r v a b = absurd (cc)
      go Less x q y Less v a b = absurd (cc)
      go Less x Equal y Equal v a b = let s = exact u w v in absurd (grind (arith, o.congr u w z))
      go Less x Equal y Greater v a b = absurd (grind (arith, exact w z y, o.antisymm u w, o.antisymm u z))
      go Less x Greater y Equal v a b = absurd (grind (arith, exact u w v))
      go Less x Greater y Greater v a b = absurd (grind (arith, o.antisymm w z, o.antisymm u w, o.antisymm u z, o.trans z w u, o.trans u z w, o.trans w u z))

  -- no item is above the greatest
  pub greatest : {A : Type 0} (p : A → Option K) (xs : List A) (y : K) → join_of (greater R) p xs ≡ Some y → (x : A) → In x xs → (z : K) → p x ≡ Some z
      → is_lt (R y z) ≡ false
  greatest p [] y e x i z q = elim i [ ]
  greatest {A} p (c ∷ xs) y e x i z q = go (p c) refl (join_of (greater R) p xs) refl e i (λ w g. greatest p xs w g x)
    where
      lt_itself : (k : K) → is_lt (R k k) ≡ false
      lt_itself k = rw (tied_itself o k) refl

      back : (u w : K) → is_lt (R u w) ≡ true → is_lt (R w u) ≡ false
      back u w l = grind (arith, o.antisymm u w)

      pick : (u w : K) (b : Bool) → is_lt (R u w) ≡ b → cond b w u ≡ y → (z ≡ u) ⊎ (is_lt (R w z) ≡ false) → is_lt (R y z) ≡ false
      pick u w true l m (inl s) = subst (λ (k : K). is_lt (R k z) ≡ false) m (subst (λ (k : K). is_lt (R w k) ≡ false) (sym s) (back u w l))
      pick u w true l m (inr n) = subst (λ (k : K). is_lt (R k z) ≡ false) m n
      pick u w false l m (inl s) = subst (λ (k : K). is_lt (R k z) ≡ false) m (subst (λ (k : K). is_lt (R u k) ≡ false) (sym s) (lt_itself u))
      pick u w false l m (inr n) = subst (λ (k : K). is_lt (R k z) ≡ false) m (not_below u w z n l)

      go : (a : Option K) → p c ≡ a → (b : Option K) → join_of (greater R) p xs ≡ b → maybe (greater R) a b ≡ Some y → (x ≡ c) ⊎ In x xs
          → ((w : K) → join_of (greater R) p xs ≡ Some w → In x xs → (z : K) → p x ≡ Some z → is_lt (R w z) ≡ false) → is_lt (R y z) ≡ false
      go None a b g m (inl s) rest = let n : None ≡ Some z = sym a ∙ ap p (sym s) ∙ q in absurd (cc)
      go None a b g m (inr j) rest = rest y (g ∙ m) j z q
      go (Some u) a None g m (inl s) rest =
          let uz : Some u ≡ Some z = sym a ∙ ap p (sym s) ∙ q in
          let uy : u ≡ y = cc in let us : u ≡ z = cc in
          subst (λ (k : K). is_lt (R y k) ≡ false) us (subst (λ (k : K). is_lt (R y k) ≡ false) (sym uy) (lt_itself y))
      go (Some u) a None g m (inr j) rest = absurd (join_has (greater R) p xs x j z q g)
      go (Some u) a (Some w) g m (inl s) rest =
          let uz : Some u ≡ Some z = sym a ∙ ap p (sym s) ∙ q in
          let zu : z ≡ u = cc in
          let my : greater R u w ≡ y = cc in
          pick u w (is_lt (R u w)) refl my (inl zu)
      go (Some u) a (Some w) g m (inr j) rest =
          let my : greater R u w ≡ y = cc in
          pick u w (is_lt (R u w)) refl my (inr (rest w g j z q))

-- ---- marks of one attribute

In-filter_map : {A B : Type 0} (p : A → Option B) (xs : List A) (x : A) (y : B) → In x xs → p x ≡ Some y → In y (filter_map p xs)
In-filter_map p [] x y i e = i
In-filter_map {A} {B} p (z ∷ xs) x y (inl s) e = go (p z) (ap p (sym s) ∙ e)
  where
    go : (o : Option B) → o ≡ Some y → In y (cons_option o (filter_map p xs))
    go None a = absurd (cc)
    go (Some u) a = inl (cc)
In-filter_map {A} {B} p (z ∷ xs) x y (inr i) e = go (p z) (In-filter_map p xs x y i e)
  where
    go : (o : Option B) → In y (filter_map p xs) → In y (cons_option o (filter_map p xs))
    go None j = j
    go (Some u) j = inr j

-- octets are the same as themselves
pub same_octets : (n : List ℕ) → is_octets n n ≡ true
same_octets n = (Equal-is (octets_cmp n n)).1 (tied_itself nat_list_cmp_total n)

-- a stamp is the same as itself
pub same_stamp : (s : Stamp) → is_stamp s s ≡ true
same_stamp s = (Equal-is (stamp_cmp s s)).1 (tied_itself stamp_total s)

-- two tests that hold both hold
pub both_true : (a b : Bool) → a ≡ true → b ≡ true → (a && b) ≡ true
both_true true b e f = f
both_true false b e f = e

in_attr_history : (h : List Mark) (n : List ℕ) (c : Stamp) (a : List ℕ) (x : AttrMark) → In (Attr n c a x) h → In x (attr_history h n c a)
in_attr_history h n c a x i =
    let all : ((is_octets n n && is_stamp c c) && is_octets a a) ≡ true =
    both_true (is_octets n n && is_stamp c c) (is_octets a a) (both_true (is_octets n n) (is_stamp c c) (same_octets n) (same_stamp c)) (same_octets a) in
    In-filter_map (attr_mark_in n c a) h (Attr n c a x) x i (ap (λ (b : Bool). cond b (Some x) None) all)

-- ---- what deletions do

no_death : (h : List Mark) (n : List ℕ) (c s : Stamp) → In (Death n c s) h → IsLive h n c → ⊥
no_death h n c s i live =
    let w = shown_is h n live.0 live.1 in
    let none : death_of h n c ≡ None = ap (death_of h n) (sym live.2) ∙ w.4 in
    let here : death_in n c (Death n c s) ≡ Some s = ap (λ (b : Bool). cond b (Some s) None) (both_true _ _ (same_octets n) (same_stamp c)) in
    join_has earlier_stamp (death_in n c) h (Death n c s) i s here none

covered_by_death : (h : List Mark) (n : List ℕ) (c s : Stamp) (k : Mark) → In (Death n c s) h → name_in k ≡ n → born_in k ≡ c → IsShown h k → ⊥
covered_by_death h n c s (Birth o kind d) i e f live = no_death h n c s i (subst (λ (z : List ℕ). IsLive h z c) e (subst (λ (z : Stamp). IsLive h o z) f live))
covered_by_death h n c s (Death o d t) i e f live = live
covered_by_death h n c s (Attr o d a (Cleared t)) i e f live = live
covered_by_death h n c s (Attr o d a (Marked v m)) i e f live =
    no_death h n c s i (subst (λ (z : List ℕ). IsLive h z c) e (subst (λ (z : Stamp). IsLive h o z) f live.0))

-- what is kept is what was there, and not earlier than the clear
kept_is : (c : Option Stamp) (m : Option ValueMark) (p : ValueMark) → mark_after_clear c m ≡ Some p
    → (m ≡ Some p) × ((t : Stamp) → c ≡ Some t → is_earlier p.stamp t ≡ false)
kept_is c None p e = absurd (cc)
kept_is None (Some m) p e = (e, λ t f. absurd (cc))
kept_is (Some s) (Some m) p e = go (is_earlier m.stamp s) refl e
  where
    go : (b : Bool) → is_earlier m.stamp s ≡ b → cond b None (Some m) ≡ Some p
        → (Some m ≡ Some p) × ((t : Stamp) → Some s ≡ Some t → is_earlier p.stamp t ≡ false)
    go true q f = absurd (cc)
    go false q f = let mp : m ≡ p = cc in
        (f, λ t g. let st : s ≡ t = cc in subst (λ (z : Stamp). is_earlier p.stamp z ≡ false) st (subst (λ (z : ValueMark). is_earlier z.stamp s ≡ false) mp q))

-- a present mark that is not later than an absent one of its value is below it
present_below : (p m : ValueMark) → p.present ≡ true → m.present ≡ false → IsUpTo p.stamp m.stamp → is_lt (mark_cmp p m) ≡ true
present_below p m a b u = go (stamp_cmp p.stamp m.stamp) refl
  where
    go : (r : Ordering) → stamp_cmp p.stamp m.stamp ≡ r → is_lt (mark_cmp p m) ≡ true
    go Less e = ap (λ (z : Ordering). is_lt (ordering_then z (bool_cmp m.present p.present))) e
    go Equal e = ap (λ (z : Ordering). is_lt (ordering_then z (bool_cmp m.present p.present))) e ∙ ap (λ (z : Bool). is_lt (bool_cmp z p.present)) b
        ∙ ap (λ (z : Bool). is_lt (bool_cmp false z)) a
    go Greater e =
        let turned : stamp_cmp m.stamp p.stamp ≡ Less = grind (arith, stamp_total.antisymm p.stamp m.stamp, stamp_total.antisymm m.stamp p.stamp) in
        let late : not (is_lt (stamp_cmp m.stamp p.stamp)) ≡ false = ap (λ (z : Ordering). not (is_lt z)) turned in
        absurd (cc)

not_later : (p s t : Stamp) → is_earlier p s ≡ true → is_earlier t s ≡ false → is_earlier p t ≡ false → ⊥
not_later p s t a b c = let z = not_below stamp_total stamp_exact p t s b c in cc

-- a mark that is covered by another of its history does not show
pub deleted : (h : List Mark) (c k : Mark) → In c h → Covers c k → IsShown h k → ⊥
deleted h c k i (of_death n b s _ e f) shown_of_name = covered_by_death h n b s k i e f shown_of_name
deleted h c k i (of_absence n b a v m p off on up) shown_of_name =
    let H = attr_history h n b a in
    let top = (kept_is (greatest_clear H) (greatest_mark H v) p shown_of_name.2).0 in
    let here : mark_in v (Marked v m) ≡ Some m = ap (λ (t : Bool). cond t (Some m) None) (same_octets v) in
    let high = greatest mark_total mark_exact (mark_in v) H p top (Marked v m) (in_attr_history h n b a (Marked v m) i) m here in
    let low = present_below p m on off up in
    cc
deleted h c k i (of_clear n b a v s p early) shown_of_name = go (greatest_clear H) refl
  where
    H : List AttrMark
    H = attr_history h n b a

    at : In (Cleared s) (attr_history h n b a)
    at = in_attr_history h n b a (Cleared s) i

    go : (o : Option Stamp) → greatest_clear (attr_history h n b a) ≡ o → ⊥
    go None e = join_has later_stamp clear_in (attr_history h n b a) (Cleared s) at s refl e
    go (Some t) e =
        let high = greatest stamp_total stamp_exact clear_in (attr_history h n b a) t e (Cleared s) at s refl in
        not_later p.stamp s t early high ((kept_is (greatest_clear (attr_history h n b a)) (greatest_mark (attr_history h n b a) v) p shown_of_name.2).1 t e)
