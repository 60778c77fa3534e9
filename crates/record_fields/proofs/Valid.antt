-- What is read of the layouts of keyed lists and of marks is valid.
use Rattle.std.proofs.Common.{◌≡◌, ℕ, zero, suc, Bool, true, false, cond, List, [], ◌∷◌, Option, Some, None, Ok, refl, sym, ap, subst, ◌∙◌, arith}
use Rattle.std.specs.Prelude.{◌==◌, IfSome, if◌then◌else◌}
use Rattle.std.specs.FinMap.{FinMap, empty, get, insert, get-empty, get-insert}
use Rattle.std.specs.List.{AllByRecursion}
use Rattle.std.specs.Ordering.{eq_by_cmp}
use Rattle.std.specs.declared.cmp.Ordering.{Ordering}
use Rattle.std.specs.Cmp.{IsTotalOrder, tied_itself}
use Rattle.std.specs.Cmp.Lexicographic.{nat_list_cmp_total}
use Rattle.cds_stamps.specs.declared.stamp.Stamp.{Stamp}
use Rattle.cds_stamps.specs.Octets.{octets_cmp}
use Rattle.cds_stamps.specs.Joins.{EachValue}
use Rattle.attr_sets.specs.declared.mark.ValueMark.{ValueMark}
use Rattle.attr_sets.specs.declared.cell.AttrCell.{AttrCell}
use Rattle.attr_sets.specs.CellPurges.{is_above}
use Rattle.attr_sets.specs.Marks.{mark_after_clear}
use Rattle.record_fields.specs.Layouts.{Layout, next, done, choose, Stands}
use Rattle.record_fields.specs.LayoutReading.{read}
use Rattle.record_fields.specs.Fields.{above_rule, is_cleared, mark_rule, stamp, optional_stamp, value}
use Rattle.record_fields.specs.declared.fault.Rule.TheVariants.{OutOfOrder, NotAbove}
use Rattle.record_fields.specs.Added.{add_all}
use Rattle.record_fields.specs.ListLayouts.{item, ascending_items, map_of, mark, empty_cell}
use Rattle.record_fields.proofs.LayoutLaws.{ok_is, bind_ok, read_stands}

-- ---- maps of items

module _ {K X : Type 0} {R : K → K → Ordering} (o : IsTotalOrder R) (V : X → Type 0) (key : Option K → Layout K) (content : Layout X)
    (each : (x : List ℕ) (c : X) (y : List ℕ) → read content x ≡ Ok (c, y) → V c) where
  -- each of so many items that were read is valid
  pub items_valid : (n : ℕ) (before : Option K) (x : List ℕ) (es : List (K × X)) (y : List ℕ) → read (ascending_items key content n before) x ≡ Ok (es, y)
      → AllByRecursion (λ e. V e.1) es
  unfolding ascending_items item
  items_valid zero before x es y e = subst (λ (p : List (K × X) × List ℕ). AllByRecursion (λ e. V e.1) p.0) (ok_is ([], x) (es, y) e) tt
  items_valid (suc n) before x es y e =
      let a = bind_ok (read (item key content before) x) (λ w. read (next (ascending_items key content n (Some w.0.0)) (λ es. done (w.0 ∷ es))) w.1) (es, y) e in
      let k = bind_ok (read (key before) x) (λ w. read (next content (λ c. done (w.0, c))) w.1) a.0 a.1 in
      let c = bind_ok (read content k.0.1) (λ w. Ok ((k.0.0, w.0), w.1)) a.0 k.2 in
      let b = bind_ok (read (ascending_items key content n (Some a.0.0.0)) a.0.1) (λ w. Ok (a.0.0 ∷ w.0, w.1)) (es, y) a.2 in
      let one : V a.0.0.1 = subst (λ (p : (K × X) × List ℕ). V p.0.1) (ok_is ((k.0.0, c.0.0), c.0.1) a.0 c.2) (each k.0.1 c.0.0 c.0.1 c.1) in
      subst (λ (p : List (K × X) × List ℕ). AllByRecursion (λ e. V e.1) p.0) (ok_is (a.0.0 ∷ b.0.0, b.0.1) (es, y) b.2)
      (one, items_valid n (Some a.0.0.0) a.0.1 b.0.0 b.0.1 b.1)

  put_valid : (b : Bool) (x : X) (o : Option X) → V x → IfSome o V → IfSome (cond b (Some x) o) V
  put_valid true x o v w = v
  put_valid false x o v w = w

  add_all_valid : (m : FinMap R X) (es : List (K × X)) → EachValue V m → AllByRecursion (λ e. V e.1) es → EachValue V (add_all m es)
  add_all_valid m [] v all = v
  add_all_valid m (e ∷ es) v all =
      add_all_valid (insert m e.0 e.1) es
      (λ q. subst (λ x. IfSome x V) (sym (get-insert o m e.0 e.1 q)) (put_valid (eq_by_cmp R q e.0) e.1 (get m q) all.0 (v q))) all.1

  -- so is each of a map that was read
  pub map_valid : (n : ℕ) (x : List ℕ) (m : FinMap R X) (y : List ℕ) → read (map_of {R = R} key content n) x ≡ Ok (m, y) → EachValue V m
  unfolding map_of
  map_valid n x m y e =
      let a = bind_ok (read (ascending_items key content n None) x) (λ w. Ok (add_all empty w.0, w.1)) (m, y) e in
      subst (λ (p : FinMap R X × List ℕ). EachValue V p.0) (ok_is (add_all empty a.0.0, a.0.1) (m, y) a.2)
      (add_all_valid empty a.0.0 (λ q. subst (λ x. IfSome x V) (sym (get-empty R q)) tt) (items_valid n None x a.0.0 a.0.1 a.1))

-- ---- a map of some items is not empty

there : {X : Type 0} (b : Bool) (x : X) (o : Option X) → (o ≡ None → ⊥) → cond b (Some x) o ≡ None → ⊥
there true x o h e = cc
there false x o h e = h e

stays : {X : Type 0} (m : FinMap octets_cmp X) (es : List (List ℕ × X)) (q : List ℕ) → (get m q ≡ None → ⊥) → get (add_all m es) q ≡ None → ⊥
stays m [] q h e = h e
stays m (d ∷ es) q h e =
    stays (insert m d.0 d.1) es q (λ f. there (eq_by_cmp octets_cmp q d.0) d.1 (get m q) h (sym (get-insert nat_list_cmp_total m d.0 d.1 q) ∙ f)) e

put_there : {X : Type 0} (k : List ℕ) (x : X) → get (insert (empty {R = octets_cmp}) k x) k ≡ None → ⊥
put_there k x e =
    let at : get (insert (empty {R = octets_cmp}) k x) k ≡ Some x = get-insert nat_list_cmp_total empty k x k ∙ rw (tied_itself nat_list_cmp_total k) refl in
    cc

map_filled : {X : Type 0} (key : Option (List ℕ) → Layout (List ℕ)) (content : Layout X) (n : ℕ) (x : List ℕ) (m : FinMap octets_cmp X) (y : List ℕ)
    → read (map_of {R = octets_cmp} key content (suc n)) x ≡ Ok (m, y) → m ≡ empty → ⊥
unfolding map_of ascending_items
map_filled {X} key content n x m y e none =
    let a = bind_ok (read (ascending_items key content (suc n) None) x) (λ w. Ok (add_all (empty {R = octets_cmp}) w.0, w.1)) (m, y) e in
    let b = bind_ok (read (item key content None) x) (λ w. read (next (ascending_items key content n (Some w.0.0)) (λ es. done (w.0 ∷ es))) w.1) a.0 a.1 in
    let c = bind_ok (read (ascending_items key content n (Some b.0.0.0)) b.0.1) (λ w. Ok (b.0.0 ∷ w.0, w.1)) a.0 b.2 in
    let all : b.0.0 ∷ c.0.0 ≡ a.0.0 = ap (λ (p : List (List ℕ × X) × List ℕ). p.0) (ok_is (b.0.0 ∷ c.0.0, c.0.1) a.0 c.2) in
    let is : add_all empty a.0.0 ≡ m = ap (λ (p : FinMap octets_cmp X × List ℕ). p.0) (ok_is (add_all (empty {R = octets_cmp}) a.0.0, a.0.1) (m, y) a.2) in
    stays (insert empty b.0.0.0 b.0.0.1) c.0.0 b.0.0.0 (put_there b.0.0.0 b.0.0.1)
    (ap (λ es. get (add_all (empty {R = octets_cmp}) es) b.0.0.0) all ∙ ap (λ m. get m b.0.0.0) (is ∙ none) ∙ get-empty octets_cmp b.0.0.0)

-- ---- marks

-- the stamp of a mark that was read breaks no rule
pub mark_valid : (above cleared : Option Stamp) (x : List ℕ) (m : ValueMark) (y : List ℕ) → read (mark above cleared) x ≡ Ok (m, y)
    → mark_rule above cleared m.stamp ≡ None
unfolding mark stamp
mark_valid above cleared x m y e =
    let h = read_stands (mark above cleared) x m y e in
    ap (λ (m : ValueMark). mark_rule above cleared m.stamp) (sym h.3.3.0) ∙ h.3.2.4

-- a stamp that breaks no rule is not cleared, and is above
pub lawful_mark : (above cleared : Option Stamp) (s : Stamp) → mark_rule above cleared s ≡ None → (is_cleared cleared s ≡ false) × (is_above above s ≡ true)
lawful_mark above cleared s h = at (is_cleared cleared s) (is_above above s) h
  where
    at : (b c : Bool) → (if b then Some OutOfOrder else (if c then None else Some NotAbove)) ≡ None → (b ≡ false) × (c ≡ true)
    at true c h = absurd cc
    at false true h = (refl, refl)
    at false false h = absurd cc

-- a stamp that was read above another is above it, if there is one
pub stamp_above : (above : Option Stamp) (x : List ℕ) (s : Option Stamp) (y : List ℕ) → Stands (optional_stamp above) x s y
    → IfSome s (λ s. is_above above s ≡ true)
unfolding optional_stamp stamp
stamp_above above x s y h = by (h.0 == 0) s h.1 h.3
  where
    lawful : (b : Bool) → (if b then None else Some NotAbove) ≡ None → b ≡ true
    lawful true e = refl
    lawful false e = absurd cc

    by : (test : Bool) (s : Option Stamp) (x : List ℕ) → Stands (choose test (done None) (next (stamp (above_rule above)) (λ t. done (Some t)))) x s y
        → IfSome s (λ s. is_above above s ≡ true)
    by true s x h = subst (λ s. IfSome s (λ s. is_above above s ≡ true)) h.0 tt
    by false s x h = subst (λ s. IfSome s (λ s. is_above above s ≡ true)) h.3.0 (lawful (is_above above h.0) h.2.4)

-- so the clear keeps each mark
pub kept_all : (above cleared : Option Stamp) (o : Option ValueMark) → IfSome o (λ m. mark_rule above cleared m.stamp ≡ None) → mark_after_clear cleared o ≡ o
kept_all above cleared None h = refl
kept_all above None (Some m) h = refl
kept_all above (Some c) (Some m) h = rw ((lawful_mark above (Some c) m.stamp h).0) refl

-- and each is above
pub above_all : (above cleared : Option Stamp) (o : Option ValueMark) → IfSome o (λ m. mark_rule above cleared m.stamp ≡ None)
    → IfSome o (λ m. is_above above m.stamp ≡ true)
above_all above cleared None h = tt
above_all above cleared (Some m) h = (lawful_mark above cleared m.stamp h).1

-- a cell that was read is not empty
pub not_empty : (above cleared : Option Stamp) (n : ℕ) (x : List ℕ) (marks : FinMap octets_cmp ValueMark) (y : List ℕ) → empty_cell cleared n ≡ None
    → read (map_of {R = octets_cmp} value (mark above cleared) n) x ≡ Ok (marks, y)
    → ◌≡◌ {A = AttrCell} (record { cleared = cleared; values = marks }) (record { cleared = None; values = empty }) → ⊥
not_empty above None zero x marks y h e same = absurd cc
not_empty above None (suc n) x marks y h e same = map_filled value (mark above None) n x marks y e (ap (λ (c : AttrCell). c.values) same)
not_empty above (Some c) n x marks y h e same = let none : Some c ≡ None = ap (λ (c : AttrCell). c.cleared) same in absurd cc
