-- Layouts that spell each value in one way.
use Rattle.std.proofs.Common.{◌≡◌, ℕ, zero, suc, ◌+◌, ◌*◌, ◌<◌, Bool, true, false, T, List, [], ◌∷◌, ◌++◌, length, take, drop, get_or, Option, Some, None}
use Rattle.std.proofs.Common.{refl, sym, ap, subst, ◌∙◌, inl, inr, append-nil, length-drop, arith}
use Rattle.std.specs.Prelude.{slice_index}
use Rattle.std.specs.List.{All}
use Rattle.std.specs.Int.{w16, w32, w64, from_be_bytes}
use Rattle.std.specs.Ordering.{is_lt}
use Rattle.std.specs.declared.cmp.Ordering.{Ordering}
use Rattle.std.specs.declared.cmp.Ordering.TheVariants.{Less}
use Rattle.std.specs.Cmp.{IsTotalOrder}
use Rattle.std.specs.FinMap.{FinMap, empty, entries, len, is_sorted, len-entries}
use Rattle.std.specs.FinMap.Entries.{below_all}
use Rattle.std.proofs.lemmas.Bool.{cases_lt}
use Rattle.std.proofs.lemmas.List.{take_at, drop_at, take-append-drop, length-take-le, get_or_past}
use Rattle.std.proofs.lemmas.List.Elements.{All-take, All-drop}
use Rattle.std.proofs.lemmas.Nat.{be_bytes_2, be_bytes_4, be_bytes_8}
use Rattle.cds_stamps.specs.declared.stamp.Stamp.{Stamp}
use Rattle.record_fields.specs.declared.fault.Rule.{Rule}
use Rattle.record_fields.specs.Layouts.{Layout, done, field, next, choose, Stands}
use Rattle.record_fields.specs.Decoding.{IsWhole}
use Rattle.record_fields.specs.Fields.{node_of, stamp_of, octet, number, node, stamp, octets_of}
use Rattle.record_fields.specs.Added.{add_all}
use Rattle.record_fields.specs.ListLayouts.{item, ascending_items, map_of}
use Rattle.record_fields.proofs.LayoutLaws.{front_stands}
use Rattle.record_fields.proofs.Ascending.{both, below_less, entries_added}

-- ---- octets are below 256

abbrev pub IsBytes : List ℕ → Type 0
IsBytes octets = All (λ n. n < 256) octets

each_byte : (octets : List ℕ) → IsBytes octets → (i : ℕ) → get_or octets i 0 < 256
each_byte octets bytes i =
    elim (cases_lt i (length octets)) [
      | inl within ↦ bytes i 0 within
      | inr past ↦ (let none : get_or octets i 0 ≡ 0 = get_or_past octets i 0 past in omega arith)
    ]

front_bytes : (front rest : List ℕ) → IsBytes (front ++ rest) → IsBytes front
front_bytes front rest bytes = subst IsBytes (take_at front rest (length front) refl) (All-take (λ n. n < 256) (length front) (front ++ rest) bytes)

rest_bytes : (front rest : List ℕ) → IsBytes (front ++ rest) → IsBytes rest
rest_bytes front rest bytes = subst IsBytes (drop_at front rest (length front) refl) (All-drop (λ n. n < 256) (length front) (front ++ rest) bytes)

-- ---- layouts

-- octets that are both the whole of one value are the same
pub record OneSpelling {A : Type 0} (l : Layout A) : Type 0 where
  pub same : (v : A) (a b : List ℕ) → IsBytes a → IsBytes b → IsWhole l v a → IsWhole l v b → a ≡ b

-- the value of two layouts tells what the first of them said
pub record Tells {A B : Type 0} (first : Layout B) (second : B → Layout A) : Type 0 where
  pub told : (b c : B) (v : A) (w x y z : List ℕ) → IsWhole first b w → IsWhole (second b) v x → IsWhole first c y → IsWhole (second c) v z → b ≡ c

-- so it does where that is got back of the value
pub tells : {A B : Type 0} {first : Layout B} {second : B → Layout A} (back : A → B)
    → ((b : B) (v : A) (w x : List ℕ) → IsWhole first b w → IsWhole (second b) v x → back v ≡ b) → Tells first second
tells back is = record { told = λ b c v w x y z g h i j. sym (is b v w x g h) ∙ is c v y z i j }

record Parts {A B : Type 0} (first : Layout B) (second : B → Layout A) (v : A) (octets : List ℕ) : Type 0 where
  said : B
  front : List ℕ
  rest : List ℕ
  is : octets ≡ front ++ rest
  one : IsWhole first said front
  two : IsWhole (second said) v rest

in_parts : {A B : Type 0} (first : Layout B) (second : B → Layout A) (v : A) (octets : List ℕ) → IsWhole (next first second) v octets
    → Parts first second v octets
in_parts first second v octets h =
    let f = front_stands first octets h.0 h.1 h.2 in
    record { said = h.0; front = f.0; rest = h.1; is = f.1; one = subst (λ z. IsWhole first h.0 z) (append-nil f.0) (f.2 []); two = h.3 }

-- one layout and then another, where the value tells what the first said
pub spell_next : {A B : Type 0} {first : Layout B} {second : B → Layout A} → Tells first second → OneSpelling first → ((b : B) → OneSpelling (second b))
    → OneSpelling (next first second)
spell_next {first = first} {second = second} t one two = record {
  same = λ v a b p q h k.
      let mine = in_parts first second v a h in
      let other = in_parts first second v b k in
      let my_bytes = subst IsBytes mine.is p in
      let its_bytes = subst IsBytes other.is q in
      let said = t.told mine.said other.said v mine.front mine.rest other.front other.rest mine.one mine.two other.one other.two in
      let fronts =
      one.same other.said mine.front other.front (front_bytes mine.front mine.rest my_bytes) (front_bytes other.front other.rest its_bytes)
      (subst (λ b. IsWhole first b mine.front) said mine.one) other.one in
      let rests =
      (two other.said).same v mine.rest other.rest (rest_bytes mine.front mine.rest my_bytes) (rest_bytes other.front other.rest its_bytes)
      (subst (λ b. IsWhole (second b) v mine.rest) said mine.two) other.two in
      mine.is ∙ (λ i. fronts i ++ rests i) ∙ sym other.is;
}

-- a layout without octets
pub spell_done : {A : Type 0} (a : A) → OneSpelling (done a)
spell_done a = record { same = λ v x y p q h k. h.1 ∙ sym k.1 }

-- a layout whose value is put into another
pub spell_last : {A B : Type 0} {l : Layout B} (f : B → A) → ((b c : B) → f b ≡ f c → b ≡ c) → OneSpelling l → OneSpelling (next l (λ b. done (f b)))
spell_last f apart one = spell_next (record { told = λ b c v w x y z g h i j. apart b c (h.0 ∙ sym j.0) }) one (λ b. spell_done (f b))

-- a choice between two layouts
pub spell_choose : {A : Type 0} {l m : Layout A} (test : Bool) → OneSpelling l → OneSpelling m → OneSpelling (choose test l m)
spell_choose true one two = one
spell_choose false one two = two

same_head : {X : Type 0} (x y : X) (xs ys : List X) → x ∷ xs ≡ y ∷ ys → x ≡ y
same_head x y xs ys e = cc

same_tail : {X : Type 0} (x : X) (xs ys : List X) → x ∷ xs ≡ x ∷ ys → xs ≡ ys
same_tail x xs ys e = cc

-- one of a list, and the others
pub spell_cons : {X : Type 0} {first : Layout X} {rest : X → Layout (List X)} → OneSpelling first → ((x : X) → OneSpelling (rest x))
    → OneSpelling (next first (λ x. next (rest x) (λ xs. done (x ∷ xs))))
spell_cons one others =
    spell_next (record { told = λ x y xs u v w z g h i j. same_head x y h.0 j.0 (h.3.0 ∙ sym j.3.0) }) one (λ x.
    spell_last (λ xs. x ∷ xs) (same_tail x) (others x))

-- ---- fields

-- so many octets that say the same are the same
record SaysOne {A : Type 0} (size : ℕ) (says : List ℕ → A) : Type 0 where
  same : (a b : List ℕ) → IsBytes a → IsBytes b → length a ≡ size → length b ≡ size → says a ≡ says b → a ≡ b

spell_field : {A : Type 0} {size : ℕ} {says : List ℕ → A} {rule : A → Option Rule} → SaysOne size says → OneSpelling (field size says rule)
spell_field one = record {
  same = λ v a b p q h k.
      let mine : a ≡ h.0 = h.1 ∙ append-nil h.0 in
      let other : b ≡ k.0 = k.1 ∙ append-nil k.0 in
      mine ∙ one.same h.0 k.0 (subst IsBytes mine p) (subst IsBytes other q) h.2 k.2 (h.3 ∙ sym k.3) ∙ sym other;
}

octets_say : (size : ℕ) → SaysOne size (λ (o : List ℕ). o)
octets_say size = record { same = λ a b p q l k e. e }

one_octet : (a b : List ℕ) → length a ≡ 1 → length b ≡ 1 → slice_index a 0 ≡ slice_index b 0 → a ≡ b
one_octet (x ∷ []) (y ∷ []) l k e = ap (λ (n : ℕ). n ∷ []) e
one_octet _ _ l k e = absurd (omega arith)

octet_says : SaysOne 1 (λ o. slice_index o 0)
octet_says = record { same = λ a b p q l k e. one_octet a b l k e }

says_16 : SaysOne 2 (from_be_bytes w16)
says_16 =
    record { same = λ a b p q l k e. sym (be_bytes_2 a (from_be_bytes w16 a) l (each_byte a p) refl) ∙ be_bytes_2 b (from_be_bytes w16 a) k (each_byte b q) e }

says_32 : SaysOne 4 (from_be_bytes w32)
says_32 =
    record { same = λ a b p q l k e. sym (be_bytes_4 a (from_be_bytes w32 a) l (each_byte a p) refl) ∙ be_bytes_4 b (from_be_bytes w32 a) k (each_byte b q) e }

says_64 : SaysOne 8 (from_be_bytes w64)
says_64 =
    record { same = λ a b p q l k e. sym (be_bytes_8 a (from_be_bytes w64 a) l (each_byte a p) refl) ∙ be_bytes_8 b (from_be_bytes w64 a) k (each_byte b q) e }

-- two things said, one after the other
say_both : {A B C : Type 0} (m n : ℕ) (one : List ℕ → A) (two : List ℕ → B) (says : List ℕ → C) → SaysOne m one → SaysOne n two
    → ((a b : List ℕ) → IsBytes (drop m a) → IsBytes (drop m b) → says a ≡ says b → (one (take m a) ≡ one (take m b)) × (two (drop m a) ≡ two (drop m b)))
    → SaysOne (m + n) says
say_both m n one two says first second split = record {
  same = λ a b p q l k e.
      let my_rest = All-drop (λ n. n < 256) m a p in
      let its_rest = All-drop (λ n. n < 256) m b q in
      let parts = split a b my_rest its_rest e in
      let fronts =
      first.same (take m a) (take m b) (All-take (λ n. n < 256) m a p) (All-take (λ n. n < 256) m b q) (length-take-le m a (omega arith))
      (length-take-le m b (omega arith)) parts.0 in
      let rests = second.same (drop m a) (drop m b) my_rest its_rest (omega (arith, length-drop m a)) (omega (arith, length-drop m b)) parts.1 in
      sym (take-append-drop m a) ∙ (λ i. fronts i ++ rests i) ∙ take-append-drop m b;
}

four_octets : (octets : List ℕ) → IsBytes octets → from_be_bytes w32 octets < 4294967296
four_octets octets bytes = omega (arith, each_byte octets bytes 0, each_byte octets bytes 1, each_byte octets bytes 2, each_byte octets bytes 3)

high_and_low : (a b c d : ℕ) → b < 4294967296 → d < 4294967296 → 4294967296 * a + b ≡ 4294967296 * c + d → (a ≡ c) × (b ≡ d)
high_and_low a b c d p q e = (omega arith, omega arith)

node_says : SaysOne 6 node_of
node_says =
    say_both 2 4 (from_be_bytes w16) (from_be_bytes w32) node_of says_16 says_32
    (λ a b p q e. high_and_low _ _ _ _ (four_octets (drop 2 a) p) (four_octets (drop 2 b) q) e)

stamp_says : SaysOne 14 stamp_of
stamp_says = say_both 8 6 (from_be_bytes w64) node_of stamp_of says_64 node_says (λ a b p q e. (ap (λ (s : Stamp). s.time) e, ap (λ (s : Stamp). s.node) e))

-- an octet has one spelling
pub spell_octet : (rule : ℕ → Option Rule) → OneSpelling (octet rule)
unfolding octet
spell_octet rule = spell_field octet_says

-- a number of 2 octets has one spelling
pub spell_16 : (rule : ℕ → Option Rule) → OneSpelling (number w16 rule)
unfolding number
spell_16 rule = spell_field says_16

-- a number of 4 octets has one spelling
pub spell_32 : (rule : ℕ → Option Rule) → OneSpelling (number w32 rule)
unfolding number
spell_32 rule = spell_field says_32

-- a number of 8 octets has one spelling
pub spell_64 : (rule : ℕ → Option Rule) → OneSpelling (number w64 rule)
unfolding number
spell_64 rule = spell_field says_64

-- a node has one spelling
pub spell_node : OneSpelling node
unfolding node
spell_node = spell_field node_says

-- a stamp has one spelling
pub spell_stamp : (rule : Stamp → Option Rule) → OneSpelling (stamp rule)
unfolding stamp
spell_stamp rule = spell_field stamp_says

-- octets after their number
pub spell_sized : {count : Layout ℕ} (rule : List ℕ → Option Rule) → OneSpelling count → OneSpelling (next count (λ n. octets_of n rule))
unfolding octets_of
spell_sized rule one = spell_next (tells length (λ n o w x g h. ap length (sym h.3) ∙ h.2)) one (λ n. spell_field (octets_say n))

-- ---- items whose keys ascend

module _ {K X : Type 0} {R : K → K → Ordering} (total : IsTotalOrder R) where
  module _ (key : Option K → Layout K) (content : Layout X) (rises : (b k : K) (x y : List ℕ) → Stands (key (Some b)) x k y → R b k ≡ Less) where
    -- all are above the one before
    abbrev Above : Option K → List (K × X) → Type 0
    Above None es = Unit {0}
    Above (Some b) es = T (below_all R b es)

    none_above : (before : Option K) → Above before []
    none_above None = tt
    none_above (Some b) = tt

    all_above : (before : Option K) (e : K × X) (es : List (K × X)) (x y : List ℕ) → Stands (key before) x e.0 y → T (below_all R e.0 es)
        → Above before (e ∷ es)
    all_above None e es x y h p = tt
    all_above (Some b) e es x y h p =
        let above = rises b e.0 x y h in
        both _ _ (subst (λ r. T (is_lt r)) (sym above) tt) (below_less total b e.0 es above p)

    items_ascend : (n : ℕ) (before : Option K) (x : List ℕ) (es : List (K × X)) (y : List ℕ) → Stands (ascending_items key content n before) x es y
        → T (is_sorted R es) × Above before es
    unfolding ascending_items item
    items_ascend zero before x es y h = subst (λ es. T (is_sorted R es) × Above before es) h.0 (tt, none_above before)
    items_ascend (suc n) before x es y h =
        let rest = items_ascend n (Some h.0.0) h.1 h.3.0 h.3.1 h.3.2 in
        let first = subst (λ k. Stands (key before) x k h.2.1) (ap (λ (e : K × X). e.0) h.2.3.3.0) h.2.2 in
        subst (λ es. T (is_sorted R es) × Above before es) h.3.3.0 (both _ _ rest.1 rest.0, all_above before h.0 h.3.0 x h.2.1 first rest.1)

    item_count : (n : ℕ) (before : Option K) (x : List ℕ) (es : List (K × X)) (y : List ℕ) → Stands (ascending_items key content n before) x es y → length es ≡ n
    unfolding ascending_items
    item_count zero before x es y h = ap length (sym h.0)
    item_count (suc n) before x es y h = ap length (sym h.3.3.0) ∙ ap suc (item_count n (Some h.0.0) h.1 h.3.0 h.3.1 h.3.2)

    -- a map has as many entries as there are items
    map_count : (n : ℕ) (x : List ℕ) (m : FinMap R X) (y : List ℕ) → Stands (map_of {R = R} key content n) x m y → len m ≡ n
    unfolding map_of
    map_count n x m y h =
        len-entries m ∙ ap length (ap entries (sym h.3.0) ∙ entries_added total h.0 (items_ascend n None x h.0 h.1 h.2).0) ∙ item_count n None x h.0 h.1 h.2

    module _ (keys : (before : Option K) → OneSpelling (key before)) (contents : OneSpelling content) where
      spell_item : (before : Option K) → OneSpelling (item key content before)
      unfolding item
      spell_item before =
          spell_next (tells (λ (e : K × X). e.0) (λ k e w x g h. ap (λ (e : K × X). e.0) (sym h.3.0))) (keys before) (λ k.
          spell_last (λ c. (k, c)) (λ c d e. ap (λ (e : K × X). e.1) e) contents)

      spell_items : (n : ℕ) (before : Option K) → OneSpelling (ascending_items key content n before)
      unfolding ascending_items
      spell_items zero before = spell_done []
      spell_items (suc n) before = spell_cons (spell_item before) (λ e. spell_items n (Some e.0))

      spell_map : (n : ℕ) → OneSpelling (map_of {R = R} key content n)
      unfolding map_of
      spell_map n =
          spell_next (tells entries (λ es m w x g h. ap entries (sym h.0) ∙ entries_added total es (items_ascend n None w es [] g).0)) (spell_items n None)
          (λ es. spell_done (add_all empty es))

      -- the number of a map's items, and the map, which is put into another value
      pub spell_counted : {A : Type 0} {count : Layout ℕ} (f : FinMap R X → A) (back : A → FinMap R X) → ((m : FinMap R X) → back (f m) ≡ m)
          → OneSpelling count → OneSpelling (next count (λ n. next (map_of {R = R} key content n) (λ m. done (f m))))
      spell_counted {A = A} f back is one =
          spell_next (tells (λ v. len (back v)) (λ n v w x g h. ap (λ (v : A). len (back v)) (sym h.3.0) ∙ ap len (is h.0) ∙ map_count n x h.0 h.1 h.2)) one
          (λ n.
          spell_last f (λ m o e. sym (is m) ∙ ap back e ∙ is o) (spell_map n))
