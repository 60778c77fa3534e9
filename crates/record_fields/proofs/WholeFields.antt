-- The octets of fields and of keyed lists are the whole of them.
use Rattle.std.proofs.Common.{◌≡◌, ℕ, ◌/◌, ◌%◌, ◌^◌, ◌<◌, ◌≤◌, Bool, true, false, T, List, [], ◌∷◌, ◌++◌, length}
use Rattle.std.proofs.Common.{Option, Some, None, refl, sym, ap, subst, ◌∙◌, append-nil, arith}
use Rattle.std.specs.Prelude.{IfSome, IsTrue, if◌then◌else◌}
use Rattle.std.proofs.lemmas.List.Elements.{recursion_from_All}
use Rattle.std.proofs.lemmas.Nat.{from_be_bytes-to_be_bytes_2, from_be_bytes-to_be_bytes_4, from_be_bytes-to_be_bytes_8}
use Rattle.std.specs.Int.{w16, w32, w64, to_be_bytes}
use Rattle.std.specs.List.{AllByRecursion, list_all}
use Rattle.std.specs.declared.cmp.Ordering.{Ordering}
use Rattle.std.specs.Ordering.{is_lt}
use Rattle.std.specs.Cmp.{IsTotalOrder}
use Rattle.std.specs.Cmp.Lexicographic.{nat_list_cmp_total}
use Rattle.std.specs.FinMap.{FinMap, IsAntisymmetric, empty, entries, entries_sorted, len, len-entries, get-entries, is_sorted}
use Rattle.std.specs.FinMap.Entries.{below_all}
use Rattle.cds_stamps.specs.declared.stamp.Stamp.{Stamp}
use Rattle.cds_stamps.specs.Joins.{EachValue}
use Rattle.cds_stamps.specs.Names.{is_name_octet, is_attr_octet, longest_component, longest_attr, simple_name_fault, attr_fault}
use Rattle.cds_stamps.specs.Octets.{octets_cmp, octets_exact}
use Rattle.cds_stamps.proofs.NameLaws.{simple_name_laws, attr_name_laws}
use Rattle.attr_sets.specs.CellPurges.{is_above}
use Rattle.attr_sets.specs.Values.{value_fault, longest_value}
use Rattle.record_fields.specs.declared.fault.Rule.{Rule}
use Rattle.record_fields.specs.declared.fault.Rule.TheVariants.{BadLength, OutOfOrder, BadFlag, NotAbove}
use Rattle.record_fields.specs.Layouts.{Layout, done, field, next, Stands}
use Rattle.record_fields.specs.Decoding.{IsWhole}
use Rattle.record_fields.specs.Fields.{free, outside, name_rule, node_of, node_octets, stamp_of, octets_order, octet, number, node, stamp, stamp_if, above_rule}
use Rattle.record_fields.specs.Fields.{optional_stamp, octets_of, simple_name, attr_name, value}
use Rattle.record_fields.specs.Added.{add_all}
use Rattle.record_fields.specs.ListLayouts.{item, ascending_items, map_of}
use Rattle.record_fields.specs.FieldOctets.{stamp_octets, optional_stamp_octets, name_octets, value_octets, items_octets, each_octets}
use Rattle.record_fields.specs.FieldRanges.{FitsStamp, ItemsFit}
use Rattle.record_fields.proofs.LayoutLaws.{front_stands}
use Rattle.record_fields.proofs.Ascending.{first_of, second_of, added_entries, each_entry}

-- ---- one layout and then another

-- the octets are this value's, and nothing follows
pub record Whole {A : Type 0} (l : Layout A) (v : A) (octets : List ℕ) : Type 0 where
  pub is : IsWhole l v octets

-- octets of one layout, and then octets of the next
pub whole_next : {A B : Type 0} {first : Layout B} {second : B → Layout A} {b : B} {v : A} {x y : List ℕ} → Whole first b x → Whole (second b) v y
    → Whole (next first second) v (x ++ y)
whole_next {first = first} {b = b} {x = x} {y = y} h k =
    let f = front_stands first x b [] h.is in
    let same : x ≡ f.0 = f.1 ∙ append-nil f.0 in
    record { is = (b, y, subst (λ z. Stands first (z ++ y) b y) (sym same) (f.2 y), k.is) }

-- a layout without octets
pub whole_done : {A : Type 0} (a : A) → Whole (done a) a []
whole_done a = record { is = (refl, refl) }

-- the same octets
pub whole_as : {A : Type 0} {l : Layout A} {v : A} {x y : List ℕ} → Whole l v x → x ≡ y → Whole l v y
whole_as {l = l} {v = v} h e = subst (λ z. Whole l v z) e h

-- a layout whose value is put into another
pub whole_last : {A B : Type 0} {l : Layout B} {f : B → A} {b : B} {v : A} {x : List ℕ} → Whole l b x → f b ≡ v → Whole (next l (λ b. done (f b))) v x
whole_last {f = f} {b = b} {x = x} h e =
    let end : Whole (done (f b)) _ [] = record { is = (e, refl) } in
    whole_as (whole_next h end) (append-nil x)

-- ---- fields

field_whole : {A : Type 0} (size : ℕ) (says : List ℕ → A) (rule : A → Option Rule) (v : A) (own : List ℕ) → length own ≡ size → says own ≡ v
    → rule v ≡ None → Whole (field size says rule) v own
field_whole size says rule v own len said lawful = record { is = (own, sym (append-nil own), len, said, lawful) }

-- an octet
pub octet_whole : (rule : ℕ → Option Rule) (n : ℕ) → rule n ≡ None → Whole (octet rule) n (n ∷ [])
unfolding octet
octet_whole rule n lawful = field_whole 1 _ rule n (n ∷ []) refl refl lawful

u16_whole : (rule : ℕ → Option Rule) (n : ℕ) → n < 2 ^ 16 → rule n ≡ None → Whole (number w16 rule) n (to_be_bytes w16 n)
unfolding number
u16_whole rule n fits lawful = field_whole 2 _ rule n (to_be_bytes w16 n) refl (from_be_bytes-to_be_bytes_2 n fits) lawful

-- a number of 4 octets
pub u32_whole : (rule : ℕ → Option Rule) (n : ℕ) → n < 2 ^ 32 → rule n ≡ None → Whole (number w32 rule) n (to_be_bytes w32 n)
unfolding number
u32_whole rule n fits lawful = field_whole 4 _ rule n (to_be_bytes w32 n) refl (from_be_bytes-to_be_bytes_4 n fits) lawful

-- a number of 8 octets
pub u64_whole : (rule : ℕ → Option Rule) (n : ℕ) → n < 2 ^ 64 → rule n ≡ None → Whole (number w64 rule) n (to_be_bytes w64 n)
unfolding number
u64_whole rule n fits lawful = field_whole 8 _ rule n (to_be_bytes w64 n) refl (from_be_bytes-to_be_bytes_8 n fits) lawful

node_back : (n : ℕ) → n < 2 ^ 48 → node_of (node_octets n) ≡ n
node_back n fits =
    let high = from_be_bytes-to_be_bytes_2 (n / 4294967296) (omega arith) in
    let low = from_be_bytes-to_be_bytes_4 (n % 4294967296) (omega arith) in
    rw (high, low) (omega arith)

-- a node
pub node_whole : (n : ℕ) → n < 2 ^ 48 → Whole node n (node_octets n)
unfolding node
node_whole n fits = field_whole 6 node_of free n (node_octets n) refl (node_back n fits) refl

-- a stamp
pub stamp_whole : (rule : Stamp → Option Rule) (s : Stamp) → FitsStamp s → rule s ≡ None → Whole (stamp rule) s (stamp_octets s)
unfolding stamp stamp_octets
stamp_whole rule s fits lawful =
    field_whole 14 stamp_of rule s (to_be_bytes w64 s.time ++ node_octets s.node) refl
    (λ i. record { time = from_be_bytes-to_be_bytes_8 s.time fits.time i; node = node_back s.node fits.node i }) lawful

-- a stamp that is above breaks no rule
pub above_lawful : (above : Option Stamp) (s : Stamp) → is_above above s ≡ true → above_rule above s ≡ None
above_lawful above s is = ap (λ b. if b then None else Some NotAbove) is

-- a flag, and a stamp if there is one
pub optional_stamp_whole : (above s : Option Stamp) → IfSome s FitsStamp → IfSome s (λ s. is_above above s ≡ true)
    → Whole (optional_stamp above) s (optional_stamp_octets s)
unfolding optional_stamp optional_stamp_octets
optional_stamp_whole above None fits is = whole_next {second = stamp_if above} {y = []} (octet_whole (outside BadFlag 0 1) 0 refl) (whole_done None)
optional_stamp_whole above (Some s) fits is =
    whole_next {second = stamp_if above} (octet_whole (outside BadFlag 0 1) 1 refl)
    (whole_last {f = Some} (stamp_whole (above_rule above) s fits (above_lawful above s is)) refl)

-- a stamp of any value, if there is one
pub any_above : (s : Option Stamp) → IfSome s (λ s. is_above None s ≡ true)
any_above None = tt
any_above (Some s) = refl

octets_whole : (rule : List ℕ → Option Rule) (o : List ℕ) → rule o ≡ None → Whole (octets_of (length o) rule) o o
unfolding octets_of
octets_whole rule o lawful = field_whole (length o) (λ o. o) rule o o refl refl lawful

-- ---- names and values

each_passes : (p : ℕ → Bool) (o : List ℕ) → AllByRecursion (λ b. IsTrue (p b)) o → list_all p o ≡ true
each_passes p [] h = refl
each_passes p (b ∷ bs) h = grind (arith, h.0, each_passes p bs h.1)

-- the octets of a simple name, and how many they are
pub simple_name_lawful : (o : List ℕ) → simple_name_fault o ≡ None → (list_all is_name_octet o ≡ true) × (1 ≤ length o) × (length o ≤ longest_component)
simple_name_lawful o e = let n = (simple_name_laws o).0 e in (each_passes is_name_octet o (recursion_from_All _ o n.each), n.filled, n.short)

-- the octets of an attribute's name, and how many they are
pub attr_name_lawful : (o : List ℕ) → attr_fault o ≡ None → (list_all is_attr_octet o ≡ true) × (1 ≤ length o) × (length o ≤ longest_attr)
attr_name_lawful o e = let n = (attr_name_laws o).0 e in (each_passes is_attr_octet o (recursion_from_All _ o n.each), n.filled, n.short)

-- how many octets a value has
pub value_lawful : (o : List ℕ) → value_fault o ≡ None → (1 ≤ length o) × (length o ≤ longest_value)
value_lawful o e = (grind (arith, e), grind (arith, e))

-- a number in its range breaks no rule
pub within_lawful : (rule : Rule) (least most n : ℕ) → least ≤ n → n ≤ most → outside rule least most n ≡ None
within_lawful rule least most n low high = grind arith

name_rule_lawful : (p : ℕ → Bool) (before : Option (List ℕ)) (o : List ℕ) → list_all p o ≡ true → octets_order before o ≡ None → name_rule p before o ≡ None
name_rule_lawful p before o each above = rw each above

-- a simple name after its length
pub simple_name_whole : (before : Option (List ℕ)) (o : List ℕ) → simple_name_fault o ≡ None → octets_order before o ≡ None
    → Whole (simple_name before) o (name_octets o)
unfolding simple_name name_octets
simple_name_whole before o lawful above =
    let l = simple_name_lawful o lawful in
    whole_next {second = λ n. octets_of n (name_rule is_name_octet before)}
    (octet_whole (outside BadLength 1 longest_component) (length o) (within_lawful BadLength 1 longest_component (length o) l.1 l.2))
    (octets_whole (name_rule is_name_octet before) o (name_rule_lawful is_name_octet before o l.0 above))

-- an attribute's name after its length
pub attr_name_whole : (before : Option (List ℕ)) (o : List ℕ) → attr_fault o ≡ None → octets_order before o ≡ None → Whole (attr_name before) o (name_octets o)
unfolding attr_name name_octets
attr_name_whole before o lawful above =
    let l = attr_name_lawful o lawful in
    whole_next {second = λ n. octets_of n (name_rule is_attr_octet before)}
    (octet_whole (outside BadLength 1 longest_attr) (length o) (within_lawful BadLength 1 longest_attr (length o) l.1 l.2))
    (octets_whole (name_rule is_attr_octet before) o (name_rule_lawful is_attr_octet before o l.0 above))

-- a value after its length
pub value_whole : (before : Option (List ℕ)) (o : List ℕ) → value_fault o ≡ None → octets_order before o ≡ None → Whole (value before) o (value_octets o)
unfolding value value_octets
value_whole before o lawful above =
    let l = value_lawful o lawful in
    whole_next {second = λ n. octets_of n (octets_order before)}
    (u16_whole (outside BadLength 1 longest_value) (length o) (omega (arith, l.1)) (within_lawful BadLength 1 longest_value (length o) l.0 l.1))
    (octets_whole (octets_order before) o above)

-- ---- orders of keys

-- an order of keys, and the rule that a key keeps after the one before it
pub record KeyOrder (K : Type 0) : Type 0 where
  pub cmp : K → K → Ordering
  pub rule : Option K → K → Option Rule
  pub total : IsTotalOrder cmp
  pub exact : IsAntisymmetric cmp
  pub first : (k : K) → rule None k ≡ None
  pub above : (b k : K) → T (is_lt (cmp b k)) → rule (Some b) k ≡ None

-- a key that is in order breaks no rule
pub in_order : (b : Bool) → T b → (if b then None else Some OutOfOrder) ≡ None
in_order true p = refl
in_order false p = absurd p

-- keys of octets, such as names and values: each is to be above the one before it
abbrev pub octets_keys : KeyOrder (List ℕ)
octets_keys = record {
  cmp = octets_cmp;
  rule = octets_order;
  total = nat_list_cmp_total;
  exact = octets_exact;
  first = λ k. refl;
  above = λ b k p. in_order (is_lt (octets_cmp b k)) p;
}

-- ---- items and maps

-- a layout of keys and one of what is said of them, and their octets: each key that fits and is in
-- order is whole, and so is each content that fits and is valid
pub record Keyed {K X : Type 0} (o : KeyOrder K) (V : X → Type 0) (key : Option K → Layout K) (content : Layout X) (P : K → Type 0) (Q : X → Type 0)
    (named : K → List ℕ) (said : X → List ℕ) : Type 0 where
  pub keys : (before : Option K) (k : K) → P k → o.rule before k ≡ None → Whole (key before) k (named k)
  pub contents : (x : X) → V x → Q x → Whole content x (said x)

module _ {K X : Type 0} {o : KeyOrder K} {V : X → Type 0} {key : Option K → Layout K} {content : Layout X} {P : K → Type 0} {Q : X → Type 0}
    {named : K → List ℕ} {said : X → List ℕ} (parts : Keyed o V key content P Q named said) where
  -- the keys ascend, above the one before
  abbrev IsAscending : Option K → List (K × X) → Type 0
  IsAscending before [] = Unit {0}
  IsAscending before (e ∷ es) = (o.rule before e.0 ≡ None) × IsAscending (Some e.0) es

  ascends_after : (k : K) (es : List (K × X)) → T (below_all o.cmp k es) → T (is_sorted o.cmp es) → IsAscending (Some k) es
  ascends_after k [] p q = tt
  ascends_after k (e ∷ es) p q = (o.above k e.0 (first_of _ _ p), ascends_after e.0 es (first_of _ _ q) (second_of _ _ q))

  ascends : (es : List (K × X)) → T (is_sorted o.cmp es) → IsAscending None es
  ascends [] q = tt
  ascends (e ∷ es) q = (o.first e.0, ascends_after e.0 es (first_of _ _ q) (second_of _ _ q))

  item_whole : (before : Option K) (e : K × X) → o.rule before e.0 ≡ None → P e.0 × Q e.1 → V e.1
      → Whole (item key content before) e (named e.0 ++ said e.1)
  unfolding item
  item_whole before e above fits valid =
      whole_next {second = λ k. next content (λ x. done (k, x))} (parts.keys before e.0 fits.0 above)
      (whole_last {f = λ x. (e.0, x)} (parts.contents e.1 valid fits.1) refl)

  items_whole : (before : Option K) (es : List (K × X)) → IsAscending before es → ItemsFit P Q es → AllByRecursion (λ e. V e.1) es
      → Whole (ascending_items key content (length es) before) es (items_octets named said es)
  unfolding ascending_items items_octets
  items_whole before [] above fits valid = whole_done []
  items_whole before (e ∷ es) above fits valid =
      whole_next {second = λ e. next (ascending_items key content (length es) (Some e.0)) (λ es. done (e ∷ es))}
      (item_whole before e above.0 fits.0 valid.0)
      (whole_last {f = λ es. e ∷ es} (items_whole (Some e.0) es above.1 fits.1 valid.1) refl)

  -- the entries of a map
  pub map_whole : (m : FinMap o.cmp X) → ItemsFit P Q (entries m) → EachValue V m → Whole (map_of {R = o.cmp} key content (len m)) m (each_octets named said m)
  unfolding map_of
  map_whole m fits valid =
      let each = each_entry o.total o.exact V (entries m) (entries_sorted m) (λ q. subst (λ x. IfSome x V) (get-entries m q) (valid q)) in
      let all = items_whole None (entries m) (ascends (entries m) (entries_sorted m)) fits each in
      subst (λ n. Whole (next (ascending_items key content n None) (λ es. done (add_all (empty {R = o.cmp}) es))) m (each_octets named said m)) (sym (len-entries m))
      (whole_last {f = add_all (empty {R = o.cmp})} all (added_entries o.total m))
