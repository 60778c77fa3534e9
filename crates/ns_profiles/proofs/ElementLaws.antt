-- Octets without a fault are those of elements, and what elements are written as has none.
use Rattle.std.proofs.Common.{Fits, w8, ◌≡◌, ℕ, zero, suc, ◌+◌, ◌-◌, ◌≤◌, ◌<◌, ◌^◌, Bool, true, false, ◌⊎◌, inl, inr, List, [], ◌∷◌, ◌++◌, length}
use Rattle.std.proofs.Common.{get_or, take, drop, replicate, Option, Some, None, Result, Ok, Err, refl, sym, ap, subst, ◌∙◌, arith, length-take}
use Rattle.std.proofs.Common.{length-drop}
use Rattle.std.proofs.lemmas.Bool.{cases_lt}
use Rattle.std.proofs.lemmas.List.{take-append-drop, drop-drop, take_rest, append-nil, get_or_past}
use Rattle.std.proofs.lemmas.List.Elements.{All-take, All-drop, All-from_get_or}
use Rattle.std.proofs.lemmas.List.Sums.{AllPass-from_list_all}
use Rattle.std.specs.Prelude.{OnOk, MatchResult, is_none, not, nat_lt, nat_le, ◌==◌, ◌||◌, ◌&&◌, slice_index, if◌then◌else◌}
use Rattle.std.specs.Int.{to_be_bytes, from_be_bytes, w16}
use Rattle.std.specs.List.{All, list_all, slice_range}
use Rattle.std.specs.Option.{option_or}
use Rattle.std.proofs.lemmas.Nat.{be_bytes_2}
use Rattle.cds_stamps.specs.Outcomes.{ok_unless}
use Rattle.cell_names.specs.FullNames.{full_name_octets, components_of, name_fault}
use Rattle.cell_names.proofs.FullNameLaws.{spelling-components}
use Rattle.ns_profiles.specs.declared.fault.ProfileFault.{ProfileFault}
use Rattle.ns_profiles.specs.declared.fault.ProfileFault.TheVariants.{BadElement}
use Rattle.ns_profiles.specs.Elements.{Field, field_octets, field_fault, first_fault, priority_field, interface_field, length_field, member_field}
use Rattle.ns_profiles.specs.Elements.{annotation_field, is_default, name_length, element_fault, element_octets, interface_in, member_octets, element_of_octets}
use Rattle.ns_profiles.specs.Elements.{element_of, is_annotation_octet, no_interface, IsElement, IsElementOf}

-- ---- faults, field by field

-- after a field without a fault the first fault is that of the other fields
pub after_field : (octets : List ℕ) (field : Field) (fields : List Field) → field_fault octets field ≡ None
    → first_fault octets (field ∷ fields) ≡ first_fault octets fields
after_field octets field fields e = ap (λ (o : Option ProfileFault). option_or o (first_fault octets fields)) e

-- the fault of the first field that has one is the first fault
pub at_field : (octets : List ℕ) (field : Field) (fields : List Field) (fault : ProfileFault) → field_fault octets field ≡ Some fault
    → first_fault octets (field ∷ fields) ≡ Some fault
at_field octets field fields fault e = ap (λ (o : Option ProfileFault). option_or o (first_fault octets fields)) e

no_first : {E : Type 0} (x y : Option E) → option_or x y ≡ None → (x ≡ None) × (y ≡ None)
no_first None y e = (refl, e)
no_first (Some x) y e = cc

-- a field without a fault is whole and keeps its rule
pub field_kept : (octets : List ℕ) (field : Field) → field_fault octets field ≡ None → (field.before + field.width ≤ length octets)
    × (field.keeps (field_octets field octets) ≡ true)
field_kept octets field e = by_tests (nat_lt (length octets) (field.before + field.width)) refl (field.keeps (field_octets field octets)) refl e
  where
    by_tests : (short : Bool) → nat_lt (length octets) (field.before + field.width) ≡ short → (kept : Bool) → field.keeps (field_octets field octets) ≡ kept
        → (if short then Some (BadElement (length octets + 1)) else (if kept then None else Some (BadElement (field.before + 1)))) ≡ None
        → (field.before + field.width ≤ length octets) × (kept ≡ true)
    by_tests true s kept k e = cc
    by_tests false s true k e = (grind (arith, s), refl)
    by_tests false s false k e = cc

-- a field that is whole and keeps its rule has no fault
pub kept_field : (octets : List ℕ) (field : Field) → field.before + field.width ≤ length octets → field.keeps (field_octets field octets) ≡ true
    → field_fault octets field ≡ None
kept_field octets field whole kept =
    let fits : nat_lt (length octets) (field.before + field.width) ≡ false = grind arith in
    rw (fits, kept) refl

-- what octets without a fault keep
pub record IsWhole (octets : List ℕ) : Type 0 where
  pub priority : nat_le (slice_index (slice_range octets 0 1) 0) 8 ≡ true
  pub uuid : (not (is_default octets) || list_all (λ b. b == 0) (slice_range octets 1 17)) ≡ true
  pub major : (not (is_default octets) || list_all (λ b. b == 0) (slice_range octets 17 19)) ≡ true
  pub minor : (not (is_default octets) || list_all (λ b. b == 0) (slice_range octets 19 21)) ≡ true
  pub long : 23 + name_length octets ≤ length octets
  pub member : name_fault (member_octets octets) ≡ None
  pub annotation : list_all is_annotation_octet (slice_range octets (23 + name_length octets) (length octets)) ≡ true

none_found : {E : Type 0} (fault : Option E) → is_none fault ≡ true → fault ≡ None
none_found None e = refl
none_found (Some fault) e = cc

-- octets without a fault keep all rules
pub whole_from : (octets : List ℕ) → element_fault octets ≡ None → IsWhole octets
unfolding element_fault
whole_from octets e =
    let d = is_default octets in
    let n = name_length octets in
    let priority = no_first (field_fault octets priority_field) _ e in
    let uuid = no_first (field_fault octets (interface_field d 1 16)) _ priority.1 in
    let major = no_first (field_fault octets (interface_field d 17 2)) _ uuid.1 in
    let minor = no_first (field_fault octets (interface_field d 19 2)) _ major.1 in
    let long = no_first (field_fault octets length_field) _ minor.1 in
    let member = no_first (field_fault octets (member_field n)) _ long.1 in
    let annotation = no_first (field_fault octets (annotation_field n (length octets))) _ member.1 in
    let name = field_kept octets (member_field n) member.0 in
    let rest = field_kept octets (annotation_field n (length octets)) annotation.0 in
    let until : 23 + n + (length octets - (23 + n)) ≡ length octets = let h = name.0 in omega arith in
    record {
      priority = (field_kept octets priority_field priority.0).1;
      uuid = (field_kept octets (interface_field d 1 16) uuid.0).1;
      major = (field_kept octets (interface_field d 17 2) major.0).1;
      minor = (field_kept octets (interface_field d 19 2) minor.0).1;
      long = name.0;
      member = none_found _ name.1;
      annotation = subst (λ (to : ℕ). list_all is_annotation_octet (slice_range octets (23 + n) to) ≡ true) until rest.1;
    }

-- ---- octets without a fault, cut into their fields

zeros_are : (n : ℕ) (xs : List ℕ) → length xs ≡ n → list_all (λ b. b == 0) xs ≡ true → xs ≡ replicate n 0
zeros_are zero [] len e = refl
zeros_are (suc n) [] len e = absurd (omega arith)
zeros_are zero (x ∷ xs) len e = absurd (omega arith)
zeros_are (suc n) (x ∷ xs) len e =
    let both = and_parts (x == 0) _ e in
    let first : x ≡ 0 = grind (arith, both.0) in
    let rest = zeros_are n xs (omega arith) both.1 in
    λ i. first i ∷ rest i
  where
    and_parts : (a b : Bool) → (a && b) ≡ true → (a ≡ true) × (b ≡ true)
    and_parts true b e = (refl, e)
    and_parts false b e = cc

-- the octets from one count to another, of which there are so many
range_length : (octets : List ℕ) (a n : ℕ) → a + n ≤ length octets → length (take n (drop a octets)) ≡ n
range_length octets a n h = omega (arith, length-take n (drop a octets), length-drop a octets)

-- what is from one count on: the next field, and what is after it
cut : (octets : List ℕ) (a n : ℕ) → drop a octets ≡ take n (drop a octets) ++ drop (a + n) octets
cut octets a n =
    sym (take-append-drop n (drop a octets)) ∙ ap (λ (rest : List ℕ). take n (drop a octets) ++ rest) (drop-drop n a octets)

first_octet : (octets : List ℕ) → 1 ≤ length octets → take 1 octets ≡ slice_index octets 0 ∷ []
first_octet [] h = absurd (omega arith)
first_octet (b ∷ bs) h = refl

octet_in : (octets : List ℕ) (a n i : ℕ) → All (λ b. b < 2 ^ 8) octets → get_or (take n (drop a octets)) i 0 < 256
octet_in octets a n i all = by_place (cases_lt i (length (take n (drop a octets))))
  where
    by_place : (i < length (take n (drop a octets))) ⊎ (length (take n (drop a octets)) ≤ i) → get_or (take n (drop a octets)) i 0 < 256
    by_place (inl h) = All-take (λ b. b < 2 ^ 8) n (drop a octets) (All-drop (λ b. b < 2 ^ 8) a octets all) i 0 h
    by_place (inr h) = let past : get_or (take n (drop a octets)) i 0 ≡ 0 = get_or_past (take n (drop a octets)) i 0 h in omega arith

-- a number of two octets
number_in : (octets : List ℕ) (a : ℕ) → a + 2 ≤ length octets → All (λ b. b < 2 ^ 8) octets
    → (from_be_bytes w16 (take 2 (drop a octets)) < 2 ^ 16) × (to_be_bytes w16 (from_be_bytes w16 (take 2 (drop a octets))) ≡ take 2 (drop a octets))
number_in octets a h all =
    let two = take 2 (drop a octets) in
    let high : get_or two 0 0 < 256 = octet_in octets a 2 0 all in
    let low : get_or two 1 0 < 256 = octet_in octets a 2 1 all in
    (omega arith, be_bytes_2 two (from_be_bytes w16 two) (range_length octets a 2 h) (λ i. octet_in octets a 2 i all) refl)

-- zeros in the fields of the interface, where the octets are those of a default element
zeros_of : (default : Bool) (xs : List ℕ) → (not default || list_all (λ b. b == 0) xs) ≡ true → default ≡ true → list_all (λ b. b == 0) xs ≡ true
zeros_of true xs e d = e
zeros_of false xs e d = cc

at_most_8 : (n : ℕ) → nat_le n 8 ≡ true → n ≤ 8
at_most_8 n e = grind arith

module _ (octets : List ℕ) (all : All (λ b. b < 2 ^ 8) octets) (whole : IsWhole octets) where
  long : 23 + name_length octets ≤ length octets
  long = whole.long

  priority_is : nat_le (slice_index octets 0) 8 ≡ true
  priority_is = let h = long in let first : take 1 octets ≡ slice_index octets 0 ∷ [] = first_octet octets (omega arith) in
      rw (ap (λ (xs : List ℕ). slice_index xs 0) first) at whole.priority

  no_interface_is : slice_index octets 0 ≡ 8 → interface_in octets ≡ no_interface
  no_interface_is e =
      let h = long in
      let d : is_default octets ≡ true = grind (arith, e) in
      let uuid = zeros_are 16 (take 16 (drop 1 octets)) (range_length octets 1 16 (omega arith))
      (zeros_of (is_default octets) (slice_range octets 1 17) whole.uuid d) in
      let major = zeros_are 2 (take 2 (drop 17 octets)) (range_length octets 17 2 (omega arith))
      (zeros_of (is_default octets) (slice_range octets 17 19) whole.major d) in
      let minor = zeros_are 2 (take 2 (drop 19 octets)) (range_length octets 19 2 (omega arith))
      (zeros_of (is_default octets) (slice_range octets 19 21) whole.minor d) in
      λ i. record { uuid = uuid i; major = from_be_bytes w16 (major i); minor = from_be_bytes w16 (minor i) }

  rest_is : slice_range octets (23 + name_length octets) (length octets) ≡ drop (23 + name_length octets) octets
  rest_is = take_rest octets (23 + name_length octets)

  said_lawful : IsElement (element_of_octets octets)
  said_lawful =
      let h = long in
      record {
        priority = at_most_8 (slice_index octets 0) priority_is;
        interface = record {
          uuid = range_length octets 1 16 (omega arith);
          major = (number_in octets 17 (omega arith) all).0;
          minor = (number_in octets 19 (omega arith) all).0;
        };
        default = no_interface_is;
        member = (spelling-components (member_octets octets) whole.member).0;
        annotation = AllPass-from_list_all is_annotation_octet _ (subst (λ (xs : List ℕ). list_all is_annotation_octet xs ≡ true) rest_is whole.annotation);
      }

  member_is : take (name_length octets) (drop 23 octets) ≡ member_octets octets
  member_is = let n : 23 + name_length octets - 23 ≡ name_length octets = omega arith in ap (λ (k : ℕ). take k (drop 23 octets)) (sym n)

  name_is : full_name_octets (components_of (member_octets octets)) ≡ take (name_length octets) (drop 23 octets)
  name_is = sym (spelling-components (member_octets octets) whole.member).1 ∙ sym member_is

  name_length_is : to_be_bytes w16 (length (full_name_octets (components_of (member_octets octets)))) ≡ take 2 (drop 21 octets)
  name_length_is =
      let h = long in
      ap (λ (xs : List ℕ). to_be_bytes w16 (length xs)) name_is
      ∙ ap (to_be_bytes w16) (range_length octets 23 (name_length octets) h)
      ∙ (number_in octets 21 (omega arith) all).1

  said_spelled : octets ≡ element_octets (element_of_octets octets)
  said_spelled =
      let h = long in
      let n = name_length octets in
      let first : octets ≡ slice_index octets 0 ∷ drop 1 octets = cut octets 0 1
      ∙ ap (λ (xs : List ℕ). xs ++ drop 1 octets) (first_octet octets (omega arith)) in
      let e6 : drop (23 + n) octets ≡ drop (23 + n) octets ++ [] = sym (append-nil _) in
      let e5 : drop 23 octets ≡ full_name_octets (components_of (member_octets octets)) ++ (drop (23 + n) octets ++ []) =
      cut octets 23 n ∙ (λ i. sym name_is i ++ e6 i) in
      let e4 : drop 21 octets ≡ to_be_bytes w16 (length (full_name_octets (components_of (member_octets octets)))) ++
      (full_name_octets (components_of (member_octets octets)) ++ (drop (23 + n) octets ++ [])) =
      cut octets 21 2 ∙ (λ i. sym name_length_is i ++ e5 i) in
      let e3 = cut octets 19 2 ∙ (λ i. sym (number_in octets 19 (omega arith) all).1 i ++ e4 i) in
      let e2 = cut octets 17 2 ∙ (λ i. sym (number_in octets 17 (omega arith) all).1 i ++ e3 i) in
      let e1 = cut octets 1 16 ∙ ap (λ (xs : List ℕ). take 16 (drop 1 octets) ++ xs) e2 in
      first ∙ ap (λ (xs : List ℕ). slice_index octets 0 ∷ xs) e1

-- octets without a fault are those of the element that they say
pub said_element : (octets : List ℕ) → All (λ b. b < 2 ^ 8) octets → element_fault octets ≡ None → IsElementOf octets (element_of_octets octets)
said_element octets all e = let whole = whole_from octets e in record { lawful = said_lawful octets all whole; spelled = said_spelled octets all whole }

-- what a check found
pub fault_found : (octets : List ℕ) (result : Result (Unit {0}) ProfileFault) → result ≡ ok_unless (element_fault octets) tt
    → MatchResult result (λ _. element_fault octets ≡ None) (λ fault. element_fault octets ≡ Some fault)
fault_found octets result is = by_fault (element_fault octets) result is
  where
    by_fault : (fault : Option ProfileFault) (result : Result (Unit {0}) ProfileFault) → result ≡ ok_unless fault tt
        → MatchResult result (λ _. fault ≡ None) (λ f. fault ≡ Some f)
    by_fault None (Ok u) is = refl
    by_fault None (Err f) is = cc
    by_fault (Some fault) (Ok u) is = cc
    by_fault (Some fault) (Err f) is = cc

-- the element of octets without a fault
pub element_there : (octets : List ℕ) → element_fault octets ≡ None → element_of octets ≡ Some (element_of_octets octets)
element_there octets e = ap (λ (f : Option ProfileFault). if is_none f then Some (element_of_octets octets) else None) e

-- octets in which no fault was found are read as what they say
pub known_found : (octets : List ℕ) (result : Result (Unit {0}) ProfileFault) → result ≡ ok_unless (element_fault octets) tt
    → OnOk result (element_of octets ≡ Some (element_of_octets octets))
known_found octets (Ok u) is = element_there octets (fault_found octets (Ok u) is)
known_found octets (Err f) is = tt

-- and what they say is an element of which they are the octets
pub said_found : (octets : List ℕ) → ((i : ℕ) → Fits w8 (get_or octets i 0)) → (result : Result (Unit {0}) ProfileFault)
    → result ≡ ok_unless (element_fault octets) tt → OnOk result (IsElementOf octets (element_of_octets octets))
said_found octets fits result is = by_fault (element_fault octets) refl result is
  where
    by_fault : (fault : Option ProfileFault) → element_fault octets ≡ fault → (result : Result (Unit {0}) ProfileFault) → result ≡ ok_unless fault tt
        → OnOk result (IsElementOf octets (element_of_octets octets))
    by_fault None e (Ok u) is = said_element octets (All-from_get_or (λ b. b < 2 ^ 8) octets 0 (λ i h. omega (arith, fits i))) e
    by_fault None e (Err f) is = cc
    by_fault (Some fault) e (Ok u) is = cc
    by_fault (Some fault) e (Err f) is = tt

-- the priority of octets without a fault
pub priority_within : (octets : List ℕ) → element_fault octets ≡ None → slice_index octets 0 ≤ 8
priority_within octets e =
    let whole = whole_from octets e in
    let long = whole.long in
    let first : take 1 octets ≡ slice_index octets 0 ∷ [] = first_octet octets (omega arith) in
    at_most_8 (slice_index octets 0) (ap (λ (xs : List ℕ). nat_le (slice_index xs 0) 8) (sym first) ∙ whole.priority)
