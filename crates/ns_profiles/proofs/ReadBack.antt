-- What an element is written as is read as this element.
use Rattle.std.proofs.Common.{◌≡◌, ◌↔◌, ℕ, ◌+◌, ◌-◌, ◌≤◌, ◌<◌, ◌^◌, Bool, true, false, List, [], ◌∷◌, ◌++◌, length, take, drop, Option, Some, None}
use Rattle.std.proofs.Common.{refl, sym, ap, subst, ◌∙◌, arith, length-append, length-drop}
use Rattle.std.specs.Prelude.{is_none, not, nat_le, ◌==◌, ◌||◌, if◌then◌else◌}
use Rattle.std.specs.Int.{to_be_bytes, from_be_bytes, w16}
use Rattle.std.specs.List.{All, list_all, slice_range}
use Rattle.std.proofs.lemmas.Nat.{from_be_bytes-to_be_bytes_2}
use Rattle.std.proofs.lemmas.List.{drop-drop, take_at, drop_at, take_rest, append-nil}
use Rattle.std.proofs.lemmas.List.Sums.{list_all-from_AllPass}
use Rattle.tower_codec.specs.declared.rpc.Interface.{Interface}
use Rattle.cell_names.specs.FullNames.{full_name_octets, components_of, is_full_name}
use Rattle.cell_names.proofs.FullNameLaws.{components_of-spelling, name_fault-spelling}
use Rattle.ns_profiles.specs.declared.element.Element.{Element}
use Rattle.ns_profiles.specs.declared.fault.ProfileFault.{ProfileFault}
use Rattle.ns_profiles.specs.Elements.{Field, field_fault, first_fault, priority_field, interface_field, length_field, member_field, annotation_field}
use Rattle.ns_profiles.specs.Elements.{is_default, name_length, element_fault, element_octets, element_of_octets, element_of, is_annotation_octet, no_interface}
use Rattle.ns_profiles.specs.Elements.{IsElement, IsElementOf}
use Rattle.ns_profiles.proofs.ElementLaws.{after_field, kept_field, said_element, element_there}

-- the field that is after so many octets, and what is after it
record Stands (x part rest : List ℕ) (a n : ℕ) : Type 0 where
  here : take n (drop a x) ≡ part
  behind : drop (a + n) x ≡ rest
  whole : a + n ≤ length x

stands : (x part rest : List ℕ) (a n : ℕ) → a ≤ length x → drop a x ≡ part ++ rest → length part ≡ n → Stands x part rest a n
stands x part rest a n inside e len = record {
  here = ap (take n) e ∙ take_at part rest n len;
  behind = sym (drop-drop n a x) ∙ ap (drop n) e ∙ drop_at part rest n len;
  whole = omega (arith, length-drop a x, ap length e, length-append part rest);
}

-- zeros are kept in the fields of an interface, where they are those of a default element
zeros_kept : (priority : ℕ) (xs : List ℕ) → (priority ≡ 8 → list_all (λ b. b == 0) xs ≡ true) → (not (priority == 8) || list_all (λ b. b == 0) xs) ≡ true
zeros_kept priority xs zeros = by_test (priority == 8) refl
  where
    by_test : (t : Bool) → (priority == 8) ≡ t → (not t || list_all (λ b. b == 0) xs) ≡ true
    by_test true e = let is : priority ≡ 8 = grind (arith, e) in zeros is
    by_test false e = refl

below_8 : (priority : ℕ) → priority ≤ 8 → nat_le priority 8 ≡ true
below_8 priority h = grind arith

-- the number of two octets is read again
number_again : (n : ℕ) → n < 2 ^ 16 → from_be_bytes w16 (to_be_bytes w16 n) ≡ n
number_again n h = from_be_bytes-to_be_bytes_2 n h

two_octets : (n : ℕ) → length (to_be_bytes w16 n) ≡ 2
two_octets n = refl

module _ (e : Element) (lawful : IsElement e) where
  abbrev x : List ℕ
  x = element_octets e

  abbrev name : List ℕ
  name = full_name_octets e.member

  short : length name ≤ 1023
  short = lawful.member.short

  -- what is after the UUID, the versions, the length and the name
  abbrev r5 : List ℕ
  r5 = e.annotation ++ []

  abbrev r4 : List ℕ
  r4 = name ++ r5

  abbrev r3 : List ℕ
  r3 = to_be_bytes w16 (length name) ++ r4

  abbrev r2 : List ℕ
  r2 = to_be_bytes w16 e.interface.minor ++ r3

  abbrev r1 : List ℕ
  r1 = to_be_bytes w16 e.interface.major ++ r2

  some : 1 ≤ length x
  some = omega arith

  uuid_stands : Stands x e.interface.uuid r1 1 16
  uuid_stands = stands x e.interface.uuid r1 1 16 some refl lawful.interface.uuid

  major_stands : Stands x (to_be_bytes w16 e.interface.major) r2 17 2
  major_stands = stands x (to_be_bytes w16 e.interface.major) r2 17 2 uuid_stands.whole uuid_stands.behind (two_octets e.interface.major)

  minor_stands : Stands x (to_be_bytes w16 e.interface.minor) r3 19 2
  minor_stands = stands x (to_be_bytes w16 e.interface.minor) r3 19 2 major_stands.whole major_stands.behind (two_octets e.interface.minor)

  length_stands : Stands x (to_be_bytes w16 (length name)) r4 21 2
  length_stands = stands x (to_be_bytes w16 (length name)) r4 21 2 minor_stands.whole minor_stands.behind (two_octets (length name))

  name_stands : Stands x name r5 23 (length name)
  name_stands = stands x name r5 23 (length name) length_stands.whole length_stands.behind refl

  name_length_again : name_length x ≡ length name
  name_length_again = let h = short in ap (from_be_bytes w16) length_stands.here ∙ number_again (length name) (omega arith)

  annotation_again : drop (23 + length name) x ≡ e.annotation
  annotation_again = name_stands.behind ∙ append-nil e.annotation

  nil_interface : e.priority ≡ 8 → e.interface ≡ no_interface
  nil_interface is = lawful.default is

  uuid_kept : field_fault x (interface_field (is_default x) 1 16) ≡ None
  uuid_kept =
      kept_field x (interface_field (is_default x) 1 16) uuid_stands.whole
      (zeros_kept e.priority (take 16 (drop 1 x)) (λ is. ap (list_all (λ b. b == 0)) (uuid_stands.here ∙ ap (λ (i : Interface). i.uuid) (nil_interface is))))

  major_kept : field_fault x (interface_field (is_default x) 17 2) ≡ None
  major_kept =
      kept_field x (interface_field (is_default x) 17 2) major_stands.whole
      (zeros_kept e.priority (take 2 (drop 17 x))
      (λ is. ap (list_all (λ b. b == 0)) (major_stands.here ∙ ap (λ (i : Interface). to_be_bytes w16 i.major) (nil_interface is))))

  minor_kept : field_fault x (interface_field (is_default x) 19 2) ≡ None
  minor_kept =
      kept_field x (interface_field (is_default x) 19 2) minor_stands.whole
      (zeros_kept e.priority (take 2 (drop 19 x))
      (λ is. ap (list_all (λ b. b == 0)) (minor_stands.here ∙ ap (λ (i : Interface). to_be_bytes w16 i.minor) (nil_interface is))))

  name_range : slice_range x 23 (23 + length name) ≡ name
  name_range = let n : 23 + length name - 23 ≡ length name = omega arith in ap (λ (k : ℕ). take k (drop 23 x)) n ∙ name_stands.here

  name_kept : field_fault x (member_field (length name)) ≡ None
  name_kept = kept_field x (member_field (length name)) name_stands.whole (ap is_full_name name_range ∙ ap is_none (name_fault-spelling e.member lawful.member))

  annotation_kept : field_fault x (annotation_field (length name) (length x)) ≡ None
  annotation_kept =
      let whole = name_stands.whole in
      let to : 23 + length name + (length x - (23 + length name)) ≡ length x = omega arith in
      let all : list_all is_annotation_octet e.annotation ≡ true = list_all-from_AllPass is_annotation_octet e.annotation lawful.annotation in
      kept_field x (annotation_field (length name) (length x)) (omega arith)
      (ap (λ (k : ℕ). list_all is_annotation_octet (slice_range x (23 + length name) k)) to
      ∙ ap (list_all is_annotation_octet) (take_rest x (23 + length name) ∙ annotation_again) ∙ all)

  -- the fields after the length, the minor version, the major version, the UUID and the priority
  abbrev f6 : List Field
  f6 = member_field (name_length x) ∷ annotation_field (name_length x) (length x) ∷ []

  abbrev f5 : List Field
  f5 = length_field ∷ f6

  abbrev f4 : List Field
  f4 = interface_field (is_default x) 19 2 ∷ f5

  abbrev f3 : List Field
  f3 = interface_field (is_default x) 17 2 ∷ f4

  abbrev f2 : List Field
  f2 = interface_field (is_default x) 1 16 ∷ f3

  texts_kept : first_fault x f6 ≡ None
  texts_kept =
      ap (λ (n : ℕ). first_fault x (member_field n ∷ annotation_field n (length x) ∷ [])) name_length_again
      ∙ after_field x (member_field (length name)) (annotation_field (length name) (length x) ∷ []) name_kept
      ∙ after_field x (annotation_field (length name) (length x)) [] annotation_kept

  written_whole : element_fault x ≡ None
  unfolding element_fault
  written_whole =
      after_field x priority_field f2 (kept_field x priority_field some (below_8 e.priority lawful.priority))
      ∙ after_field x (interface_field (is_default x) 1 16) f3 uuid_kept
      ∙ after_field x (interface_field (is_default x) 17 2) f4 major_kept
      ∙ after_field x (interface_field (is_default x) 19 2) f5 minor_kept
      ∙ after_field x length_field f6 (kept_field x length_field length_stands.whole refl)
      ∙ texts_kept

  written_said : element_of_octets x ≡ e
  written_said =
      let uuid = uuid_stands.here in
      let major = ap (from_be_bytes w16) major_stands.here ∙ number_again e.interface.major lawful.interface.major in
      let minor = ap (from_be_bytes w16) minor_stands.here ∙ number_again e.interface.minor lawful.interface.minor in
      let member = ap (λ (n : ℕ). components_of (slice_range x 23 (23 + n))) name_length_again ∙ ap components_of name_range
      ∙ components_of-spelling e.member lawful.member in
      let annotation = ap (λ (n : ℕ). drop (23 + n) x) name_length_again ∙ annotation_again in
      λ i. record {
        priority = e.priority;
        interface = record { uuid = uuid i; major = major i; minor = minor i };
        member = member i;
        annotation = annotation i;
      }

pub written_fault : (e : Element) → IsElement e → element_fault (element_octets e) ≡ None
written_fault e lawful = written_whole e lawful

-- what is written of an element is read as it
pub written_read : (e : Element) → IsElement e → element_of (element_octets e) ≡ Some e
written_read e lawful = element_there (element_octets e) (written_whole e lawful) ∙ ap Some (written_said e lawful)

-- the octets of an element are read as it
pub read_again : (octets : List ℕ) (e : Element) → IsElementOf octets e → element_of octets ≡ Some e
read_again octets e is = ap element_of is.spelled ∙ written_read e is.lawful

answered : (fault : Option ProfileFault) (x e : Element) → (if is_none fault then Some x else None) ≡ Some e → (fault ≡ None) × (x ≡ e)
answered None x e is = (refl, cc)
answered (Some fault) x e is = cc

-- what is read was written of the element
pub read_written : (octets : List ℕ) (e : Element) → All (λ b. b < 2 ^ 8) octets → element_of octets ≡ Some e → IsElementOf octets e
read_written octets e all is = let found = answered (element_fault octets) (element_of_octets octets) e is in
    subst (IsElementOf octets) found.1 (said_element octets all found.0)

-- no fault is found exactly in the octets of elements
pub element_fault-none : (octets : List ℕ) → All (λ b. b < 2 ^ 8) octets → (element_fault octets ≡ None) ↔ ((e : Element) × IsElementOf octets e)
element_fault-none octets all = (
  λ e. (element_of_octets octets, said_element octets all e),
  λ found. ap element_fault found.1.spelled ∙ written_whole found.0 found.1.lawful,
)
