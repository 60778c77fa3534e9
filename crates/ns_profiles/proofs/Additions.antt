-- Elements that may be added are lawful, and short enough for a value.
use Rattle.std.proofs.Common.{◌≡◌, ℕ, ◌+◌, ◌≤◌, ◌<◌, Bool, true, false, List, [], ◌++◌, length, Option, Some, None, refl, ap, ◌∙◌, arith, length-append}
use Rattle.std.specs.Prelude.{IsTrue, not, nat_lt, ◌==◌, ◌||◌}
use Rattle.std.specs.Int.{to_be_bytes, w16}
use Rattle.std.specs.List.{All}
use Rattle.cds_stamps.proofs.NameLaws.{no_fault}
use Rattle.attr_sets.specs.Values.{value_fault}
use Rattle.tower_codec.specs.declared.rpc.Interface.{Interface}
use Rattle.tower_codec.specs.Rpc.{IsInterface}
use Rattle.cell_names.specs.FullNames.{full_name_octets, IsComponentList}
use Rattle.ns_profiles.specs.declared.element.Element.{Element}
use Rattle.ns_profiles.specs.Elements.{no_interface, element_octets, element_of, is_annotation_octet}
use Rattle.ns_profiles.specs.Profiles.{is_priority, written_interface, new_element, add_fault, most_text}
use Rattle.ns_profiles.proofs.ReadBack.{written_read}

holds : (t : Bool) → not t ≡ false → t ≡ true
holds true e = refl
holds false e = cc

-- what an element without a fault keeps
pub record MayBeAdded (interface : Option Interface) (member : List (List ℕ)) (priority : ℕ) (annotation : List ℕ) : Type 0 where
  pub priority_kept : is_priority interface priority ≡ true
  pub short : length (full_name_octets member) + length annotation ≤ 1001

pub may_be_added : (interface : Option Interface) (member : List (List ℕ)) (priority : ℕ) (annotation : List ℕ)
    → add_fault interface member priority annotation ≡ None → MayBeAdded interface member priority annotation
may_be_added interface member priority annotation e =
    let first = no_fault (not (is_priority interface priority)) _ _ e in
    let second = no_fault (nat_lt most_text (length (full_name_octets member) + length annotation)) _ _ first.1 in
    record { priority_kept = holds _ first.0; short = grind (arith, second.0) }

within_8 : (interface : Option Interface) (priority : ℕ) → is_priority interface priority ≡ true → priority ≤ 8
within_8 None priority e = grind (arith, e)
within_8 (Some interface) priority e = grind (arith, e)

nil_where_default : (interface : Option Interface) (priority : ℕ) → is_priority interface priority ≡ true → priority ≡ 8 → written_interface interface ≡ no_interface
nil_where_default None priority e is = refl
nil_where_default (Some interface) priority e is = let below : priority < 8 = grind (arith, e) in absurd (omega arith)

-- what is added is read again
pub added_read : (interface : Option Interface) (member : List (List ℕ)) (priority : ℕ) (annotation : List ℕ)
    → add_fault interface member priority annotation ≡ None
    → IsInterface (written_interface interface) → IsComponentList member → All (λ b. IsTrue (is_annotation_octet b)) annotation
    → element_of (element_octets (new_element interface member priority annotation)) ≡ Some (new_element interface member priority annotation)
added_read interface member priority annotation e fits named printable =
    let kept = may_be_added interface member priority annotation e in
    written_read (new_element interface member priority annotation) (record {
      priority = within_8 interface priority kept.priority_kept;
      interface = fits;
      default = nil_where_default interface priority kept.priority_kept;
      member = named;
      annotation = printable;
    })

-- how many octets an element has
pub element_length : (e : Element) → length e.interface.uuid ≡ 16 → length (element_octets e) ≡ 23 + length (full_name_octets e.member) + length e.annotation
element_length e uuid =
    let r5 : List ℕ = e.annotation ++ [] in
    let r4 : List ℕ = full_name_octets e.member ++ r5 in
    let r3 : List ℕ = to_be_bytes w16 (length (full_name_octets e.member)) ++ r4 in
    let r2 : List ℕ = to_be_bytes w16 e.interface.minor ++ r3 in
    let r1 : List ℕ = to_be_bytes w16 e.interface.major ++ r2 in
    let l1 : length (e.interface.uuid ++ r1) ≡ 16 + length r1 = length-append e.interface.uuid r1 ∙ ap (λ (n : ℕ). n + length r1) uuid in
    let l4 : length r4 ≡ length (full_name_octets e.member) + length r5 = length-append (full_name_octets e.member) r5 in
    let l5 : length r5 ≡ length e.annotation + 0 = length-append e.annotation [] in
    let l6 : length r1 ≡ 6 + length r4 = omega arith in
    omega arith

pub fits_value : (octets : List ℕ) → 0 < length octets → length octets ≤ 1024 → value_fault octets ≡ None
fits_value octets some few = let test : ((length octets == 0) || nat_lt 1024 (length octets)) ≡ false = grind arith in rw test refl
