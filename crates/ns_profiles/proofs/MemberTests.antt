-- The octets of an element's member are those of a name exactly where it is the member.
use Rattle.std.proofs.Common.{◌≡◌, ℕ, Bool, true, false, List, None, refl, sym, ap, ◌∙◌}
use Rattle.cds_stamps.specs.Keyed.{ties_are_equal}
use Rattle.cds_stamps.specs.Octets.{octets_exact, is_octets}
use Rattle.cell_names.specs.FullNames.{full_name_octets, components_of, is_name, name_fault, IsComponentList}
use Rattle.cell_names.proofs.FullNameLaws.{spelling-components, components_of-spelling, is_name-Decides}
use Rattle.ns_profiles.specs.Elements.{element_fault, member_octets, element_of_octets}
use Rattle.ns_profiles.proofs.ElementLaws.{whole_from}
use Rattle.cell_names.proofs.SpelledWalks.{same_octets}

names_alike : (octets : List ℕ) (name : List (List ℕ)) → name_fault octets ≡ None → IsComponentList name
    → is_octets (full_name_octets name) octets ≡ is_name (components_of octets) name
names_alike octets name readable lawful = by_octets (is_octets (full_name_octets name) octets) refl (is_name (components_of octets) name) refl
  where
    spelled : octets ≡ full_name_octets (components_of octets)
    spelled = (spelling-components octets readable).1

    by_octets : (s : Bool) → is_octets (full_name_octets name) octets ≡ s → (t : Bool) → is_name (components_of octets) name ≡ t → s ≡ t
    by_octets true e true f = refl
    by_octets true e false f =
        let is : components_of octets ≡ name = ap components_of (sym (ties_are_equal octets_exact (full_name_octets name) octets e)) ∙ components_of-spelling name lawful in
        sym ((is_name-Decides (components_of octets) name).1 is) ∙ f
    by_octets false e true f =
        let is : components_of octets ≡ name = (is_name-Decides (components_of octets) name).0 f in
        let at : octets ≡ full_name_octets name = spelled ∙ ap full_name_octets is in
        sym e ∙ ap (is_octets (full_name_octets name)) at ∙ same_octets (full_name_octets name)
    by_octets false e false f = refl

-- the octets of the member spell a name exactly where it is the member
pub member_test : (octets : List ℕ) (name : List (List ℕ)) → element_fault octets ≡ None → IsComponentList name
    → is_octets (full_name_octets name) (member_octets octets) ≡ is_name (element_of_octets octets).member name
member_test octets name whole lawful = names_alike (member_octets octets) name (whole_from octets whole).member lawful
