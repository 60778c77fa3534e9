-- How many octets components spell, and lists of components.
use Rattle.std.proofs.Common.{◌≡◌, ℕ, ◌+◌, ◌≤◌, ◌<◌, List, [], ◌∷◌, ◌++◌, length, get_or, drop, take, None, sym, ap, subst, ◌∙◌, arith, length-append}
use Rattle.std.specs.List.{All}
use Rattle.std.proofs.lemmas.List.{at_drop_more, take_more}
use Rattle.std.proofs.lemmas.List.Elements.{All-append, All-nil, All-cons}
use Rattle.std.proofs.lemmas.Grind.{flat_map-append}
use Rattle.cds_stamps.specs.Names.{simple_name_fault, IsSimpleName}
use Rattle.cds_stamps.proofs.NameLaws.{simple_name_laws}
use Rattle.cell_names.specs.FullNames.{slash, behind_slashes, full_name_octets, components_of, name_fault, longest_name, IsComponentList}
use Rattle.cell_names.proofs.FullNameLaws.{spelling-components}

-- a component and its slash, in front of the others
spelled_first : (c : List ℕ) (cs : List (List ℕ)) → length (behind_slashes (c ∷ cs)) ≡ length c + 1 + length (behind_slashes cs)
spelled_first c cs = omega (arith, length-append c (behind_slashes cs))

-- the component at a place, and those after it
pub spelled_more : (cs : List (List ℕ)) (i : ℕ) (c : List ℕ) → i < length cs → c ≡ get_or cs i c
    → length (behind_slashes (drop i cs)) ≡ length c + 1 + length (behind_slashes (drop (i + 1) cs))
spelled_more cs i c h e =
    at_drop_more (λ cs. length (behind_slashes cs)) cs i c h ∙ ap (λ (c : List ℕ). length (behind_slashes (c ∷ drop (i + 1) cs))) (sym e)
    ∙ spelled_first c (drop (i + 1) cs)

-- components after others
spelled_append : (cs ds : List (List ℕ)) → length (behind_slashes (cs ++ ds)) ≡ length (behind_slashes cs) + length (behind_slashes ds)
spelled_append cs ds = ap length (flat_map-append (λ (c : List ℕ). slash ∷ c) cs ds) ∙ length-append (behind_slashes cs) (behind_slashes ds)

-- one simple name more at the end
pub simple_more : (cs : List (List ℕ)) (i : ℕ) (c : List ℕ) → i < length cs → c ≡ get_or cs i c → simple_name_fault c ≡ None
    → All IsSimpleName (take i cs) → All IsSimpleName (take (i + 1) cs)
simple_more cs i c h e name all =
    let last : IsSimpleName (get_or cs i c) = subst IsSimpleName e ((simple_name_laws c).0 name) in
    subst (All IsSimpleName) (sym (take_more cs i c h)) (All-append IsSimpleName (take i cs) (get_or cs i c ∷ []) all (All-cons IsSimpleName
    (get_or cs i c) [] last (All-nil IsSimpleName)))

-- a component of a full name is a simple name
pub component_simple : (octets : List ℕ) → name_fault octets ≡ None → (n : ℕ) (c : List ℕ) → n < length (components_of octets)
    → c ≡ get_or (components_of octets) n c → simple_name_fault c ≡ None
component_simple octets e n c h at =
    subst (λ (c : List ℕ). simple_name_fault c ≡ None) (sym at) ((simple_name_laws _).1 ((spelling-components octets e).0.simple n c h))

-- simple names after the components of a full name, where there is room
pub spliced : (cs ds : List (List ℕ)) → IsComponentList cs → All IsSimpleName ds → length (full_name_octets cs) + length (behind_slashes ds) ≤ longest_name
    → IsComponentList (cs ++ ds)
spliced cs ds lawful simple room = record {
  simple = All-append IsSimpleName cs ds lawful.simple simple;
  short = omega (arith, room, spelled_append cs ds);
}
