-- Full names, and the first fault of octets that are none (own, after C705, CDS names).
use Rattle.std.specs.Prelude.{◌≡◌, ℕ, ◌+◌, ◌≤◌, Bool, ◌||◌, not, nat_lt, nat_eq, ◌==◌, List}
use Rattle.std.specs.Prelude.{[], ◌∷◌, ◌++◌, Option, Some, None, is_none, length, drop, codes, if◌then◌else◌}
use Rattle.std.specs.Option.{option_or}
use Rattle.std.specs.List.{All, flat_map, slice_split, starts_with}
use Rattle.std.specs.Cmp.Lexicographic.{pointwise}
use Rattle.cds_stamps.specs.declared.names.NameFault.{NameFault}
use Rattle.cds_stamps.specs.declared.names.NameFault.TheVariants.{Empty, NameTooLong, NotLocal}
use Rattle.cds_stamps.specs.Names.{component_fault, IsSimpleName}
use Rattle.cell_names.specs.declared.full_name.SpliceFault.{SpliceFault}
use Rattle.cell_names.specs.declared.full_name.SpliceFault.TheVariants.{NameTooLong as SplicedTooLong}

-- the octets of `/.:`, the root of the cell (C705, CDS names)
abbrev pub cell_root : List ℕ
cell_root = codes "/.:"

-- the slash before each component (C705, CDS names)
abbrev pub slash : ℕ
slash = 47

-- the components, each after its slash (C705, CDS names)
abbrev pub behind_slashes : List (List ℕ) → List ℕ
behind_slashes = flat_map (λ c. slash ∷ c)

-- the octets of the full name of these components: the root, and each component after a slash
-- (C705, CDS names)
abbrev pub full_name_octets : List (List ℕ) → List ℕ
full_name_octets components = cell_root ++ behind_slashes components

-- the most octets of a full name (own)
abbrev pub longest_name : ℕ
longest_name = 1023

-- the place of the first octet of the first component, counted from 1: after `/.:/` (own)
abbrev pub first_component : ℕ
first_component = 5

-- the octets are `/.:`, or begin with `/.:/` (own)
abbrev pub is_local : List ℕ → Bool
is_local octets = pointwise nat_eq octets cell_root || starts_with nat_eq octets (cell_root ++ slash ∷ [])

-- what is after each slash after the root (own)
abbrev pub components_of : List ℕ → List (List ℕ)
components_of octets = drop 1 (slice_split (λ b. b == slash) (drop (length cell_root) octets))

-- the first fault of components of which the first begins at this place (own)
abbrev pub components_fault : ℕ → List (List ℕ) → Option NameFault
components_fault place [] = None
components_fault place ([] ∷ cs) = Some (Empty place)
components_fault place ((b ∷ bs) ∷ cs) = option_or (component_fault place 1 (b ∷ bs)) (components_fault (place + length (b ∷ bs) + 1) cs)

-- simple names that spell a full name: not too many octets (own, after C705, CDS names)
pub record IsComponentList (components : List (List ℕ)) : Type 0 where
  pub simple : All IsSimpleName components
  pub short : length (full_name_octets components) ≤ longest_name

-- the octets are `/.:` and simple names, each after a slash, however many octets they are in all
-- (own)
pub record IsNameOfAnyLength (octets : List ℕ) : Type 0 where
  pub components : List (List ℕ)
  pub simple : All IsSimpleName components
  pub spelled : octets ≡ full_name_octets components

-- the octets are the full name of some components (own, after C705, CDS names)
pub record IsFullName (octets : List ℕ) : Type 0 where
  pub components : List (List ℕ)
  pub lawful : IsComponentList components
  pub spelled : octets ≡ full_name_octets components

-- the fault of octets that are no full name of this cell (own)
abbrev pub name_fault : List ℕ → Option NameFault
name_fault [] = Some (Empty 1)
name_fault (b ∷ bs) =
    if not (is_local (b ∷ bs)) then Some NotLocal
    else (if nat_lt longest_name (length (b ∷ bs)) then Some NameTooLong else components_fault first_component (components_of (b ∷ bs)))

-- the octets are a full name (own)
abbrev pub is_full_name : List ℕ → Bool
is_full_name octets = is_none (name_fault octets)

-- the fault of simple names that spell no full name (own)
abbrev pub splice_fault : List (List ℕ) → Option SpliceFault
splice_fault components = if nat_lt longest_name (length (full_name_octets components)) then Some SplicedTooLong else None

-- the two are the same components (own, after C705: octet by octet)
abbrev pub is_name : List (List ℕ) → List (List ℕ) → Bool
is_name = pointwise (pointwise nat_eq)
