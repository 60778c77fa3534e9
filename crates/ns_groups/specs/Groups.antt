-- Groups: entries whose values of one attribute spell the full names of their members (own, after
-- C706, group attributes).
use Rattle.std.specs.Prelude.{◌↔◌, ℕ, Bool, List, [], ◌∷◌, ◌++◌, map, filter, Option, Some, None, codes, if◌then◌else◌}
use Rattle.std.specs.List.{All, Contains, list_any}
use Rattle.std.specs.List.Sorted.{IsStrictlySortedBy}
use Rattle.cds_stamps.specs.Octets.{octets_cmp, is_octets}
use Rattle.cds_stamps.specs.Ascending.{in_ascending_order}
use Rattle.cell_names.specs.FullNames.{full_name_octets, components_of, is_full_name, IsComponentList}
use Rattle.directory.specs.Updates.{Change, Add, Remove}
use Rattle.directory.specs.EntryChanges.{creation}
use Rattle.ns_groups.specs.declared.member.GroupFault.{GroupFault}
use Rattle.ns_groups.specs.declared.member.GroupFault.TheVariants.{BadMemberValue, NoSuchMember}

-- the attribute with the members of a group (C706, group attributes)
abbrev pub group : List ℕ
group = codes "RPC_Group"

-- octets that are no full name spell no member (own)
abbrev pub member_fault : List ℕ → Option GroupFault
member_fault octets = if is_full_name octets then None else Some BadMemberValue

-- the members of a group with these values: those that are full names, each once, in ascending
-- order of their octets (own)
abbrev pub members_of : List (List ℕ) → List (List (List ℕ))
members_of values = map components_of (in_ascending_order (filter is_full_name values))

-- these names are the members of a group with these values: they ascend by their octets, so that
-- none is there twice, and they are the full names whose octets are a value (own)
pub record IsMembers (values : List (List ℕ)) (names : List (List (List ℕ))) : Type 0 where
  pub lawful : All IsComponentList names
  pub rising : IsStrictlySortedBy octets_cmp (map full_name_octets names)
  pub exactly : (member : List (List ℕ)) → IsComponentList member → Contains names member ↔ Contains values (full_name_octets member)

-- a member whose octets are no value can't be deleted (own)
abbrev pub delete_fault : (values : List (List ℕ)) → (member : List (List ℕ)) → Option GroupFault
delete_fault values member = if list_any (is_octets (full_name_octets member)) values then None else Some NoSuchMember

-- to add a member to the entry n: the entry is created if it is absent, and then the member's
-- octets become a value (own)
abbrev pub member_addition : (n : List ℕ) → (absent : Bool) → (member : List (List ℕ)) → List Change
member_addition n absent member = creation n absent ++ Add n group (full_name_octets member) ∷ []

-- to delete a member of the entry n: the member's octets are no value any more (own)
abbrev pub member_deletion : (n : List ℕ) → (member : List (List ℕ)) → List Change
member_deletion n member = Remove n group (full_name_octets member) ∷ []
