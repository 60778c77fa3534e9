-- Profiles: the updates that add and delete elements, and the order in which a search takes them
-- (own, after C706, profile attributes).
use Rattle.std.specs.Prelude.{ℕ, ◌+◌, Bool, false, not, ◌&&◌, ◌||◌, nat_lt, ◌==◌, List, [], ◌∷◌, ◌++◌, map, filter, Option, Some}
use Rattle.std.specs.Prelude.{None, length, codes, if◌then◌else◌}
use Rattle.std.specs.List.{filter_map, flat_map, list_any}
use Rattle.std.specs.Option.{option_map_or}
use Rattle.cds_stamps.specs.Ascending.{in_ascending_order}
use Rattle.tower_codec.specs.declared.rpc.Interface.{Interface}
use Rattle.tower_codec.specs.Serving.{same_interface, serves}
use Rattle.cell_names.specs.FullNames.{full_name_octets, is_name}
use Rattle.directory.specs.Updates.{Change, Add, Remove}
use Rattle.directory.specs.EntryChanges.{creation}
use Rattle.ns_profiles.specs.declared.element.Element.{Element}
use Rattle.ns_profiles.specs.declared.fault.ProfileFault.{ProfileFault}
use Rattle.ns_profiles.specs.declared.fault.ProfileFault.TheVariants.{BadPriority, ElementTooLong, NoSuchElement}
use Rattle.ns_profiles.specs.Elements.{default_priority, no_interface, element_octets, element_of}

-- the attribute with the elements of a profile (C706, profile attributes)
abbrev pub profile : List ℕ
profile = codes "RPC_Profile"

-- octets are an element that passes a test (own)
abbrev pub reads_as : (Element → Bool) → List ℕ → Bool
reads_as test octets = option_map_or test (element_of octets) false

-- ---- adding

-- the most octets of a member's name and an annotation together (own)
abbrev pub most_text : ℕ
most_text = 1001

-- a default element, which has no interface, has priority 8, and any other one below it (own)
abbrev pub is_priority : Option Interface → ℕ → Bool
is_priority None priority = priority == default_priority
is_priority (Some interface) priority = nat_lt priority default_priority

-- the interface that is written, which stands for none in a default element (own)
abbrev pub written_interface : Option Interface → Interface
written_interface None = no_interface
written_interface (Some interface) = interface

-- the element to add (own)
abbrev pub new_element : Option Interface → (member : List (List ℕ)) → (priority : ℕ) → (annotation : List ℕ) → Element
new_element interface member priority annotation = record { priority = priority; interface = written_interface interface; member = member; annotation = annotation }

-- why an element is not added: its priority first, and then its length (own)
abbrev pub add_fault : Option Interface → (member : List (List ℕ)) → (priority : ℕ) → (annotation : List ℕ) → Option ProfileFault
add_fault interface member priority annotation =
    if not (is_priority interface priority) then Some BadPriority
    else (if nat_lt most_text (length (full_name_octets member) + length annotation) then Some ElementTooLong else None)

-- to add an element to the entry n: the entry is created if it is absent, and then the element
-- becomes a value (own)
abbrev pub element_addition : (n : List ℕ) → (absent : Bool) → Element → List Change
element_addition n absent element = creation n absent ++ Add n profile (element_octets element) ∷ []

-- ---- deleting

-- an element is for this interface; where there is none, it is a default element, which is for no
-- interface (own)
abbrev pub is_for : Option Interface → Element → Bool
is_for None element = element.priority == default_priority
is_for (Some interface) element = not (element.priority == default_priority) && same_interface element.interface interface

-- an element for this interface, with this member (own)
abbrev pub is_meant : Option Interface → (member : List (List ℕ)) → Element → Bool
is_meant interface member element = is_for interface element && is_name element.member member

-- octets are such an element (own)
abbrev pub is_element : Option Interface → (member : List (List ℕ)) → List ℕ → Bool
is_element interface member = reads_as (is_meant interface member)

-- why nothing is deleted: no value is such an element (own)
abbrev pub delete_fault : Option Interface → (member : List (List ℕ)) → (values : List (List ℕ)) → Option ProfileFault
delete_fault interface member values = if list_any (is_element interface member) values then None else Some NoSuchElement

-- to delete elements of the entry n: each value that is one is removed, in ascending order (own)
abbrev pub element_deletion : (n : List ℕ) → Option Interface → (member : List (List ℕ)) → (values : List (List ℕ)) → List Change
element_deletion n interface member values = map (Remove n profile) (filter (is_element interface member) (in_ascending_order values))

-- ---- searching

-- the elements among values, in ascending order of their octets; what is no element is passed over
-- (own)
abbrev pub elements_in : List (List ℕ) → List Element
elements_in values = filter_map element_of (in_ascending_order values)

-- an element that a search takes: a default element, or one that serves the interface (own)
abbrev pub is_taken : (wanted : Interface) → Element → Bool
is_taken wanted element = element.priority == default_priority || serves element.interface wanted

-- octets are such an element (own)
abbrev pub is_sought : (wanted : Interface) → List ℕ → Bool
is_sought wanted = reads_as (is_taken wanted)

-- the elements of one priority (own)
abbrev pub of_priority : ℕ → List Element → List Element
of_priority priority = filter (λ e. e.priority == priority)

-- the priorities of elements that are no default elements, in the order of a search (own)
abbrev pub priorities : List ℕ
priorities = 0 ∷ 1 ∷ 2 ∷ 3 ∷ 4 ∷ 5 ∷ 6 ∷ 7 ∷ []

-- the members at which a search for an interface goes on: those of the elements that serve it, by
-- priority, and then those of the default elements (own, after C706, search of profiles)
abbrev pub search_order : (wanted : Interface) → (values : List (List ℕ)) → List (List (List ℕ))
search_order wanted values =
    let serving = filter (λ e. serves e.interface wanted) (elements_in values) in
    map (λ e. e.member) (flat_map (λ p. of_priority p serving) priorities ++ of_priority default_priority (elements_in values))
