-- What inquiries list of the values of an entry (after C706, inquiry of name service entries).
use Rattle.std.specs.Prelude.{ℕ, Bool, true, not, ◌&&◌, ◌||◌, ◌==◌, nat_le, nat_lt, List, [], ◌∷◌, ◌++◌, filter, Option, Some, None, if◌then◌else◌}
use Rattle.std.specs.List.{filter_map, flat_map}
use Rattle.std.specs.Option.{option_map, option_and_then}
use Rattle.std.specs.Str.{bytes_eq}
use Rattle.cds_stamps.specs.Ascending.{in_ascending_order}
use Rattle.cds_stamps.specs.Firsts.{firsts}
use Rattle.tower_codec.specs.declared.rpc.Interface.{Interface}
use Rattle.tower_codec.specs.Serving.{same_interface}
use Rattle.cell_names.specs.FullNames.{is_name}
use Rattle.server_entries.specs.Clients.{objects_in}
use Rattle.server_entries.specs.ServerTowers.{rpc_tower_of}
use Rattle.ns_profiles.specs.declared.element.Element.{Element}
use Rattle.ns_profiles.specs.Elements.{default_priority, element_of}
use Rattle.ns_profiles.specs.Profiles.{elements_in, of_priority, priorities}
use Rattle.ns_inquire.specs.declared.inquiry.Inquiry.{Inquiry}
use Rattle.ns_inquire.specs.declared.inquiry.Inquiry.TheVariants as inquiry
use Rattle.ns_inquire.specs.declared.version.Version.{Version}
use Rattle.ns_inquire.specs.declared.version.Version.TheVariants as version

-- ---- versions

-- the version of an interface that is offered is one that is meant, where this one is asked for
-- (C706, versions of an inquiry)
abbrev pub by_version : Version → (asked offered : Interface) → Bool
by_version version.All asked offered = true
by_version version.Compatible asked offered = (offered.major == asked.major) && nat_le asked.minor offered.minor
by_version version.Exact asked offered = (offered.major == asked.major) && (offered.minor == asked.minor)
by_version version.MajorOnly asked offered = offered.major == asked.major
by_version version.Upto asked offered =
    nat_lt offered.major asked.major || ((offered.major == asked.major) && nat_le offered.minor asked.minor)

-- the interface is the one that is asked for, in a version that is meant
abbrev pub is_version : Version → (asked offered : Interface) → Bool
is_version v asked offered = bytes_eq offered.uuid asked.uuid && by_version v asked offered

-- ---- profiles

-- a default element, which is for no interface
abbrev pub is_default : Element → Bool
is_default e = e.priority == default_priority

-- an element for an interface, in a version that is meant
abbrev pub is_offered : Interface → Version → Element → Bool
is_offered asked v e = not (is_default e) && is_version v asked e.interface

-- the inquiry asks for the element (C706, inquiry of profile elements)
abbrev pub is_picked : Inquiry → Element → Bool
is_picked inquiry.AllElements e = true
is_picked inquiry.Default e = is_default e
is_picked (inquiry.ByInterface asked v) e = is_offered asked v e
is_picked (inquiry.ByMember member) e = is_name e.member member
is_picked (inquiry.ByBoth asked v member) e = is_offered asked v e && is_name e.member member

-- the element that a value is, if the inquiry asks for it
abbrev pub picked_in : Inquiry → List ℕ → Option Element
picked_in asked octets = option_and_then (λ e. if is_picked asked e then Some e else None) (element_of octets)

-- the elements among values that an inquiry asks for, by priority and then by their octets, default
-- elements last
abbrev pub elements_of : Inquiry → List (List ℕ) → List Element
elements_of asked values =
    flat_map (λ p. of_priority p (filter (is_picked asked) (elements_in values))) (priorities ++ default_priority ∷ [])

-- ---- servers

-- the interface of a value that is the tower of an RPC server
abbrev pub interface_in : List ℕ → Option Interface
interface_in octets = option_map (λ tower. tower.interface) (rpc_tower_of octets)

-- the interfaces of the towers of servers, each where it is first in ascending order of the towers'
-- octets
abbrev pub interfaces_of : List (List ℕ) → List Interface
interfaces_of towers = firsts same_interface [] (filter_map interface_in (in_ascending_order towers))

-- the objects among values, ascending
abbrev pub objects_of : List (List ℕ) → List (List ℕ)
objects_of values = in_ascending_order (objects_in values)
