-- Words of private contracts alone: what an importer still gives, by how far its search has come.
-- Own.
use Rattle.std.specs.Prelude.{ℕ, List, ◌++◌, length, reverse, Option}
use Rattle.std.specs.Option.{option_map}
use Rattle.tower_codec.specs.declared.rpc.Interface.{Interface}
use Rattle.server_entries.specs.Clients.{entry_bindings}
use Rattle.server_entries.specs.Exports.{tower_attribute, object_attribute}
use Rattle.ns_groups.specs.Groups.{group, members_of}
use Rattle.ns_profiles.specs.Profiles.{profile, search_order}
use Rattle.std.specs.List.{filter_map, flat_map}
use Rattle.tower_codec.specs.declared.binding.StringBinding.{StringBinding}
use Rattle.resolver.specs.declared.seen.Found.{Found}
use Rattle.resolver.specs.declared.seen.LentEntry.{LentEntry}
use Rattle.resolver.specs.Readers.{Reader}
use Rattle.server_entries.specs.declared.client.Wanted.{Wanted}
use Rattle.ns_import.specs.declared.progress.Progress.{Progress}
use Rattle.ns_import.specs.DepthFirst.{depth_first}
use Rattle.ns_import.specs.Imports.{same_entry, object_of, edges, bindings_at}

-- the names at which a search goes on from an entry with these values of its attributes
abbrev pub names_in : (List ℕ → List (List ℕ)) → Interface → List (List (List ℕ))
names_in values wanted = members_of (values group) ++ search_order wanted (values profile)

-- the bindings that an entry with these values has for a client
abbrev pub bindings_in : (List ℕ → List (List ℕ)) → Wanted → List StringBinding
bindings_in values wanted = entry_bindings wanted (values tower_attribute) (values object_attribute)

-- the objects that names lead to, in the order of the names
abbrev pub objects_of_names : Reader → List (List (List ℕ)) → List Found
objects_of_names reader names = filter_map (object_of reader) names

-- the entry that comes next, whatever is lent of it
abbrev pub next_at : Option LentEntry → Option Found
next_at next = option_map (λ entry. entry.at) next

-- the bindings of the entries that a search still comes to, where these were searched and these
-- names wait
abbrev pub to_come : Reader → (objects : List Found) → Wanted → (searched : List Found) → (names : List (List (List ℕ))) → List StringBinding
to_come reader objects wanted searched names =
    flat_map (bindings_at reader wanted)
    (depth_first same_entry (edges reader wanted.interface) (length objects) searched (objects_of_names reader names))

-- the bindings that are still to come: those that are ready, and those of the entries that the
-- search still comes to
abbrev pub bindings_to_come : Reader → (objects : List Found) → Wanted → Progress → List StringBinding
bindings_to_come reader objects wanted progress =
    reverse progress.ready.items ++ to_come reader objects wanted progress.searched.keys (reverse progress.names.items)
