-- Where a search goes on from an entry, by computing.
use Rattle.std.specs.Prelude.{◌≡◌, [], ◌∷◌, nat_eq, codes, None, Err, if◌then◌else◌, refl}
use Rattle.std.specs.Cmp.Lexicographic.{pointwise}
use Rattle.tower_codec.specs.declared.rpc.Interface.{Interface}
use Rattle.directory.specs.declared.entry.Kind.TheVariants as kind
use Rattle.resolver.specs.Readers.{Reader, Unreachable, object_found}
use Rattle.ns_groups.specs.Groups.{group}
use Rattle.ns_profiles.specs.Elements.{default_priority, no_interface, element_octets, element_fault}
use Rattle.ns_profiles.specs.Profiles.{profile}
use Rattle.ns_import.specs.declared.fault.ImportFault.TheVariants.{NotObject}
use Rattle.ns_import.specs.Imports.{of_kind, names_of}

-- an interface
abbrev sought : Interface
sought = record { uuid = 1 ∷ 2 ∷ 3 ∷ 4 ∷ 5 ∷ 6 ∷ 7 ∷ 8 ∷ 9 ∷ 10 ∷ 11 ∷ 12 ∷ 13 ∷ 14 ∷ 15 ∷ 16 ∷ []; major = 1; minor = 0 }

-- each entry has a group of two, and a profile: an element for the interface, and a default element
abbrev both : Reader
both = record {
  root = None;
  sees = λ at name. Unreachable;
  values = λ e attr.
      if pointwise nat_eq attr group then codes "/.:/b" ∷ codes "/.:/a" ∷ []
      else (if pointwise nat_eq attr profile then
      element_octets (record { priority = default_priority; interface = no_interface; member = codes "last" ∷ []; annotation = [] })
      ∷ element_octets (record { priority = 7; interface = sought; member = codes "served" ∷ []; annotation = [] }) ∷ []
      else []);
}

-- members before elements, and those before default elements
in_order : names_of both sought (object_found 1 1 (codes "e"))
    ≡ (codes "a" ∷ []) ∷ (codes "b" ∷ []) ∷ (codes "served" ∷ []) ∷ (codes "last" ∷ []) ∷ []
unfolding element_fault
in_order = refl

-- a link and a child are no object
no_link : of_kind kind.Link (object_found 1 1 (codes "e")) ≡ Err NotObject
no_link = refl
