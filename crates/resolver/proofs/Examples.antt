-- Walks over a few entries, step by step.
use Rattle.std.proofs.Common.{ℕ, true, false, List, [], ◌∷◌, refl}
use Rattle.std.specs.Prelude.{codes, None}
use Rattle.directory.specs.declared.entry.Kind.TheVariants as kind
use Rattle.resolver.specs.declared.refusal.Refusal.TheVariants.{NoSuchName, NotDirectory, Unreachable, LinkCycle, RootName}
use Rattle.resolver.specs.declared.seen.Seen.TheVariants as seen
use Rattle.resolver.specs.declared.walk.End.TheVariants.{Found, Missing, Refused}
use Rattle.resolver.specs.Readers.{Reader}
use Rattle.resolver.specs.Walks.{Ends, stops, goes}
use Rattle.resolver.specs.ListedReaders.{list_reader}

-- names
abbrev sub : List ℕ
sub = codes "sub"

abbrev up : List ℕ
up = codes "up"

abbrev obj : List ℕ
obj = codes "obj"

abbrev loop : List ℕ
loop = codes "loop"

abbrev gone : List ℕ
gone = codes "gone"

-- the root directory has a link to itself, a child and an object; the child has a link to the root
abbrev cell : Reader
cell = list_reader true (
    (1, loop, seen.Link (record { 0 = 1 }) (loop ∷ []))
    ∷ (1, sub, seen.Child (record { 0 = 1 }) (record { dir = record { 0 = 2 }; houses = record { master = 1; others = [] } }))
    ∷ (1, obj, seen.Object (record { 0 = 1 }))
    ∷ (2, up, seen.Link (record { 0 = 1 }) [])
    ∷ [])

-- one link is passed twice, with different rests of the name after it
a_link_twice : Ends cell true (sub ∷ up ∷ sub ∷ up ∷ obj ∷ [])
    (Found (record { dir = record { 0 = 1 }; house = record { 0 = 1 }; name = obj; kind = kind.Object }))
a_link_twice = goes _ refl (goes _ refl (goes _ refl (goes _ refl (stops refl))))

-- the first name counts as come up
a_link_to_itself : Ends cell true (loop ∷ []) (Refused LinkCycle)
a_link_to_itself = stops refl

-- a link that is the last component is found where it is not to be followed
a_link_itself : Ends cell false (sub ∷ up ∷ []) (Found (record { dir = record { 0 = 2 }; house = record { 0 = 1 }; name = up; kind = kind.Link }))
a_link_itself = goes _ refl (stops refl)

a_link_to_the_root : Ends cell true (sub ∷ up ∷ []) (Refused RootName)
a_link_to_the_root = goes _ refl (goes _ refl (stops refl))

-- components are counted in the present full name
missing_behind_a_link : Ends cell true (sub ∷ up ∷ gone ∷ obj ∷ []) (Refused (NoSuchName 0))
missing_behind_a_link = goes _ refl (goes _ refl (stops refl))

missing_at_last : Ends cell true (sub ∷ gone ∷ []) (Missing (record { dir = record { 0 = 2 }; house = record { 0 = 1 }; name = gone; kind = None }) 1)
missing_at_last = goes _ refl (stops refl)

an_object_within : Ends cell true (obj ∷ gone ∷ []) (Refused (NotDirectory 1))
an_object_within = stops refl

-- the root has no entry, with or without a root directory
the_root : Ends (list_reader false []) true [] (Refused RootName)
the_root = stops refl

no_root_directory : Ends (list_reader false []) true (obj ∷ []) (Refused (Unreachable (record { 0 = 1 })))
no_root_directory = stops refl
