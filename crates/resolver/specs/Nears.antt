-- Directories that are entered from the root directory, child by child (own, after C705, name
-- resolution by clerks).
use Rattle.std.specs.Prelude.{◌≡◌, ℕ, List, [], ◌∷◌, ◌++◌, Option, Some, None, IfSome}
use Rattle.std.specs.Option.{option_and_then}
use Rattle.cell_names.specs.ChildPointers.{Pointer, pointer_in}
use Rattle.resolver.specs.declared.seen.Found.{Found}
use Rattle.resolver.specs.declared.near.Near.{Near}
use Rattle.resolver.specs.Readers.{Reader, Sight, Unreachable, Absent, Object, Link, Child, object_found}

-- the child that is seen, if a child is (own)
abbrev pub child_seen : Sight → Option Pointer
child_seen Unreachable = None
child_seen (Absent house) = None
child_seen (Object house) = None
child_seen (Link house target) = None
child_seen (Child house child) = Some child

-- the house that shows the object that is seen, if an object is (own)
abbrev pub house_seen : Sight → Option ℕ
house_seen Unreachable = None
house_seen (Absent house) = None
house_seen (Object house) = Some house
house_seen (Link house target) = None
house_seen (Child house child) = None

-- the object of this directory and name that is seen, if an object is (own)
abbrev pub object_there : (dir : ℕ) → (name : List ℕ) → Sight → Option Found
object_there dir name Unreachable = None
object_there dir name (Absent house) = None
object_there dir name (Object house) = Some (object_found dir house name)
object_there dir name (Link house target) = None
object_there dir name (Child house child) = None

-- the directory to which these components lead from another, each a child of the one before; none
-- where one is no child (own, after C705, child pointers)
abbrev pub children : Reader → List (List ℕ) → Option Pointer → Option Pointer
children reader [] at = at
children reader (c ∷ cs) at = children reader cs (option_and_then (λ p. child_seen (reader.sees p c)) at)

-- the name leads to this object, and no link is on the way (own)
pub record IsDirect (reader : Reader) (name : List (List ℕ)) (f : Found) : Type 0 where
  pub front : List (List ℕ)
  pub last : List ℕ
  pub at : Pointer
  pub house : ℕ
  pub parted : name ≡ front ++ last ∷ []
  pub entered : children reader front reader.root ≡ Some at
  pub seen : reader.sees at last ≡ Object house
  pub found : f ≡ object_found at.dir house last

-- the directory is entered from the root directory by its name, child by child (own)
abbrev pub IsEntered : Reader → Near → Type 0
IsEntered reader near = children reader near.name reader.root ≡ Some (pointer_in near.at)

-- a directory that is kept, if one is, is entered so (own)
abbrev pub Knows : Reader → Option Near → Type 0
Knows reader near = IfSome near (IsEntered reader)
