-- What the end of a walk says of the reader.
use Rattle.std.specs.Prelude.{◌≡◌, ◌≢◌, ℕ, Bool, true, Option, Some, None}
use Rattle.cell_names.specs.ChildPointers.{Pointer}
use Rattle.directory.specs.declared.entry.Kind.{Kind}
use Rattle.directory.specs.declared.entry.Kind.TheVariants as kind
use Rattle.resolver.specs.declared.seen.Found.{Found}
use Rattle.resolver.specs.declared.seen.Place.{Place}
use Rattle.resolver.specs.declared.walk.End.{End}
use Rattle.resolver.specs.declared.walk.End.TheVariants as ends
use Rattle.resolver.specs.Readers.{Reader, Sight, Unreachable, Absent, Object, Link, Child}

-- the house that shows an entry, and the kind of the entry
abbrev pub entry_seen : Sight → Option (ℕ × Kind)
entry_seen Unreachable = None
entry_seen (Absent house) = None
entry_seen (Object house) = Some (house, kind.Object)
entry_seen (Link house target) = Some (house, kind.Link)
entry_seen (Child house child) = Some (house, kind.Child)

-- the entry is seen in its directory; where links are followed to the last, it is none
pub record IsSeen (reader : Reader) (last : Bool) (f : Found) : Type 0 where
  pub at : Pointer
  pub dir : at.dir ≡ f.dir.0
  pub seen : entry_seen (reader.sees at f.name) ≡ Some (f.house.0, f.kind)
  pub followed : last ≡ true → f.kind ≢ kind.Link

-- no entry is seen of the name of this place in its directory
pub record IsMissing (reader : Reader) (place : Place) : Type 0 where
  pub at : Pointer
  pub dir : at.dir ≡ place.dir.0
  pub absent : reader.sees at place.name ≡ Absent place.house.0
  pub kind : place.kind ≡ None

-- what an end says is what the reader tells
abbrev pub IsSeenEnd : Reader → (last : Bool) → End → Type 0
IsSeenEnd reader last (ends.Found f) = IsSeen reader last f
IsSeenEnd reader last (ends.Missing place done) = IsMissing reader place
IsSeenEnd reader last (ends.Refused why) = Unit {0}
