-- What a reader of a cell tells (own, after C705, clerks and clearinghouses).
use Rattle.std.specs.Prelude.{◌≡◌, ℕ, List, [], Option}
use Rattle.std.specs.FinMap.{FinMap, get}
use Rattle.std.specs.List.{Contains}
use Rattle.std.specs.Option.{option_map_or}
use Rattle.cds_stamps.specs.Octets.{octets_cmp}
use Rattle.attr_sets.specs.declared.cell.AttrCell.{AttrCell}
use Rattle.attr_sets.specs.AttributeCells.{cell_values}
use Rattle.cell_names.specs.ChildPointers.{Pointer, pointer_in}
use Rattle.directory.specs.declared.entry.Kind.TheVariants as kind
use Rattle.resolver.specs.declared.seen.Seen.{Seen}
use Rattle.resolver.specs.declared.seen.Seen.TheVariants as seen
use Rattle.resolver.specs.declared.seen.Found.{Found}

-- what is seen of a name in a directory: none of its houses answers; the house that was asked shows
-- no entry of this name; or it shows an object, a link to a full name, or a child (own, after C705,
-- object entries, soft links and child pointers)
pub data Sight : Type 0 where
  Unreachable : Sight
  Absent : (house : ℕ) → Sight
  Object : (house : ℕ) → Sight
  Link : (house : ℕ) → (target : List (List ℕ)) → Sight
  Child : (house : ℕ) → (child : Pointer) → Sight

-- what a reader tells: where the root directory is, if there is one; what is seen of a simple name
-- in a directory; and the values of an attribute that show of an entry (own)
pub record Reader : Type 0 where
  pub root : Option Pointer
  pub sees : Pointer → List ℕ → Sight
  pub values : Found → List ℕ → List (List ℕ)

-- the values that show by the cells of an entry's attributes; none of an attribute without a cell
-- (own, after C705, attributes)
abbrev pub values_by : FinMap octets_cmp AttrCell → List ℕ → List (List ℕ)
values_by cells attr = option_map_or cell_values (get cells attr) []

-- by these cells of attributes the values of an entry show (own, after C705, attributes)
abbrev pub AreCellsOf : Reader → Found → FinMap octets_cmp AttrCell → Type 0
AreCellsOf reader at cells = (attr : List ℕ) → values_by cells attr ≡ reader.values at attr

-- what is seen, as the program tells it (own)
abbrev pub sight_of : Seen → Sight
sight_of seen.Unreachable = Unreachable
sight_of (seen.Absent house) = Absent house.0
sight_of (seen.Object house) = Object house.0
sight_of (seen.Link house target) = Link house.0 target
sight_of (seen.Child house child) = Child house.0 (pointer_in child)

-- an object of a directory, at the house that shows it (own)
abbrev pub object_found : (dir house : ℕ) → List ℕ → Found
object_found dir house name = record { dir = record { 0 = dir }; house = record { 0 = house }; name = name; kind = kind.Object }

-- each object that the reader shows, by whichever pointer, is one of these: so they are finitely
-- many (own)
abbrev pub ShowsOnly : Reader → List Found → Type 0
ShowsOnly reader objects = (at : Pointer) (house : ℕ) (name : List ℕ) → reader.sees at name ≡ Object house → Contains objects (object_found at.dir house name)
