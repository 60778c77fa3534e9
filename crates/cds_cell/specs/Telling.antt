-- What a cell of the program tells a reader.
use Rattle.std.specs.Prelude.{ℕ, Bool, List, [], ◌∷◌, map, Option, Some, None}
use Rattle.std.specs.FinMap.{get, keys}
use Rattle.std.specs.List.{flat_map}
use Rattle.std.specs.Option.{option_map, option_and_then}
use Rattle.cds_stamps.specs.declared.numbers.DirId.{DirId}
use Rattle.cds_stamps.specs.Members.{members_of}
use Rattle.cds_stamps.specs.Numbers.{root_dir}
use Rattle.cell_names.specs.ChildPointers.{Pointer}
use Rattle.house_directory.specs.declared.states.Held.{Held}
use Rattle.house_directory.specs.declared.states.DirState.{DirState}
use Rattle.house_directory.specs.declared.states.DirState.TheVariants as dir
use Rattle.directory.specs.Shown.{shown_in}
use Rattle.resolver.specs.declared.seen.Found.{Found}
use Rattle.resolver.specs.Readers.{Reader, object_found}
use Rattle.cds_cell.specs.declared.cell.Cell.{Cell}
use Rattle.cds_cell.specs.declared.console.Listing.{Listing}
use Rattle.cds_cell.specs.declared.house.HouseState.{HouseState}
use Rattle.cds_cell.specs.declared.house.HouseState.TheVariants as state
use Rattle.cds_cell.specs.Asking.{View, Views}
use Rattle.cds_cell.specs.Readings.{pointer_to, reader_of}
use Rattle.cds_cell.specs.ModelCells.{house_of}

-- where the first directory is, if there is one
abbrev pub first_pointer : List Listing → Option Pointer
first_pointer [] = None
first_pointer (l ∷ ls) = Some (pointer_to root_dir (members_of l.members))

-- what shows of the table of what is held, to its members
abbrev pub held_view : Held → View
held_view h = record { members = members_of h.members; shows = shown_in h.replica.table }

-- what a house shows of a directory by what it has of it
abbrev pub dir_view : Option DirState → Option View
dir_view None = None
dir_view (Some (dir.Gone e)) = None
dir_view (Some (dir.Held h)) = Some (held_view h)

-- what there is of a house shows so much of a directory: nothing, where it is down
abbrev pub state_view : DirId → HouseState → Option View
state_view d (state.Up c) = dir_view (get c.dirs d)
state_view d (state.Down octets) = None

-- what each house of a cell of the program shows of each directory
abbrev pub told_views : Cell → Views
told_views c d x = option_and_then (state_view (record { 0 = d })) (option_map (λ h. h.state) (house_of c.houses.items x))

-- what a cell of the program tells a reader that prefers a house, or none, and trusts any replica
-- or the master's alone
abbrev pub program_reader : Cell → (prefer : Option ℕ) → (high : Bool) → Reader
program_reader c prefer high = reader_of (first_pointer c.directories.items) (told_views c) prefer high

-- an object for each name in the table of what is held: more than show, but finitely many
abbrev pub objects_held : (x : ℕ) → DirId → Option DirState → List Found
objects_held x d None = []
objects_held x d (Some (dir.Gone e)) = []
objects_held x d (Some (dir.Held h)) = map (object_found d.0 x) (keys h.replica.table)

-- all that a house has, if it is up
abbrev pub objects_at : (x : ℕ) → HouseState → List Found
objects_at x (state.Up c) = flat_map (λ d. objects_held x d (get c.dirs d)) (keys c.dirs)
objects_at x (state.Down octets) = []

-- objects, all that a cell of the program shows among them
abbrev pub told_objects : Cell → List Found
told_objects c = flat_map (λ h. objects_at h.house.0 h.state) c.houses.items
