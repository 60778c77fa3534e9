-- Resolution: the walk of a full name through the directories of a cell (own, after C705, name
-- resolution by clerks).
use Rattle.std.specs.Prelude.{◌≡◌, ℕ, ◌+◌, Bool, nat_lt, not, List, [], ◌∷◌, ◌++◌, length, drop, Option, Some, None, Result, Ok, Err, if◌then◌else◌}
use Rattle.std.specs.List.{list_any}
use Rattle.cds_stamps.specs.Numbers.{root_dir}
use Rattle.cell_names.specs.FullNames.{full_name_octets, longest_name, is_name}
use Rattle.cell_names.specs.ChildPointers.{Pointer}
use Rattle.directory.specs.declared.entry.Kind.{Kind}
use Rattle.directory.specs.declared.entry.Kind.TheVariants as kind
use Rattle.resolver.specs.declared.refusal.Refusal.{Refusal}
use Rattle.resolver.specs.declared.refusal.Refusal.TheVariants.{NoSuchName, NotDirectory, LinkCycle, TooManyLinks, NameTooLong, RootName}
use Rattle.resolver.specs.declared.refusal.Refusal.TheVariants as refusal
use Rattle.resolver.specs.declared.seen.Found.{Found}
use Rattle.resolver.specs.declared.seen.Place.{Place}
use Rattle.resolver.specs.declared.walk.End.{End}
use Rattle.resolver.specs.declared.walk.End.TheVariants as ends
use Rattle.resolver.specs.Readers.{Reader, Sight, Unreachable, Absent, Object, Link, Child}

-- where a walk is: the present full name; the directory, none where there is no root directory; how
-- many components of the name are done; the full names that came up, from the first on; and how
-- many links were followed (own)
pub record Walker : Type 0 where
  pub name : List (List ℕ)
  pub at : Option Pointer
  pub done : ℕ
  pub came_up : List (List (List ℕ))
  pub links : ℕ

-- what one step comes to: the walk goes on, or it ends (own)
pub data Step : Type 0 where
  Goes : Walker → Step
  Stops : End → Step

-- the most links that one walk follows (own)
abbrev pub most_links : ℕ
most_links = 64

-- the walk of a full name begins at the root directory (own, after C705, name resolution)
abbrev pub start : Reader → List (List ℕ) → Walker
start reader name = record { name = name; at = reader.root; done = 0; came_up = name ∷ []; links = 0 }

-- why a link is not followed to this full name: most_links were followed already, else the name is
-- too long, and else it came up in this walk before (own)
abbrev pub link_refusal : (links : ℕ) → (came_up : List (List (List ℕ))) → List (List ℕ) → Option Refusal
link_refusal links came_up name =
    if not (nat_lt links most_links) then Some TooManyLinks
    else (if nat_lt longest_name (length (full_name_octets name)) then Some NameTooLong
    else (if list_any (λ earlier. is_name earlier name) came_up then Some LinkCycle else None))

-- a link is followed: the walk of this name begins again at the root directory, unless that is
-- refused (own, after C705, soft links)
abbrev pub follow_unless : Option Refusal → Reader → (links : ℕ) → (came_up : List (List (List ℕ))) → List (List ℕ) → Step
follow_unless (Some why) reader links came_up name = Stops (ends.Refused why)
follow_unless None reader links came_up name = Goes (record { name = name; at = reader.root; done = 0; came_up = came_up ++ name ∷ []; links = links + 1 })

-- a link to this name, where so many were followed and these names came up (own)
abbrev pub follow : Reader → (links : ℕ) → (came_up : List (List (List ℕ))) → List (List ℕ) → Step
follow reader links came_up name = follow_unless (link_refusal links came_up name) reader links came_up name

-- an entry of this kind, and the place of one that does not show (own)
abbrev pub find_step : (dir house : ℕ) → List ℕ → Kind → Step
find_step dir house name k = Stops (ends.Found (record { dir = record { 0 = dir }; house = record { 0 = house }; name = name; kind = k }))

-- the walk stops at the place of an entry that does not show, with so many components done (own)
abbrev pub missing_step : (dir house : ℕ) → List ℕ → (done : ℕ) → Step
missing_step dir house name done = Stops (ends.Missing (record { dir = record { 0 = dir }; house = record { 0 = house }; name = name; kind = None }) done)

-- the last component of a name, by what is seen of it. `last` says whether a link that is the last
-- component is followed: its target is the new name (own, after C705, soft links and child
-- pointers)
abbrev pub at_last : Reader → (last : Bool) → Walker → (dir : ℕ) → List ℕ → Sight → Step
at_last reader last w dir c Unreachable = Stops (ends.Refused (refusal.Unreachable (record { 0 = dir })))
at_last reader last w dir c (Absent house) = missing_step dir house c w.done
at_last reader last w dir c (Object house) = find_step dir house c kind.Object
at_last reader last w dir c (Child house child) = find_step dir house c kind.Child
at_last reader last w dir c (Link house target) = if last then follow reader w.links w.came_up target else find_step dir house c kind.Link

-- a component with this rest of the name after it, by what is seen of it: a child is entered, and a
-- link is followed, its target and the rest being the new name (own, after C705, soft links and
-- child pointers)
abbrev pub at_inner : Reader → Walker → (dir : ℕ) → (rest : List (List ℕ)) → Sight → Step
at_inner reader w dir rest Unreachable = Stops (ends.Refused (refusal.Unreachable (record { 0 = dir })))
at_inner reader w dir rest (Absent house) = Stops (ends.Refused (NoSuchName w.done))
at_inner reader w dir rest (Object house) = Stops (ends.Refused (NotDirectory (w.done + 1)))
at_inner reader w dir rest (Child house child) = Goes (record w { at = Some child; done = w.done + 1 })
at_inner reader w dir rest (Link house target) = follow reader w.links w.came_up (target ++ rest)

-- a component and what is after it, by what is seen of the component in this directory (own)
abbrev pub in_directory : Reader → (last : Bool) → Walker → (dir : ℕ) → List ℕ → (rest : List (List ℕ)) → Sight → Step
in_directory reader last w dir c [] seen = at_last reader last w dir c seen
in_directory reader last w dir c (d ∷ rest) seen = at_inner reader w dir (d ∷ rest) seen

-- one step, by what is left of the name and the directory where the walk is (own, after C705, name
-- resolution)
abbrev pub step_from : Reader → (last : Bool) → Walker → (left : List (List ℕ)) → Option Pointer → Step
step_from reader last w [] at = Stops (ends.Refused RootName)
step_from reader last w (c ∷ rest) None = Stops (ends.Refused (refusal.Unreachable (record { 0 = root_dir })))
step_from reader last w (c ∷ rest) (Some p) = in_directory reader last w p.dir c rest (reader.sees p c)

-- one step of a walk, from where it is (own)
abbrev pub step : Reader → (last : Bool) → Walker → Step
step reader last w = step_from reader last w (drop w.done w.name) w.at

-- step by step the walk comes to this end (own)
pub data EndsFrom (reader : Reader) (last : Bool) : Walker → End → Type 0 where
  stops : {w : Walker} {e : End} → step reader last w ≡ Stops e → EndsFrom reader last w e
  goes : {w : Walker} {e : End} → (next : Walker) → step reader last w ≡ Goes next → EndsFrom reader last next e → EndsFrom reader last w e

-- the walk of a full name comes to this end (own)
abbrev pub Ends : Reader → (last : Bool) → List (List ℕ) → End → Type 0
Ends reader last name e = EndsFrom reader last (start reader name) e

-- it comes to an end of which this holds (own)
abbrev pub SomeEnd : Reader → (last : Bool) → List (List ℕ) → (End → Type 0) → Type 0
SomeEnd reader last name P = (e : End) × Ends reader last name e × P e

-- what an end is to a call that looks for an entry (own)
abbrev pub found_of : End → Result Found Refusal
found_of (ends.Found entry) = Ok entry
found_of (ends.Missing place done) = Err (NoSuchName done)
found_of (ends.Refused why) = Err why

-- what an end is to a call that looks for the place of an entry, which need not be there (own)
abbrev pub place_of : End → Result Place Refusal
place_of (ends.Found entry) = Ok (record { dir = entry.dir; house = entry.house; name = entry.name; kind = Some entry.kind })
place_of (ends.Missing place done) = Ok place
place_of (ends.Refused why) = Err why
