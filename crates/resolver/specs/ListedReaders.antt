-- Words of examples and tests alone: a reader over a list of entries. Own.
use Rattle.std.specs.Prelude.{ℕ, Bool, ◌&&◌, ◌==◌, List, [], ◌∷◌, Option, Some, None, nat_eq, if◌then◌else◌}
use Rattle.std.specs.Cmp.Lexicographic.{pointwise}
use Rattle.std.specs.List.{filter_map}
use Rattle.cell_names.specs.ChildPointers.{Pointer}
use Rattle.resolver.specs.declared.seen.Seen.{Seen}
use Rattle.resolver.specs.declared.seen.Seen.TheVariants as seen
use Rattle.resolver.specs.declared.seen.Found.{Found}
use Rattle.resolver.specs.Readers.{Reader, Sight, Absent, sight_of, object_found}

-- a directory that house 1 alone has
abbrev pub at_one : ℕ → Pointer
at_one dir = record { dir = dir; master = 1; others = [] }

-- the first of the entries of this directory and name
abbrev pub sight_in : List (ℕ × List ℕ × Seen) → (dir : ℕ) → List ℕ → Sight
sight_in [] dir name = Absent 1
sight_in (e ∷ es) dir name = if e.0 == dir && pointwise nat_eq e.1 name then sight_of e.2 else sight_in es dir name

-- the reader of these entries, with or without a root directory
abbrev pub list_reader : (rooted : Bool) → List (ℕ × List ℕ × Seen) → Reader
list_reader rooted entries = record { root = if rooted then Some (at_one 1) else None; sees = λ p name. sight_in entries p.dir name; values = λ _ _. [] }

-- the object that an entry is, if it is one
abbrev pub object_seen : (dir : ℕ) → List ℕ → Seen → Option Found
object_seen dir name seen.Unreachable = None
object_seen dir name (seen.Absent house) = None
object_seen dir name (seen.Object house) = Some (object_found dir house.0 name)
object_seen dir name (seen.Link house target) = None
object_seen dir name (seen.Child house child) = None

-- the objects among the entries
abbrev pub objects_in : List (ℕ × List ℕ × Seen) → List Found
objects_in es = filter_map (λ e. object_seen e.0 e.1 e.2) es
