-- The end of a walk, as a function of the reader.
use Rattle.std.specs.Prelude.{ℕ, Bool, true, List, Result}
use Rattle.resolver.specs.declared.refusal.Refusal.{Refusal}
use Rattle.resolver.specs.declared.seen.Found.{Found}
use Rattle.resolver.specs.declared.seen.Place.{Place}
use Rattle.resolver.specs.declared.walk.End.{End}
use Rattle.resolver.specs.Readers.{Reader}
use Rattle.resolver.specs.Walks.{found_of, place_of}
use Rattle.resolver.specs.WalkEndProofs.{some_end}

-- the one end to which a walk comes
unfoldable pub end_of : Reader → (last : Bool) → List (List ℕ) → End
end_of reader last name = (some_end reader last name).0

-- what the walk of a full name finds, or why it finds nothing
abbrev pub walk_end : Reader → (follow_last : Bool) → List (List ℕ) → Result Found Refusal
walk_end reader follow_last name = found_of (end_of reader follow_last name)

-- the place to which the walk of a full name leads, links followed, or why it leads to none
abbrev pub place_of_walk : Reader → List (List ℕ) → Result Place Refusal
place_of_walk reader name = place_of (end_of reader true name)
