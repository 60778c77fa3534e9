-- What holds of the end of a walk as a function.
use Rattle.std.proofs.Common.{◌≡◌, ℕ, Bool, true, List, ap, ◌∙◌}
use Rattle.resolver.specs.declared.walk.End.{End}
use Rattle.resolver.specs.Readers.{Reader}
use Rattle.resolver.specs.Walks.{Ends, found_of, place_of}
use Rattle.resolver.specs.WalkEndProofs.{some_end, one_end}
use Rattle.resolver.specs.WalkEnds.{end_of, walk_end, place_of_walk}

-- a walk comes to its end
pub ends_there : (reader : Reader) (last : Bool) (name : List (List ℕ)) → Ends reader last name (end_of reader last name)
unfolding end_of
ends_there reader last name = (some_end reader last name).1

-- an end to which a walk comes is its end
pub end_is : {reader : Reader} {last : Bool} {name : List (List ℕ)} {e : End} → Ends reader last name e → end_of reader last name ≡ e
end_is {reader} {last} {name} there = one_end (ends_there reader last name) there

-- what a walk finds, by the end to which it comes
pub walked_at : {reader : Reader} {last : Bool} {name : List (List ℕ)} {e : End} (known : End) → Ends reader last name e → e ≡ known
    → walk_end reader last name ≡ found_of known
walked_at known there is = ap found_of (end_is there ∙ is)

-- the place to which it leads, by the same
pub placed_at : {reader : Reader} {name : List (List ℕ)} {e : End} (known : End) → Ends reader true name e → e ≡ known → place_of_walk reader name ≡ place_of known
placed_at known there is = ap place_of (end_is there ∙ is)
