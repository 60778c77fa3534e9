-- The words of the command line of `cdsclerk`: the house that is near, and the houses that are
-- asked where the root directory is. Own.
use Rattle.std.specs.Prelude.{ℕ, ◌==◌, Bool, not, List, [], ◌∷◌, ◌++◌, filter, Option, Some}
use Rattle.std.specs.Option.{option_and_then, option_map}
use Rattle.cds_stamps.specs.declared.numbers.HouseNo.{HouseNo}
use Rattle.cell_script.specs.Words.{house_of}

-- the houses of words, a number each; none, if a word is no number of a house
unfoldable pub houses_said : List (List ℕ) → Option (List HouseNo)
houses_said [] = Some []
houses_said (w ∷ ws) =
    option_and_then (λ h. option_map (λ hs. h ∷ hs) (houses_said ws)) (house_of w)

-- it is the near one
abbrev pub is_near : HouseNo → HouseNo → Bool
is_near near h = h.0 == near.0

-- the near one first, if it is one of them
abbrev pub near_first : HouseNo → List HouseNo → List HouseNo
near_first near hs = filter (is_near near) hs ++ filter (λ h. not (is_near near h)) hs
