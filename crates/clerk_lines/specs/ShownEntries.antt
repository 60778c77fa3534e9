-- What a house shows of an entry, as it is heard value by value.
use Rattle.std.specs.Prelude.{ℕ, ◌-◌, Bool, true, if◌then◌else◌, List, [], ◌∷◌, ◌++◌, length, slice_get, nat_eq, Option, Some, None}
use Rattle.std.specs.Option.{option_map, option_map_or}
use Rattle.std.specs.Cmp.Lexicographic.{pointwise}
use Rattle.std.specs.Ordering.{is_lt}
use Rattle.cds_stamps.specs.Octets.{octets_cmp}
use Rattle.clerk_lines.specs.declared.shown.ShownAttr.{ShownAttr}

-- a value is above the last of these
abbrev pub rises : List (List ℕ) → List ℕ → Bool
rises vs v = option_map_or (λ w. is_lt (octets_cmp w v)) (slice_get vs (length vs - 1)) true

-- an attribute without values after others
abbrev pub with_attr : List ShownAttr → (name : List ℕ) → List ShownAttr
with_attr attrs name = attrs ++ record { name = name; values = [] } ∷ []

-- a value after those of an attribute, if it is above them
abbrev pub attr_with : ShownAttr → List ℕ → Option ShownAttr
attr_with a v = if rises a.values v then Some (record a { values = a.values ++ v ∷ [] }) else None

-- a value after those of the last attribute, if there is one
unfoldable pub with_value : List ShownAttr → List ℕ → Option (List ShownAttr)
with_value [] v = None
with_value (a ∷ []) v = option_map (λ b. b ∷ []) (attr_with a v)
with_value (a ∷ b ∷ more) v = option_map (λ cs. a ∷ cs) (with_value (b ∷ more) v)

-- the values of an attribute: none, if it was not heard of
unfoldable pub attr_values : (name : List ℕ) → List ShownAttr → List (List ℕ)
attr_values name [] = []
attr_values name (a ∷ more) =
    if pointwise nat_eq a.name name then a.values else attr_values name more
