-- The items of a list, each where it comes first, and the first that something is made of.
use Rattle.std.specs.Prelude.{Bool, List, [], ◌∷◌, ◌++◌, if◌then◌else◌, Option, None}
use Rattle.std.specs.List.{list_any}
use Rattle.std.specs.Option.{option_or}

-- what is made of the first item of which something is made
abbrev pub first_some : {A B : Type 0} → (A → Option B) → List A → Option B
first_some f [] = None
first_some f (x ∷ xs) = option_or (f x) (first_some f xs)

module _ {A : Type 0} (same : A → A → Bool) where
  -- the item is among these
  abbrev pub has : A → List A → Bool
  has x = list_any (same x)

  -- the item alone, unless it was seen
  abbrev pub if_new : (seen : List A) → A → List A
  if_new seen x = if has x seen then [] else x ∷ []

  -- the items that were not seen, each where it comes first
  abbrev pub firsts : (seen : List A) → List A → List A
  firsts seen [] = []
  firsts seen (x ∷ xs) = if_new seen x ++ firsts (seen ++ if_new seen x) xs
