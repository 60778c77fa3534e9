-- A value after those of the last attribute.
use Rattle.std.proofs.Common.{◌≡◌, ℕ, List, [], ◌∷◌, ◌++◌, refl, ap, ◌∙◌}
use Rattle.std.specs.Prelude.{Option, Some, None}
use Rattle.std.specs.Option.{option_map}
use Rattle.clerk_lines.specs.declared.shown.ShownAttr.{ShownAttr}
use Rattle.clerk_lines.specs.ShownEntries.{attr_with, with_value}

-- one more item before each list
onto : (a : ShownAttr) (xs : List ShownAttr) (o : Option ShownAttr)
    → option_map (λ cs. a ∷ cs) (option_map (λ b. xs ++ b ∷ []) o) ≡ option_map (λ b. a ∷ (xs ++ b ∷ [])) o
onto a xs None = refl
onto a xs (Some b) = refl

-- the last attribute gets it, whatever is before that
pub with_last : (xs : List ShownAttr) (a : ShownAttr) (v : List ℕ) → with_value (xs ++ a ∷ []) v ≡ option_map (λ b. xs ++ b ∷ []) (attr_with a v)
unfolding with_value
with_last [] a v = refl
with_last (x ∷ []) a v = onto x [] (attr_with a v)
with_last (x ∷ y ∷ ys) a v = ap (option_map (λ cs. x ∷ cs)) (with_last (y ∷ ys) a v) ∙ onto x (y ∷ ys) (attr_with a v)

pub with_none : (v : List ℕ) → with_value [] v ≡ None
unfolding with_value
with_none v = refl
