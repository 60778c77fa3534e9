-- Lines and what they come to.
use Rattle.std.specs.Prelude.{◌≡◌, ℕ, ◌+◌, List, [], ◌∷◌, ◌++◌, Option, None, Some}

-- what is said of a line, and the body of the record that comes before, if there is one
pub record Said : Type 0 where
  pub text : List ℕ
  pub body : Option (List ℕ)

-- a line, and what was said of it
pub record Turn : Type 0 where
  pub line : List ℕ
  pub said : Said

-- what a house makes of the line of a number, and what it is after it
abbrev pub Replying : Type 0 → Type 1
Replying H = H → (number : ℕ) → (line : List ℕ) → Said → H → Type 0

-- the bodies of no record, or of one
abbrev pub bodies_in : Option (List ℕ) → List (List ℕ)
bodies_in None = []
bodies_in (Some body) = body ∷ []

-- the lines, each with its end
abbrev pub lines_text : List Turn → List ℕ
lines_text [] = []
lines_text (t ∷ ts) = (t.line ++ 10 ∷ []) ++ lines_text ts

-- all that is said of them
abbrev pub texts_of : List Turn → List ℕ
texts_of [] = []
texts_of (t ∷ ts) = t.said.text ++ texts_of ts

-- the bodies of their records
abbrev pub bodies_of : List Turn → List (List ℕ)
bodies_of [] = []
bodies_of (t ∷ ts) = bodies_in t.said.body ++ bodies_of ts

-- from one house to another by these lines, the first of which has this number: each is what the
-- house makes of it
abbrev pub Dialogue : {H : Type 0} → (responds : Replying H) → (number : ℕ) → (house : H)
    → List Turn → (at : H) → Type 0
Dialogue responds number house [] at = at ≡ house
Dialogue {H} responds number house (t ∷ ts) at =
    (mid : H) × responds house number t.line t.said mid × Dialogue responds (number + 1) mid ts at
