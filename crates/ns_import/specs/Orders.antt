-- What is reached from an item along edges, and in which order: path by path, each item where it
-- comes first.
use Rattle.std.specs.Prelude.{ℕ, zero, suc, Bool, not, List, [], ◌∷◌, ◌++◌, filter, flat_map, Contains}
use Rattle.cds_stamps.specs.Firsts.{has, firsts}

module _ {A : Type 0} (same : A → A → Bool) (edges : A → List A) where
  -- what the paths from an item come to that have at most so many items and come to none twice,
  -- path by path, in the order of the edges; `path` leads to the item
  abbrev pub unfold_paths : (steps : ℕ) → (path : List A) → A → List A
  unfold_paths zero path e = []
  unfold_paths (suc k) path e = e ∷ flat_map (λ f. unfold_paths k (path ++ e ∷ []) f) (filter (λ f. not (has same f (path ++ e ∷ []))) (edges e))

  -- each item that the paths of at most so many items come to, where it comes first
  abbrev pub order : (steps : ℕ) → A → List A
  order steps e = firsts same [] (unfold_paths steps [] e)

-- from one item another is reached along edges
pub data Reaches {A : Type 0} (edges : A → List A) : A → A → Type 0 where
  here : (e : A) → Reaches edges e e
  there : (e x f : A) → Contains (edges e) x → Reaches edges x f → Reaches edges e f
