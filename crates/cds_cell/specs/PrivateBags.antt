-- Words of private functions alone: bags.
use Rattle.std.specs.Prelude.{◌≡◌, ℕ, ◌+◌, ◌==◌, if◌then◌else◌, List, [], ◌∷◌, ◌++◌, None, Some}
use Rattle.cds_cell.specs.declared.bag.Bag.{Bag}
use Rattle.cds_cell.specs.declared.bag.Letter.{Letter}
use Rattle.cds_cell.specs.Bags.{letter_at}

-- nothing was posted
pub record IsEmptyBag (b : Bag) : Type 0 where
  pub posted : b.posted ≡ 0
  pub letters : (n : ℕ) → letter_at b n ≡ None

-- one letter was posted after all others, and its number was told after those of others
pub record PostsOne (old new : Bag) (before after : List ℕ) (l : Letter) : Type 0 where
  pub posted : new.posted ≡ old.posted + 1
  pub told : after ≡ before ++ (old.posted + 1) ∷ []
  pub letters : (n : ℕ) → letter_at new n ≡ (if n == old.posted + 1 then Some l else letter_at old n)
