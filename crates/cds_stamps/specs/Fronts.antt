-- Where a list stops being the front of something lawful. Places are counted from 1.
use Rattle.std.specs.Prelude.{◌≡◌, ℕ, ◌+◌, ◌-◌, ◌≤◌, List, ◌++◌, length, take}

-- something lawful begins with these
pub record IsFront {A : Type 0} (IsLawful : List A → Type 0) (front : List A) : Type 0 where
  pub rest : List A
  pub lawful : IsLawful (front ++ rest)

-- the item at this place is the first with which nothing lawful goes on
pub record IsFirstBad {A : Type 0} (IsLawful : List A → Type 0) (all : List A) (place : ℕ) : Type 0 where
  pub from : 1 ≤ place
  pub inside : place ≤ length all
  pub before : IsFront IsLawful (take (place - 1) all)
  pub here : ¬ IsFront IsLawful (take place all)

-- all are the front of something lawful, but none of it whole: an item is missing at this place,
-- after the last
pub record EndsEarly {A : Type 0} (IsLawful : List A → Type 0) (all : List A) (place : ℕ) : Type 0 where
  pub end : place ≡ length all + 1
  pub before : IsFront IsLawful all
  pub short : ¬ IsLawful all
