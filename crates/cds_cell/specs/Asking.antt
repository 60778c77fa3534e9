-- Which house is asked about a directory (own, after C705, confidence of lookups).
use Rattle.std.specs.Prelude.{ℕ, Bool, not, ◌||◌, if◌then◌else◌, ◌==◌, List, ◌∷◌, Option, Some, None}
use Rattle.std.specs.Option.{option_and_then}
use Rattle.cds_stamps.specs.Firsts.{first_some}
use Rattle.cds_stamps.specs.Members.{Member, master_of}
use Rattle.directory.specs.Shown.{Shown}
use Rattle.cell_model.specs.Sets.{has}

-- what a house shows of a directory: the members that it knows, and what shows of each name (own)
pub record View : Type 0 where
  pub members : List Member
  pub shows : List ℕ → Option Shown

-- what each house shows of each directory: nothing, where it is down or holds no replica (own)
abbrev pub Views : Type 0
Views = (d x : ℕ) → Option View

-- a house that is asked, and what it shows (own)
pub record Asked : Type 0 where
  pub house : ℕ
  pub view : View

-- a house answers with what it shows; at high confidence only where it is the master by its own
-- member list (own, after C705, confidence of lookups)
abbrev pub answers_with : (high : Bool) → (x : ℕ) → View → Option Asked
answers_with high x v = if not high || (master_of v.members == x) then Some (record { house = x; view = v }) else None

-- likewise of a house that shows something of the directory, if it does (own)
abbrev pub answer_of_house : Views → (high : Bool) → (d x : ℕ) → Option Asked
answer_of_house views high d x = option_and_then (answers_with high x) (views d x)

-- the preferred house first, where it is listed (own)
abbrev pub preferred_first : Option ℕ → List ℕ → List ℕ
preferred_first None houses = houses
preferred_first (Some x) houses = if has x houses then x ∷ houses else houses

-- the order in which the listed houses are asked: no house is preferred at high confidence (own,
-- after C705, confidence of lookups)
abbrev pub in_turn : (prefer : Option ℕ) → (high : Bool) → List ℕ → List ℕ
in_turn prefer high houses = if high then houses else preferred_first prefer houses

-- of the listed houses of a directory, the one that is asked: the first that answers (own, after
-- C705, confidence of lookups)
abbrev pub house_to_ask : Views → (d : ℕ) → (prefer : Option ℕ) → (high : Bool) → List ℕ → Option Asked
house_to_ask views d prefer high houses = first_some (answer_of_house views high d) (in_turn prefer high houses)
