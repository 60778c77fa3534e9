-- What a house's step leaves in its cell.
use Rattle.std.proofs.Common.{◌≡◌, ◌≢◌, ℕ, List, [], ◌++◌, refl, sym}
use Rattle.cell_model.specs.Cells.{House, Message, Cell}
use Rattle.cell_model.specs.Commands.{Answer, Accepted}
use Rattle.cell_model.specs.Turns.{HouseStep, Stays, Turns}
use Rattle.cell_model.specs.Steps.{serials_of, at_house}
use Rattle.cell_model.proofs.Lists.{append_nil}
use Rattle.cell_model.proofs.Views.{put_same, put_other}

-- the house after a step
abbrev pub house_after : House → HouseStep → House
house_after now (Stays answer) = now
house_after now (Turns t) = t.house

-- what it posts
abbrev pub posts_of : HouseStep → List Message
posts_of (Stays answer) = []
posts_of (Turns t) = t.posts

-- its answer, by the serials of these
abbrev pub answer_of : HouseStep → List ℕ → Answer
answer_of (Stays answer) ns = answer
answer_of (Turns t) ns = t.answer ns

-- and what it accepted
abbrev pub accepted_of : HouseStep → List Accepted
accepted_of (Stays answer) = []
accepted_of (Turns t) = t.accepted

-- the house is the one after the step
pub at_house-here : (g : Cell) (h : ℕ) (s : HouseStep) → (at_house g h s).cell.house h ≡ house_after (g.house h) s
at_house-here g h (Stays answer) = refl
at_house-here g h (Turns t) = put_same g.house h t.house

-- the others stay
pub at_house-there : (g : Cell) (h : ℕ) (s : HouseStep) (x : ℕ) → x ≢ h → (at_house g h s).cell.house x ≡ g.house x
at_house-there g h (Stays answer) x apart = refl
at_house-there g h (Turns t) x apart = put_other g.house h t.house x apart

-- what it posts comes after what was posted
pub at_house-bag : (g : Cell) (h : ℕ) (s : HouseStep) → (at_house g h s).cell.bag ≡ g.bag ++ posts_of s
at_house-bag g h (Stays answer) = sym (append_nil g.bag)
at_house-bag g h (Turns t) = refl

-- the answer has the serials of that
pub at_house-answer : (g : Cell) (h : ℕ) (s : HouseStep) → (at_house g h s).answer ≡ answer_of s (serials_of g (posts_of s))
at_house-answer g h (Stays answer) = refl
at_house-answer g h (Turns t) = refl

pub at_house-accepted : (g : Cell) (h : ℕ) (s : HouseStep) → (at_house g h s).accepted ≡ accepted_of s
at_house-accepted g h (Stays answer) = refl
at_house-accepted g h (Turns t) = refl

-- which houses there are, what was lost, and what the console knows
pub record Rest (g g' : Cell) : Type 0 where
  pub made : g'.made ≡ g.made
  pub lost : g'.lost ≡ g.lost
  pub top : g'.top ≡ g.top
  pub present : g'.present ≡ g.present
  pub next_dir : g'.next_dir ≡ g.next_dir

-- and nothing of that is changed
pub at_house-rest : (g : Cell) (h : ℕ) (s : HouseStep) → Rest g (at_house g h s).cell
at_house-rest g h (Stays answer) = record { made = refl; lost = refl; top = refl; present = refl; next_dir = refl }
at_house-rest g h (Turns t) = record { made = refl; lost = refl; top = refl; present = refl; next_dir = refl }
