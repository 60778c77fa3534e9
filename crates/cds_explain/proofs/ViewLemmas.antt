-- What a house sees of commands, and of one more.
use Rattle.std.proofs.Common.{◌≡◌, ◌≢◌, ℕ, Bool, true, false, eqb, cond, List, [], ◌∷◌, ◌++◌, Option, Some, None, refl, ◌∙◌, ap, arith, append-nil}
use Rattle.cell_model.specs.Cells.{Cell, empty_cell}
use Rattle.cell_model.specs.Commands.{Command}
use Rattle.cell_model.specs.Steps.{outcome, replay, replay_from}
use Rattle.cell_runs.specs.Entries.{Entry}
use Rattle.cell_runs.specs.Views.{if_of, seen_at, view_from}
use Rattle.cds_explain.specs.Explained.{view}

-- the entries of a command come before those of the commands after it
before : (x : ℕ) (o : Option (ℕ × Entry)) (es fs : List Entry) → if_of x o (es ++ fs) ≡ if_of x o es ++ fs
before x None es fs = refl
before x (Some e) es fs = by (eqb e.0 x)
  where
    by : (b : Bool) → cond b (e.1 ∷ (es ++ fs)) (es ++ fs) ≡ cond b (e.1 ∷ es) es ++ fs
    by true = refl
    by false = refl

pub view-append : (x : ℕ) (cs ds : List Command) (g : Cell) → view_from g x (cs ++ ds) ≡ view_from g x cs ++ view_from (replay_from g cs) x ds
view-append x [] ds g = refl
view-append x (c ∷ cs) ds g =
    ap (if_of x (seen_at g c)) (view-append x cs ds (outcome g c).cell)
    ∙ before x (seen_at g c) (view_from (outcome g c).cell x cs) (view_from (replay_from (outcome g c).cell cs) x ds)

-- one command more, which is seen nowhere
pub view_quiet : (x : ℕ) (cs : List Command) (c : Command) → seen_at (replay cs) c ≡ None → view x (cs ++ c ∷ []) ≡ view x cs
view_quiet x cs c none =
    view-append x cs (c ∷ []) empty_cell
    ∙ ap (λ (o : Option (ℕ × Entry)). view x cs ++ if_of x o []) none
    ∙ append-nil (view x cs)

-- one that is an entry of the house x
pub view_here : (x : ℕ) (cs : List Command) (c : Command) (e : Entry) → seen_at (replay cs) c ≡ Some (x, e) → view x (cs ++ c ∷ []) ≡ view x cs ++ e ∷ []
view_here x cs c e is =
    let on : eqb x x ≡ true = grind arith in
    view-append x cs (c ∷ []) empty_cell
    ∙ ap (λ (o : Option (ℕ × Entry)). view x cs ++ if_of x o []) is
    ∙ ap (λ (b : Bool). view x cs ++ cond b (e ∷ []) []) on

-- one that is an entry of another house
pub view_there : (x y : ℕ) (cs : List Command) (c : Command) (e : Entry) → seen_at (replay cs) c ≡ Some (x, e) → y ≢ x → view y (cs ++ c ∷ []) ≡ view y cs
view_there x y cs c e is apart =
    let off : eqb x y ≡ false = grind (arith, apart) in
    view-append y cs (c ∷ []) empty_cell
    ∙ ap (λ (o : Option (ℕ × Entry)). view y cs ++ if_of y o []) is
    ∙ ap (λ (b : Bool). view y cs ++ cond b (e ∷ []) []) off
    ∙ append-nil (view y cs)
