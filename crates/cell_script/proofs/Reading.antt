-- Lines that are read word by word.
use Rattle.std.proofs.Common.{◌≡◌, ℕ, true, false, List, [], ◌∷◌, ◌++◌, refl}
use Rattle.std.specs.Prelude.{Option, Result, Ok, Err, None}
use Rattle.cell_script.specs.declared.fault.ParseFault.{ParseFault}
use Rattle.cell_script.specs.CommandRows.{fault_in, line_in, says_nothing, some_line}
use Rattle.cell_script.specs.WordForms.{◌>>=◌, Words}

-- items after others
abbrev pub behind : {A : Type 0} → List A → Result (List A) ParseFault → Result (List A) ParseFault
behind xs r = r >>= λ more. Ok (xs ++ more)

-- a line that is read to its end says something
pub some_line_says : {Line : Type 0} (r : Result Line ParseFault) → some_line r ≡ Ok None → ⊥
some_line_says (Ok l) is = cc
some_line_says (Err e) is = cc

-- ---- lines by their first words

-- a line that says nothing
pub nothing_said : {Line : Type 0} (says : List ℕ → Words → Result Line ParseFault) (ws : List (List ℕ)) → says_nothing ws ≡ true → line_in says ws ≡ Ok None
nothing_said says [] is = refl
nothing_said says (w ∷ ws) is = rw is refl

pub nothing_early : (early : List ℕ → Words → Option ParseFault) (ws : List (List ℕ)) → says_nothing ws ≡ true → fault_in early ws ≡ None
nothing_early early [] is = refl
nothing_early early (w ∷ ws) is = rw is refl

-- a line that says what the words after its first one say
pub something_said : {Line : Type 0} (says : List ℕ → Words → Result Line ParseFault) (w : List ℕ) (ws : List (List ℕ)) → says_nothing (w ∷ ws) ≡ false
    → line_in says (w ∷ ws) ≡ some_line (says w (record { read = 1; rest = ws }))
something_said says w ws is = rw is refl

pub something_early : (early : List ℕ → Words → Option ParseFault) (w : List ℕ) (ws : List (List ℕ)) → says_nothing (w ∷ ws) ≡ false
    → fault_in early (w ∷ ws) ≡ early w (record { read = 1; rest = ws })
something_early early w ws is = rw is refl
