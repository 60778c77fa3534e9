-- The words of the command line of `cdsmend`.
use Rattle.std.specs.Prelude.{ℕ, Bool, ◌&&◌, not, ◌==◌, if◌then◌else◌, List, [], ◌∷◌, length, codes, Option, Some, None, is_some}
use Rattle.std.specs.List.{list_all}
use Rattle.std.specs.Str.{bytes_eq}
use Rattle.cell_script.specs.Words.{most_directory, most_house, number_to}

-- the number of a house, as the lines of a script have it
abbrev pub is_house : List ℕ → Bool
is_house word = is_some (number_to most_house word)

-- one or more numbers of houses
abbrev pub are_houses : List (List ℕ) → Bool
are_houses words = not (length words == 0) && list_all is_house words

-- the directory: one number, as the lines of a script have it, alone or before a `-` and the houses
-- that are left out
abbrev pub directory_named : List (List ℕ) → Option ℕ
directory_named [] = None
directory_named (word ∷ []) = number_to most_directory word
directory_named (word ∷ dash ∷ houses) = if bytes_eq dash (codes "-") && are_houses houses then number_to most_directory word else None

-- a number before others, if there is one
abbrev pub with_number : Option ℕ → List ℕ → List ℕ
with_number None ns = ns
with_number (Some n) ns = n ∷ ns

-- the numbers of these houses
abbrev pub numbers_in : List (List ℕ) → List ℕ
numbers_in [] = []
numbers_in (word ∷ words) = with_number (number_to most_house word) (numbers_in words)

-- the houses that are left out: those after the `-`
abbrev pub houses_named : List (List ℕ) → List ℕ
houses_named [] = []
houses_named (word ∷ []) = []
houses_named (word ∷ dash ∷ houses) = numbers_in houses
