-- Words of private functions alone: how many words begin in octets.
use Rattle.std.specs.Prelude.{ℕ, ◌==◌, Bool, true, false, not, List, length, drop}
use Rattle.std.specs.List.{prefix_len}
use Rattle.cell_script.specs.Words.{words_of}

-- how many words begin in these octets, in the midst of a word or not
abbrev pub words_behind : Bool → List ℕ → ℕ
words_behind true l = length (words_of (drop (prefix_len (λ b. not (b == 32)) l) l))
words_behind false l = length (words_of l)
