-- What a line says to a clerk.
use Rattle.std.specs.Prelude.{ℕ, if◌then◌else◌, List, [], Option, None, codes}
use Rattle.std.specs.Option.{option_and_then, option_map}
use Rattle.std.specs.Str.{bytes_eq}
use Rattle.tower_codec.specs.BindingReading.{cut_at_mark}
use Rattle.cell_script.specs.Words.{serial_of}
use Rattle.clerk_lines.specs.declared.line.ClerkWord.{ClerkWord}
use Rattle.clerk_lines.specs.declared.line.ClerkWord.TheVariants.{Do, Hear, Down}

-- what a line says: what it is, its number, and its text
abbrev pub Said : Type 0
Said = ClerkWord × ℕ × List ℕ

-- a number, and the text after it
unfoldable pub number_said : ClerkWord → List ℕ → Option Said
number_said word rest =
    option_and_then (λ p. option_map (λ n. (word, n, p.1)) (serial_of p.0)) (cut_at_mark 32 rest)

-- what the rest of a line with this first word says
unfoldable pub said_by : (word : List ℕ) → (rest : List ℕ) → Option Said
said_by word rest =
    if bytes_eq word (codes "do") then number_said Do rest
    else (if bytes_eq word (codes "hear") then number_said Hear rest
    else (if bytes_eq word (codes "down")
    then option_map (λ n. (Down, n, [])) (serial_of rest) else None))

-- what a line says; nothing, if it is none of a clerk's
unfoldable pub line_said : List ℕ → Option Said
line_said line = option_and_then (λ p. said_by p.0 p.1) (cut_at_mark 32 line)
