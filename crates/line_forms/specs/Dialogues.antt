-- Forms of the program that answer line by line, each over a state and a kind of line of its own.
use Rattle.std.specs.Prelude.{ℕ, List, [], ◌∷◌, ◌++◌, Option, Some, None, Result, Ok, Err}
use Rattle.cell_script.specs.declared.fault.ParseFault.{ParseFault}
use Rattle.script_answers.specs.Texts.{parse_fault_text}
use Rattle.reply_buffer.specs.Responses.{ResponseOf, GoesOn, Stops}

-- a form that answers line by line: what the words of a line say, if anything; the text that
-- answers this, with the number of its line; and the state after it
pub record Dialogue (S L : Type 0) : Type 0 where
  pub says : List (List ℕ) → Result (Option L) ParseFault
  pub text : ℕ → S → L → List ℕ
  pub after : ℕ → S → L → S

-- what it makes of what a line says: no text of a line that says nothing, and its text of a fault,
-- which ends it
abbrev pub reply_of : {S L : Type 0} → Dialogue S L → ℕ → S → Result (Option L) ParseFault → ResponseOf S
reply_of d number s (Ok None) = GoesOn [] s
reply_of d number s (Ok (Some l)) = GoesOn (d.text number s l) (d.after number s l)
reply_of d number s (Err fault) = Stops (parse_fault_text number fault)

-- what a line says, by its number
pub record NumberedOf (L : Type 0) : Type 0 where
  pub number : ℕ
  pub says : L

-- the transcript of numbered lines: the text that answers each, in order
abbrev pub transcript_by : {S L : Type 0} → Dialogue S L → S → List (NumberedOf L) → List ℕ
transcript_by d s [] = []
transcript_by d s (l ∷ ls) = d.text l.number s l.says ++ transcript_by d (d.after l.number s l.says) ls
