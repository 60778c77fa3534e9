-- What a line of a house's answer to `show` says: the table of its first words.
use Rattle.std.specs.Prelude.{ℕ, List, [], ◌∷◌, Err, Result, codes}
use Rattle.cell_script.specs.declared.fault.ParseFault.{ParseFault}
use Rattle.cell_script.specs.declared.fault.ParseFault.TheVariants.{UnknownCommand}
use Rattle.cell_script.specs.Words.{attr_name_of, directory_of, full_name_of, house_of, octets_value_of}
use Rattle.cell_script.specs.WordForms.{Form, One, Many, Builds, Words}
use Rattle.cell_script.specs.CommandRows.{RowOf, said_among, no_command}
use Rattle.clerk_lines.specs.declared.answer.AnswerLine.{AnswerLine}
use Rattle.clerk_lines.specs.declared.answer.AnswerLine.TheVariants as line

-- a line: its first word, the forms of the words after it, and what they say
abbrev pub row : List ℕ → (forms : List Form) → Builds forms AnswerLine → RowOf AnswerLine
row word forms build = record { word = word; forms = forms; says = build }

-- the kind of an entry and where it leads, an attribute, and a value of it
abbrev pub rows : List (RowOf AnswerLine)
rows =
    row (codes "object") [] line.Object
    ∷ row (codes "link") (One full_name_of ∷ []) line.Link
    ∷ row (codes "child") (One directory_of ∷ One house_of ∷ Many house_of ∷ []) line.Child
    ∷ row (codes "attr") (One attr_name_of ∷ []) line.Attr
    ∷ row (codes "value") (One octets_value_of ∷ []) line.Value
    ∷ []

-- what the words after a first word say
unfoldable pub said_by : List ℕ → Words → Result AnswerLine ParseFault
said_by word s = said_among rows no_command word s

-- what the words of a line say
unfoldable pub answer_said : List (List ℕ) → Result AnswerLine ParseFault
answer_said [] = Err (UnknownCommand 1)
answer_said (word ∷ words) = said_by word (record { read = 1; rest = words })
