-- What `inquire` answers: as `run`, and four inquiries, which leave the cell as it is (own, after
-- C706, inquiry of name service entries).
use Rattle.std.specs.Prelude.{ℕ, if◌then◌else◌, List, [], ◌∷◌, Option, Some}
use Rattle.std.specs.Option.{option_map, option_map_or}
use Rattle.cell_model.specs.Cells.{Cell}
use Rattle.cell_model.specs.Sets.{has}
use Rattle.cds_cell.specs.Readings.{objects_of, cell_reader}
use Rattle.script_answers.specs.declared.answer.ScriptRefusal.TheVariants as why
use Rattle.inquire_forms.specs.declared.inquire_line.InquireLine.{InquireLine}
use Rattle.inquire_forms.specs.declared.inquire_line.InquireLine.TheVariants as line
use Rattle.inquire_forms.specs.InquireLines.{inquired_in}
use Rattle.inquire_forms.specs.InquireTexts.{inquire_text}
use Rattle.inquire_forms.specs.Inquired.{Inquired, Plain, inquired_refusal, batches_listed, elements_listed, entry_listed, members_listed}
use Rattle.line_forms.specs.Dialogues.{Dialogue, NumberedOf}
use Rattle.script_replay.specs.Replies.{Numbered, cell_after, reply_to, wanted_by}

-- a house that is not there is asked nothing (own)
abbrev pub no_house : Inquired
no_house = inquired_refusal why.NoHouse

-- what is answered where the house that is preferred is there (own)
abbrev pub asked_at : Cell → (house : ℕ) → Inquired → Inquired
asked_at g house said = if has house g.made then said else no_house

-- what a line is answered: a house is preferred, and a replica is trusted so far (own, after C706,
-- inquiry of name service entries)
abbrev pub inquiry_reply : Cell → InquireLine → Option Inquired
inquiry_reply g (line.Plain l) = option_map Plain (reply_to g l)
inquiry_reply g (line.Grouplist h high name) = Some (asked_at g h.0 (members_listed (cell_reader g (Some h.0) high) name))
inquiry_reply g (line.Entrylist h high name) = Some (asked_at g h.0 (entry_listed (cell_reader g (Some h.0) high) name))
inquiry_reply g (line.Proflist h high name asked) =
    Some (asked_at g h.0 (elements_listed (cell_reader g (Some h.0) high) asked name))
inquiry_reply g (line.Lookup h high name interface object tcp udp most) =
    Some (asked_at g h.0
    (batches_listed (cell_reader g (Some h.0) high) (objects_of g) (wanted_by interface object tcp udp) most name))

-- the cell after a line: an inquiry leaves it as it is (own)
abbrev pub cell_after_inquiry : Cell → InquireLine → Cell
cell_after_inquiry g (line.Plain l) = cell_after g l
cell_after_inquiry g other = g

-- the text of the reply, with the number of the line (own)
abbrev pub reply_text : ℕ → Cell → InquireLine → List ℕ
reply_text number g l = option_map_or (inquire_text number) (inquiry_reply g l) []

-- what `inquire` answers line by line (own, after C706, inquiry of name service entries)
abbrev pub inquire_dialogue : Dialogue Cell InquireLine
inquire_dialogue = record { says = inquired_in; text = reply_text; after = λ number g l. cell_after_inquiry g l }

-- the lines of a script, as lines that may inquire (own)
abbrev pub plain_lines : List Numbered → List (NumberedOf InquireLine)
plain_lines [] = []
plain_lines (l ∷ ls) = record { number = l.number; says = line.Plain l.says } ∷ plain_lines ls
