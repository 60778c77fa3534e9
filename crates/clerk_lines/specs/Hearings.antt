-- The answer to `show`, heard line by line.
use Rattle.std.specs.Prelude.{ℕ, Bool, ◌||◌, if◌then◌else◌, List, [], ◌∷◌, map, Option, Some, None, Result, Ok, Err, codes}
use Rattle.std.specs.Option.{option_map_or}
use Rattle.std.specs.Str.{bytes_eq}
use Rattle.cds_stamps.specs.declared.numbers.DirId.{DirId}
use Rattle.cds_stamps.specs.declared.numbers.HouseNo.{HouseNo}
use Rattle.cell_names.specs.Houses.{Houses, list_fault}
use Rattle.cell_names.specs.declared.houses.HousesFault.{HousesFault}
use Rattle.cell_script.specs.declared.fault.ParseFault.{ParseFault}
use Rattle.cell_script.specs.Words.{words_of}
use Rattle.tower_codec.specs.BindingReading.{cut_at_mark}
use Rattle.clerk_lines.specs.declared.answer.AnswerLine.{AnswerLine}
use Rattle.clerk_lines.specs.declared.answer.AnswerLine.TheVariants.{Object, Link, Child, Attr, Value}
use Rattle.clerk_lines.specs.declared.shown.Lead.{Lead}
use Rattle.clerk_lines.specs.declared.shown.Lead.TheVariants as lead
use Rattle.clerk_lines.specs.declared.shown.ShownEntry.{ShownEntry}
use Rattle.clerk_lines.specs.declared.hearing.Hearing.{Hearing}
use Rattle.clerk_lines.specs.declared.hearing.Hearing.TheVariants.{Begun, Amid, Nonsense}
use Rattle.clerk_lines.specs.declared.hearing.Told.{Told}
use Rattle.clerk_lines.specs.declared.hearing.Told.TheVariants.{Passed, Absent, Shows}
use Rattle.clerk_lines.specs.AnswerRows.{answer_said}
use Rattle.clerk_lines.specs.ShownEntries.{with_attr, with_value}

-- ---- lines before the last one

-- an entry that leads there, before any attribute
abbrev pub entry_begun : Lead → Hearing
entry_begun to = Amid (record { lead = to; attrs = [] })

-- a child of this directory at these houses, unless they are none of a child
abbrev pub child_unless : Option HousesFault → DirId → Houses → Hearing
child_unless None dir houses = entry_begun (lead.Child (record { dir = dir; houses = houses }))
child_unless (Some fault) dir houses = Nonsense

-- a child of this directory at the house of the master and at others
abbrev pub child_said : DirId → HouseNo → List HouseNo → Hearing
child_said dir master others =
    let numbers = map (λ h. h.0) others in
    child_unless (list_fault master.0 numbers) dir
    (record { master = master.0; others = numbers })

-- the first line has the kind of the entry, and where it leads
abbrev pub first_said : AnswerLine → Hearing
first_said Object = entry_begun lead.Object
first_said (Link target) = entry_begun (lead.Link target)
first_said (Child dir master others) = child_said dir master others
first_said (Attr name) = Nonsense
first_said (Value v) = Nonsense

-- an entry with a value, if that can be its next one
abbrev pub entry_with : ShownEntry → List ℕ → Hearing
entry_with e v =
    option_map_or (λ attrs. Amid (record e { attrs = attrs })) (with_value e.attrs v) Nonsense

-- each later line has an attribute, or a value of the last one
abbrev pub later_said : ShownEntry → AnswerLine → Hearing
later_said e (Attr name) = Amid (record e { attrs = with_attr e.attrs name })
later_said e (Value v) = entry_with e v
later_said e Object = Nonsense
later_said e (Link target) = Nonsense
later_said e (Child dir master others) = Nonsense

-- what was heard with what one more line says
abbrev pub said_after : Hearing → Result AnswerLine ParseFault → Hearing
said_after h (Err fault) = Nonsense
said_after Begun (Ok line) = first_said line
said_after (Amid e) (Ok line) = later_said e line
said_after Nonsense (Ok line) = Nonsense

-- what was heard with one more line
abbrev pub heard_with : Hearing → List ℕ → Hearing
heard_with h line = said_after h (answer_said (words_of line))

-- ---- the last line

-- the octets of a line before its first space
abbrev pub word_of : List ℕ → List ℕ
word_of line = option_map_or (λ p. p.0) (cut_at_mark 32 line) line

-- a line is the last one of an answer
unfoldable pub is_last : List ℕ → Bool
is_last line =
    bytes_eq (word_of line) (codes "ok") || (bytes_eq (word_of line) (codes "refused")
    || (bytes_eq (word_of line) (codes "fault") || bytes_eq (word_of line) (codes "end")))

-- what the house says by this last line: that no entry shows, or the entry that was heard
abbrev pub told_at_end : Hearing → List ℕ → Told
told_at_end Begun line = if bytes_eq line (codes "refused NoSuchEntry") then Absent else Passed
told_at_end (Amid e) line = if bytes_eq (word_of line) (codes "end") then Shows e else Passed
told_at_end Nonsense line = Passed

-- what the house says by all lines of its answer, if the last one is among them
unfoldable pub told_by : Hearing → List (List ℕ) → Option Told
told_by h [] = None
told_by h (line ∷ lines) =
    if is_last line then Some (told_at_end h line) else told_by (heard_with h line) lines
