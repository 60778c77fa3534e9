-- The forms of the program, and how each reads its input.
use Rattle.std.specs.Prelude.{Option, Some}
use Rattle.cell_model.specs.Cells.{empty_cell}
use Rattle.line_forms.specs.Readings.{Reading, by_lines}
use Rattle.cds_base.specs.RunEnds.{Run}
use Rattle.line_forms.specs.declared.endings.Status.{Status}
use Rattle.line_forms.specs.declared.endings.Status.TheVariants.{Ok as AllRead, Usage, BadInput, ReadFault, WriteFault, OutOfMemory, JournalFull}
use Rattle.line_forms.specs.LineRules.{dialogue_rule}
use Rattle.script_replay.specs.Loading.{load_text}
use Rattle.script_replay.specs.Replies.{run_dialogue}
use Rattle.clerk_replay.specs.Clerking.{clerk_dialogue, start}
use Rattle.inquire_replay.specs.Inquiring.{inquire_dialogue}
use Rattle.journal_replay.specs.CellJournals.{empty_state}
use Rattle.journal_replay.specs.JournalRules.{journal_rule}
use Rattle.cell_replay.specs.Checking.{check_rule, counts}
use Rattle.cell_replay.specs.FormReadings.{HasReadFew, by_towers, by_whole, spelling_rule, without_input}
use Rattle.cell_replay.specs.WholeDemand.{Migrating, Auditing}
use Rattle.cell_replay.specs.declared.forms.Form.{Form}
use Rattle.cell_replay.specs.declared.forms.Form.TheVariants as form

-- how each reads, and what an input demands of it, from its start: a script is replayed on a cell
-- without houses, by a clerk that keeps so many answers, or with empty journals; a script is
-- counted; and `load` reads nothing
abbrev pub reading_of : Form → Reading
reading_of form.Run = by_lines (dialogue_rule run_dialogue) empty_cell
reading_of form.Check = by_lines check_rule (counts 0 0)
reading_of (form.Load rounds) = without_input (load_text rounds)
reading_of (form.Clerk room) = by_lines (dialogue_rule clerk_dialogue) (start room)
reading_of form.Towers = by_towers
reading_of form.Untowers = by_lines spelling_rule tt
reading_of form.Migrate = by_whole Migrating
reading_of form.Inquire = by_lines (dialogue_rule inquire_dialogue) empty_cell
reading_of (form.Audit dir) = by_whole (Auditing dir)
reading_of form.Journal = by_lines journal_rule empty_state

-- a form that reads nothing
abbrev pub ReadsNothing : Option Form → Type 0
ReadsNothing (Some (form.Load rounds)) = Unit {0}
ReadsNothing other = ⊥

-- a form that reads its whole input reads at most one octet more than it may have, whatever the
-- ending
abbrev pub ReadsFew : Form → Run → Type 0
ReadsFew form.Migrate run = HasReadFew run
ReadsFew (form.Audit dir) run = HasReadFew run
ReadsFew other run = Unit {0}

-- a form that keeps no journals
abbrev pub HasNoJournals : Form → Type 0
HasNoJournals form.Journal = ⊥
HasNoJournals other = Unit {0}

-- the endings of such a form that no failed call causes
abbrev pub IsCalmEnding : Status → Type 0
IsCalmEnding AllRead = Unit {0}
IsCalmEnding Usage = Unit {0}
IsCalmEnding BadInput = Unit {0}
IsCalmEnding ReadFault = ⊥
IsCalmEnding WriteFault = ⊥
IsCalmEnding OutOfMemory = Unit {0}
IsCalmEnding JournalFull = ⊥
