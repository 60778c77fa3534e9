use Rattle.journal_replay.specs.CellJournals.{empty_state}
use Rattle.journal_replay.specs.JournalRules.{journal_rule}
use Rattle.line_forms.proofs.Turns.{unread_lines}
use Rattle.cell_replay.proofs.replay.journal_over_new_disks.Goals as goal

pub returns-in-Err : goal.returns-in-Err
returns-in-Err g c = unread_lines journal_rule empty_state _ _ _ _
