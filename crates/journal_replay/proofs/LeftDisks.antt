-- What is on the disks after a line that the form does not go on from.
use Rattle.std.proofs.Common.{◌≡◌, Bool, false, subst, ◌∙◌}
use Rattle.std.specs.Prelude.{Option, Result}
use Rattle.cell_script.specs.declared.fault.ParseFault.{ParseFault}
use Rattle.journal_forms.specs.declared.journal_line.JournalLine.{JournalLine}
use Rattle.reply_buffer.specs.declared.replies.LineEnd.{LineEnd}
use Rattle.reply_buffer.specs.declared.replies.LineEnd.TheVariants as line
use Rattle.line_forms.specs.Lines.{IsShort}
use Rattle.journal_replay.specs.CellDisks.{ArePutting, HoldAll}
use Rattle.journal_replay.specs.CellJournals.{JournaledCell, puts_by}
use Rattle.journal_replay.specs.JournalRules.{is_full}
use Rattle.journal_replay.specs.Keeping.{LeavesDisks, TellsRoom}
use Rattle.journal_replay.specs.declared.journals.Journals.{Journals}

-- where no journal was full before, one is now exactly if the line ended for that
pub room_known : (end : LineEnd) (before after : Bool) → before ≡ false → TellsRoom end before after → after ≡ is_full end
room_known line.GoesOn before after none same = same ∙ none
room_known line.Stops before after none same = same ∙ none
room_known line.NoMemory before after none same = same ∙ none
room_known line.Full before after none full = full

module _ (j : Journals) (s : JournaledCell) (said : Result (Option JournalLine) ParseFault) where
  -- a faulty line leaves them as they were
  pub stopped_disks : (end : LineEnd) → LeavesDisks end s said j → end ≡ line.Stops → HoldAll j.keeper.disks.items s.lists
  stopped_disks end leaves is = subst (λ e. LeavesDisks e s said j) is leaves

  -- a line that is given up has its puts under way
  pub short_disks : (end : LineEnd) → LeavesDisks end s said j → IsShort end → ArePutting j.keeper.disks.items s.lists (puts_by s said)
  short_disks line.NoMemory leaves short = leaves
  short_disks line.Full leaves short = leaves
  short_disks line.GoesOn leaves short = absurd short
  short_disks line.Stops leaves short = absurd short
