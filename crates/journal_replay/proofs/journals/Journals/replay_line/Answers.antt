use Rattle.cell_script.specs.Words.{words_of}
use Rattle.journal_forms.specs.JournalLines.{said_in}
use Rattle.journal_replay.specs.CellJournals.{puts_by}
use Rattle.journal_replay.proofs.Putting.{putting_at_start}
use Rattle.journal_replay.proofs.FullTold.{fault_tells}
use Rattle.journal_replay.proofs.DiskUses.{fault_calls}
use Rattle.journal_replay.proofs.journals.Journals.replay_line.Goals as goal

pub returns-in-Err-OutOfMemory-clause-disks : goal.returns-in-Err-OutOfMemory-clause-disks
returns-in-Err-OutOfMemory-clause-disks c s stands =
    putting_at_start c.args.self.now.keeper.disks.items s.lists (puts_by s (said_in (words_of c.args.line.now))) stands.stands.disks

pub returns-in-Err-Fault-clause-full : goal.returns-in-Err-Fault-clause-full
returns-in-Err-Fault-clause-full c = fault_tells c.reply_to_fault.result _ _ _ c.args.self.now.keeper.full c.reply_to_fault.ensures

pub returns-in-Err-Fault-clause-calls : goal.returns-in-Err-Fault-clause-calls
returns-in-Err-Fault-clause-calls c s stands = fault_calls c.reply_to_fault.result _ _ _ s _ _ _ c.reply_to_fault.ensures
