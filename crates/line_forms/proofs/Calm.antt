-- What endings tell of calls that failed.
use Rattle.cds_base.specs.Counts.{Rose}
use Rattle.line_forms.specs.declared.endings.Status.{Status}
use Rattle.line_forms.specs.declared.endings.Status.TheVariants.{Ok as AllRead, Usage, BadInput, ReadFault, WriteFault, OutOfMemory, JournalFull}
use Rattle.line_forms.specs.Readings.{Reading}
use Rattle.cds_base.specs.RunEnds.{Run}
use Rattle.line_forms.specs.Runs.{Ended, NoCallFailed}

-- a run in which no count rose ends as one in which no call failed
pub ends_calmly : (form : Reading) (run : Run) (status : Status) → Ended form run status → ¬ (Rose run.reads run.reads')
    → ¬ (Rose run.writes run.writes') → NoCallFailed status
ends_calmly form run AllRead ended read wrote = tt
ends_calmly form run Usage ended read wrote = tt
ends_calmly form run BadInput ended read wrote = tt
ends_calmly form run ReadFault ended read wrote = absurd (read ended.2.0)
ends_calmly form run WriteFault ended read wrote = absurd (wrote ended.2.0)
ends_calmly form run OutOfMemory ended read wrote = tt
ends_calmly form run JournalFull ended read wrote = tt
