-- What a script is replayed for that is to be mended.
use Rattle.std.specs.Prelude.{ℕ, List}
use Rattle.cell_model.specs.Cells as model
use Rattle.cds_cell.specs.ModelCells.{Stands}
use Rattle.reply_buffer.specs.declared.replies.LineEnd.{LineEnd}
use Rattle.reply_buffer.specs.declared.replies.LineEnd.TheVariants as line
use Rattle.reply_buffer.specs.Responses.{ResponseOf}
use Rattle.reply_buffer.specs.LineEnds.{Ends}
use Rattle.mend_replay.specs.declared.mender.Mender.{Mender}

-- the cell goes on as the model's after the line
abbrev pub Mends : LineEnd → ResponseOf model.Cell → (waited waits : List ℕ) → Mender → Type 0
Mends end r waited waits m = Ends end r waited waits (Stands m.replayer.cell)

-- the work on a line went on, and this is so; or there was no memory
abbrev pub UnlessNoMemory : LineEnd → Type 0 → Type 0
UnlessNoMemory line.GoesOn P = P
UnlessNoMemory line.Stops P = ⊥
UnlessNoMemory line.NoMemory P = Unit {0}
UnlessNoMemory line.Full P = ⊥
