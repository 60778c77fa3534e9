-- How a form ends at a faulty line.
use Rattle.std.proofs.Common.{List, ℕ}
use Rattle.reply_buffer.specs.declared.replies.LineEnd.{LineEnd}
use Rattle.reply_buffer.specs.declared.replies.LineEnd.TheVariants as line
use Rattle.reply_buffer.specs.Responses.{Stops}
use Rattle.reply_buffer.specs.LineEnds.{Ends, Faults}

-- in whichever state, whatever would follow
pub faults_end : {S : Type 0} (end : LineEnd) (text waited waits : List ℕ) (Then : S → Type 0) → Faults end text waited waits
    → Ends end (Stops text) waited waits Then
faults_end line.GoesOn text waited waits Then faults = absurd faults
faults_end line.Stops text waited waits Then faults = faults
faults_end line.NoMemory text waited waits Then faults = faults
faults_end line.Full text waited waits Then faults = absurd faults
