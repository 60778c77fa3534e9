-- How a run of a form ends.
use Rattle.std.specs.Prelude.{◌≡◌, ◌⊎◌, ℕ, ◌≤◌, ◌<◌, List, [], ◌++◌, length, Option}
use Rattle.std.specs.Io.KnownBytes.{Consumes, Appends}
use Rattle.cds_base.specs.Counts.{Rose}
use Rattle.cds_base.specs.RunEnds.{IsFront, Run}
use Rattle.line_forms.specs.declared.endings.Status.{Status}
use Rattle.line_forms.specs.declared.endings.Status.TheVariants.{Ok as AllRead, Usage, BadInput, ReadFault, WriteFault, OutOfMemory, JournalFull}
use Rattle.line_forms.specs.Demand.{Demand, Sound, Faulty, CutShort, Filled, IsUnbroken}
use Rattle.line_forms.specs.Readings.{Reading}

-- xs is a front of ys, and something is missing
abbrev pub Lacks : List ℕ → List ℕ → Type 0
Lacks xs ys = IsFront xs ys × (length xs < length ys)

-- the number that the process ends with
abbrev pub code_of : Status → ℕ
code_of AllRead = 0
code_of Usage = 2
code_of BadInput = 3
code_of ReadFault = 4
code_of WriteFault = 5
code_of OutOfMemory = 6
code_of JournalFull = 7

-- ---- a run from outside

-- no call failed: neither count rose
abbrev pub IsCalm : Run → Type 0
IsCalm run = (run.reads' ≡ run.reads) × (run.writes' ≡ run.writes)

-- a read failed, and no write
abbrev pub ReadFailed : Run → Type 0
ReadFailed run = Rose run.reads run.reads' × (run.writes' ≡ run.writes)

-- a write failed, and no read
abbrev pub WriteFailed : Run → Type 0
WriteFailed run = Rose run.writes run.writes' × (run.reads' ≡ run.reads)

-- the endings that no failed call causes
abbrev pub NoCallFailed : Status → Type 0
NoCallFailed AllRead = Unit {0}
NoCallFailed Usage = Unit {0}
NoCallFailed BadInput = Unit {0}
NoCallFailed ReadFault = ⊥
NoCallFailed WriteFault = ⊥
NoCallFailed OutOfMemory = Unit {0}
NoCallFailed JournalFull = Unit {0}

-- ---- what is written, by what the octets read demand

-- the body and the end, and nothing is faulty
abbrev pub IsWhole : Demand → List ℕ → Type 0
IsWhole d text = (d.verdict ≡ Sound) × (text ≡ d.body ++ d.end)

-- up to the first fault, whose line is in the body where it shows, and at the end where it is that
-- the input ends; Done says that nothing is left
abbrev pub IsFaulty : (Done : Type 0) → Demand → List ℕ → Type 0
IsFaulty Done d text = ((d.verdict ≡ Faulty) × (text ≡ d.body)) ⊎ ((d.verdict ≡ CutShort) × Done × (text ≡ d.body ++ d.end))

-- the whole body, where no fault shows and no journal lacks room
abbrev pub IsBody : Demand → List ℕ → Type 0
IsBody d text = (text ≡ d.body) × IsUnbroken d.verdict

-- the whole body, up to a line that finds no room in a journal
abbrev pub IsFilled : Demand → List ℕ → Type 0
IsFilled d text = (d.verdict ≡ Filled) × (text ≡ d.body)

-- a front of the body, or of the body and the end where nothing is left
abbrev pub IsPart : (Done : Type 0) → Demand → List ℕ → Type 0
IsPart Done d text = IsFront text d.body ⊎ (Done × IsFront text (d.body ++ d.end))

-- of the body something is missing; or of the body and the end where nothing is left
abbrev pub IsCutShort : (Done : Type 0) → Demand → List ℕ → Type 0
IsCutShort Done d text = Lacks text d.body ⊎ (Done × Lacks text (d.body ++ d.end))

-- of the octets that were read, P says what was written
pub record Wrote (form : Reading) (run : Run) (P : Demand → List ℕ → Type 0) : Type 0 where
  pub read : List ℕ
  pub text : List ℕ
  pub demand : Demand
  pub taken : Consumes run.left run.left' read
  pub written : Appends run.written run.written' text
  pub demands : form.demands read demand
  pub due : P demand text

-- where a read failed: the whole body of the octets that had come, in which no fault shows,
-- whatever those that came late demand
pub record WroteAllBefore (form : Reading) (run : Run) : Type 0 where
  pub octets : List ℕ
  pub came : List ℕ
  pub text : List ℕ
  pub demand : Demand
  pub with_came : Demand
  pub taken : Consumes run.left run.left' (octets ++ came)
  pub written : Appends run.written run.written' text
  pub demands : form.demands octets demand
  pub due : IsBody demand text
  pub late : form.came_late octets came
  pub later : form.demands (octets ++ came) with_came
  pub stays : IsFront text with_came.body

-- What was written is at least all that the octets in front demand; then comes one more line or
-- tower, of whose text not all was written, or none; and after it at most so many octets were read
pub record WroteSoon (form : Reading) (run : Run) : Type 0 where
  pub front : List ℕ
  pub one : List ℕ
  pub behind : List ℕ
  pub text : List ℕ
  pub demand : Demand
  pub taken : Consumes run.left run.left' (front ++ (one ++ behind))
  pub written : Appends run.written run.written' text
  pub demands : form.demands front demand
  pub answered : IsFront demand.body text
  pub at_once : (one ≡ []) ⊎ form.is_taken_at_once one
  pub soon : length behind ≤ form.read_ahead

-- The text is the whole body of the octets in front, in which no fault shows; then comes one more
-- line or tower, or none; and after it at most so many octets were read
pub record AnswersFront (form : Reading) (left left' : Option (List ℕ)) (text : List ℕ) : Type 0 where
  pub front : List ℕ
  pub one : List ℕ
  pub behind : List ℕ
  pub demand : Demand
  pub taken : Consumes left left' (front ++ (one ++ behind))
  pub demands : form.demands front demand
  pub due : IsBody demand text
  pub at_once : (one ≡ []) ⊎ form.is_taken_at_once one
  pub soon : length behind ≤ form.read_ahead

-- such a text was written
abbrev pub WroteAnswers : Reading → Run → Type 0
WroteAnswers form run = (text : List ℕ) × Appends run.written run.written' text
    × AnswersFront form run.left run.left' text

-- ---- how a run ends

-- How a run of a form ends, by its status: what was written of what was read, how much was read
-- ahead, and which call failed
abbrev pub Ended : Reading → Run → Status → Type 0
Ended form run AllRead = form.has_read_all run.left' × Wrote form run IsWhole × IsCalm run
Ended form run Usage = ⊥
Ended form run BadInput = Wrote form run (IsFaulty (form.has_read_all run.left')) × IsCalm run
Ended form run ReadFault = WroteAllBefore form run × WroteSoon form run × ReadFailed run
Ended form run WriteFault = Wrote form run (IsCutShort (form.has_read_all run.left')) × WroteSoon form run × WriteFailed run
Ended form run OutOfMemory = Wrote form run (IsPart (form.has_read_all run.left')) × WroteAnswers form run × IsCalm run
Ended form run JournalFull = Wrote form run IsFilled × IsCalm run
