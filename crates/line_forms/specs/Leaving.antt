-- What a run over lines leaves of its form: the state after the lines that were answered.
use Rattle.std.specs.Prelude.{◌≡◌, ◌⊎◌, ℕ, ◌+◌, List, [], ◌∷◌, ◌++◌, length}
use Rattle.std.specs.Io.KnownBytes.{Consumes, Appends}
use Rattle.cds_base.specs.LineFaults.{IsLine}
use Rattle.reply_buffer.specs.Responses.{GoesOn, Stops, Fills}
use Rattle.reply_buffer.specs.declared.replies.LineEnd.{LineEnd}
use Rattle.reply_buffer.specs.declared.replies.LineEnd.TheVariants as line
use Rattle.line_forms.specs.Demand.{LineRule}
use Rattle.cds_base.specs.RunEnds.{IsFront, Run}
use Rattle.line_forms.specs.declared.endings.Status.{Status}
use Rattle.line_forms.specs.declared.endings.Status.TheVariants.{Ok as AllRead, Usage, BadInput, ReadFault, WriteFault, OutOfMemory, JournalFull}

-- lines, each with its end
abbrev pub text_of : List (List ℕ) → List ℕ
text_of [] = []
text_of (l ∷ ls) = (l ++ 10 ∷ []) ++ text_of ls

-- lines are answered one after another, from line number on; this is the text of all answers, and
-- the state after them
abbrev pub LeadsTo : {S : Type 0} → LineRule S → ℕ → S → (lines : List (List ℕ)) → (text : List ℕ) → (at : S) → Type 0
LeadsTo rule number state [] text at = (text ≡ []) × (at ≡ state)
LeadsTo {S} rule number state (l ∷ ls) text at =
    (said : List ℕ) × (next : S) × (behind : List ℕ) × IsLine number l × (rule.response number state l ≡ GoesOn said next) × (text ≡ said ++ behind)
    × LeadsTo rule (number + 1) next ls behind at

-- of the octets that were read, these lines come first, and were answered with this text; and this
-- was written
pub record LinesRead {S : Type 0} (rule : LineRule S) (state : S) (run : Run) : Type 0 where
  pub lines : List (List ℕ)
  pub text : List ℕ
  pub at : S
  pub rest : List ℕ
  pub out : List ℕ
  pub leads : LeadsTo rule 1 state lines text at
  pub taken : Consumes run.left run.left' (text_of lines ++ rest)
  pub written : Appends run.written run.written' out

-- the number of the line that follows
abbrev pub next_number : {S : Type 0} {rule : LineRule S} {state : S} {run : Run} → LinesRead rule state run → ℕ
next_number b = length b.lines + 1

-- no further line is answered: a whole line that comes first after those, if one does, is at fault
abbrev pub NoneFollows : {S : Type 0} {rule : LineRule S} {state : S} {run : Run} → LinesRead rule state run → Type 0
NoneFollows {rule = rule} b = (line more : List ℕ) → b.rest ≡ (line ++ 10 ∷ []) ++ more → IsLine (next_number b) line
    → (text : List ℕ) × (rule.response (next_number b) b.at line ≡ Stops text)

-- the form broke off at the line that comes first after those
pub record BreaksAt {S : Type 0} {rule : LineRule S} (Broken : ℕ → S → List ℕ → Type 0) {state : S} {run : Run} (b : LinesRead rule state run) (line : List ℕ) : Type 0 where
  pub more : List ℕ
  pub splits : b.rest ≡ (line ++ 10 ∷ []) ++ more
  pub is_line : IsLine (next_number b) line
  pub broken : Broken (next_number b) b.at line

-- the form is at the state after those lines, or broke off at the next one
abbrev pub IsLeft : {S : Type 0} → {rule : LineRule S} → (At : S → Type 0) → (Broken : ℕ → S → List ℕ → Type 0) → {state : S} → {run : Run} → LinesRead rule state run → Type 0
IsLeft At Broken b = At b.at ⊎ ((line : List ℕ) × BreaksAt Broken b line)

-- What a run leaves, by its status: the lines that were answered, and what was written of their
-- text; the form is at the state after them, by At, or broke off at the next line, by Broken. At
-- the first three of these endings the lines are all before the end of what was read, or before the
-- first one at fault; and at each ending those whose whole text was written are among them
abbrev pub Leaves : {S : Type 0} → LineRule S → (At : S → Type 0) → (Broken : ℕ → S → List ℕ → Type 0) → S → Run → Status → Type 0
Leaves rule At Broken state run AllRead = (b : LinesRead rule state run) × (b.rest ≡ []) × IsFront b.text b.out × At b.at
Leaves rule At Broken state run BadInput = (b : LinesRead rule state run) × NoneFollows b × IsFront b.text b.out × At b.at
Leaves rule At Broken state run ReadFault = (b : LinesRead rule state run) × NoneFollows b × (b.out ≡ b.text) × At b.at
Leaves rule At Broken state run WriteFault = (b : LinesRead rule state run) × (IsFront b.out b.text ⊎ NoneFollows b) × IsLeft At Broken b
Leaves rule At Broken state run OutOfMemory = (b : LinesRead rule state run) × (b.out ≡ b.text) × IsLeft At Broken b
Leaves rule At Broken state run JournalFull =
    (b : LinesRead rule state run) × (b.out ≡ b.text) × ((line : List ℕ) × BreaksAt Broken b line × (rule.response (next_number b) b.at line ≡ Fills))
Leaves rule At Broken state run Usage = ⊥

-- What holds of the form itself when a run over lines has ended, by its status; Holds says what
-- holds after a line that ended so
abbrev pub HoldsAt : (Holds : LineEnd → Type 0) → Status → Type 0
HoldsAt Holds AllRead = Holds line.GoesOn
HoldsAt Holds BadInput = Holds line.GoesOn ⊎ Holds line.Stops
HoldsAt Holds ReadFault = Holds line.GoesOn
HoldsAt Holds WriteFault = (end : LineEnd) × Holds end
HoldsAt Holds OutOfMemory = Holds line.GoesOn ⊎ Holds line.NoMemory
HoldsAt Holds JournalFull = Holds line.Full
HoldsAt Holds Usage = ⊥
