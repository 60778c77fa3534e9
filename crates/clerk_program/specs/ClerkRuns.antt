-- A run of `cdsclerk`: the lines that it read, and what it said to each. Own.
use Rattle.std.specs.Prelude.{◌≡◌, ◌≢◌, ◌⊎◌, ℕ, ◌+◌, ◌≤◌, List, [], ◌∷◌, ◌++◌, length, Option, Some, None}
use Rattle.std.specs.Io.KnownBytes.{Consumes, Appends, IsAtEnd}
use Rattle.cds_base.specs.LineFaults.{IsLine}
use Rattle.cds_base.specs.Lines.{HasFault}
use Rattle.cds_base.specs.RunEnds.{Run}
use Rattle.cds_base.specs.declared.lines.TheConstants.{MOST_HELD}
use Rattle.cds_base.specs.declared.scan.LineFault.{LineFault}
use Rattle.cds_base.specs.declared.scan.LineFault.TheVariants as fault
use Rattle.cds_stamps.specs.declared.numbers.HouseNo.{HouseNo}
use Rattle.line_forms.specs.declared.endings.Status.{Status}
use Rattle.line_forms.specs.declared.endings.Status.TheVariants.{Ok as AllRead, Usage, BadInput, ReadFault, WriteFault, OutOfMemory, JournalFull}
use Rattle.line_forms.specs.Leaving.{text_of}
use Rattle.line_forms.specs.Runs.{IsCalm, ReadFailed, WriteFailed}
use Rattle.clerk_turns.specs.declared.clerk.Clerk.{Clerk}
use Rattle.clerk_turns.specs.Turns.{IsTurn}
use Rattle.clerk_program.specs.ProgramWords.{near_first}

-- a clerk that has no command, and asked nothing yet
pub record IsNew (first : HouseNo) (houses : List HouseNo) (c : Clerk) : Type 0 where
  pub near : c.near ≡ first
  pub asks : c.houses.items ≡ near_first first houses
  pub root : c.root ≡ None
  pub asked : c.asked ≡ 0
  pub jobs : c.jobs.items ≡ []
  pub questions : c.questions.items ≡ []

-- from this clerk on, these lines are taken one after the other; all this is said and asked, and
-- the clerk is so after them
pub data Talk (first : Clerk) : (lines : List (List ℕ)) → (text : List ℕ) → (at : Clerk)
    → Type 0 where
  begins : Talk first [] [] first
  goes_on : {lines : List (List ℕ)} {text : List ℕ} {at : Clerk} → (line said : List ℕ)
      → (after : Clerk) → Talk first lines text at → IsLine (length lines + 1) line
      → IsTurn at line said after → Talk first (lines ++ line ∷ []) (text ++ said) after

-- ---- what was read and written

-- of the octets that were read, these lines come first; all that a clerk says to them was written,
-- and this after it
pub record Works (first : Clerk) (run : Run) : Type 0 where
  pub lines : List (List ℕ)
  pub text : List ℕ
  pub at : Clerk
  pub rest : List ℕ
  pub over : List ℕ
  pub talk : Talk first lines text at
  pub taken : Consumes run.left run.left' (text_of lines ++ rest)
  pub written : Appends run.written run.written' (text ++ over)

-- the number of the line that follows
abbrev pub next_number : {first : Clerk} → {run : Run} → Works first run → ℕ
next_number w = length w.lines + 1

-- no line follows: the octets that come next show why, or those and the end of the input
abbrev pub IsBad : {first : Clerk} → {run : Run} → Works first run → Type 0
IsBad {run = run} w =
    (f : LineFault) × (f ≢ fault.ReadFault) × HasFault (next_number w) w.rest run.left' f

-- no whole line was left: the octets that come next are the beginning of one, or none
abbrev pub IsNoneLeft : {first : Clerk} → {run : Run} → Works first run → Type 0
IsNoneLeft {run = run} w = HasFault (next_number w) w.rest run.left' fault.ReadFault

-- the line that follows was taken, and little was read beyond it
pub record TakesOne (number : ℕ) (rest line : List ℕ) : Type 0 where
  pub behind : List ℕ
  pub splits : rest ≡ (line ++ 10 ∷ []) ++ behind
  pub is_line : IsLine number line
  pub few : length behind ≤ MOST_HELD

-- of what is said to the line that follows a front was written, and not all
pub record IsCutShort {first : Clerk} {run : Run} (w : Works first run) : Type 0 where
  pub line : List ℕ
  pub said : List ℕ
  pub after : Clerk
  pub missing : List ℕ
  pub takes : TakesOne (next_number w) w.rest line
  pub turn : IsTurn w.at line said after
  pub cut : said ≡ w.over ++ missing
  pub some : missing ≢ []

-- at most one line more was taken, and little was read beyond
abbrev pub IsSoon : {first : Clerk} → {run : Run} → Works first run → Type 0
IsSoon w =
    (length w.rest ≤ MOST_HELD) ⊎ ((line : List ℕ) × TakesOne (next_number w) w.rest line)

-- ---- how it ends

-- How a run ends, by its status: at the end of the input; at a line that is none; at a read that
-- failed; at a write that failed; or where memory ran out
abbrev pub RunEnds : Clerk → Run → Status → Type 0
RunEnds first run AllRead =
    (w : Works first run) × (w.rest ≡ []) × (w.over ≡ []) × IsAtEnd run.left' × IsCalm run
RunEnds first run BadInput = (w : Works first run) × IsBad w × (w.over ≡ []) × IsCalm run
RunEnds first run ReadFault = (w : Works first run) × IsNoneLeft w × (w.over ≡ []) × ReadFailed run
RunEnds first run WriteFault = (w : Works first run) × IsCutShort w × WriteFailed run
RunEnds first run OutOfMemory = (w : Works first run) × IsSoon w × (w.over ≡ []) × IsCalm run
RunEnds first run Usage = ⊥
RunEnds first run JournalFull = ⊥

-- memory ran out before anything was read or written; or a clerk of these houses that had no
-- command worked so
abbrev pub ClerkEnds : HouseNo → List HouseNo → Run → (Unread Unwritten : Type 0) → Status → Type 0
ClerkEnds near houses run Unread Unwritten status =
    ((status ≡ OutOfMemory) × Unread × Unwritten)
    ⊎ ((first : Clerk) × IsNew near houses first × RunEnds first run status)

-- the first of the houses is the near one; there has to be one
abbrev pub HousesEnd : List HouseNo → Run → (Unread Unwritten : Type 0) → Status → Type 0
HousesEnd [] run Unread Unwritten status = (status ≡ Usage) × Unread × Unwritten
HousesEnd (near ∷ houses) run Unread Unwritten status =
    ClerkEnds near houses run Unread Unwritten status

-- how a program ends whose words name these houses, or do not name houses; if memory runs out it
-- may end before it knows
abbrev pub WordsEnd : Option (List HouseNo) → Run → (Unread Unwritten : Type 0) → Status → Type 0
WordsEnd None run Unread Unwritten status =
    ((status ≡ Usage) ⊎ (status ≡ OutOfMemory)) × Unread × Unwritten
WordsEnd (Some houses) run Unread Unwritten status =
    ((status ≡ OutOfMemory) × Unread × Unwritten) ⊎ HousesEnd houses run Unread Unwritten status
