-- What lines are given, and when there is none. Own.
use Rattle.std.specs.Prelude.{◌≡◌, ◌≢◌, ◌⊎◌, ℕ, ◌+◌, ◌≤◌, ◌<◌, List, [], ◌∷◌, ◌++◌, length, take, drop, None, Some, Ok, Err, Result, IfSome, IsSome}
use Rattle.std.specs.declared.option.Option.{Option}
use Rattle.std.specs.Borrow.{Fml, MutBor}
use Rattle.std.specs.Io.BufRead.{Rests}
use Rattle.std.specs.Io.KnownBytes.{prepend_known, IsAtEnd}
use Rattle.cds_base.specs.Counts.{Rose}
use Rattle.cds_base.specs.SourceReading.{GrowsByReading}
use Rattle.cds_base.specs.Buffers.{octets_in}
use Rattle.cds_base.specs.LineFaults.{AreClean, IsLine, ShowsFault, ShowsAnswer, BeginsWithLine}
use Rattle.cds_base.specs.declared.scan.LineFault.{LineFault}
use Rattle.cds_base.specs.declared.scan.LineFault.TheVariants.{NoLineEnd, ReadFault}
use Rattle.cds_base.specs.declared.lines.TheConstants.{MOST_HELD}
use Rattle.cds_base.specs.declared.lines.Lines.{Lines}
use Rattle.cds_base.specs.declared.lines.Line.{Line}
use Rattle.cds_base.specs.contracts.lines.Lines.{the_row}

-- ---- what lines are to their callers

-- the octets that were taken from the source and not given yet
abbrev pub octets_ahead : Lines → List ℕ
octets_ahead lines = octets_in lines.buffer

-- how many lines were given
abbrev pub lines_so_far : Lines → ℕ
lines_so_far lines = lines.number

-- the fault that was answered, which each later call answers again
abbrev pub fault_of_lines : Lines → Option LineFault
fault_of_lines lines = lines.fault

-- what is still to be given, where the source tells what it has left
abbrev pub rest_of : Lines → Option (List ℕ) → Option (List ℕ)
rest_of lines left = prepend_known (octets_ahead lines) left

-- nothing was taken and nothing given yet
pub record IsFresh (lines : Lines) : Type 0 where
  pub empty : octets_ahead lines ≡ []
  pub number : lines_so_far lines ≡ 0
  pub fault : fault_of_lines lines ≡ None

-- the next answer is known without the source: a fault is kept, or the octets held show a line or a
-- fault
abbrev pub IsReady : Lines → Type 0
IsReady lines = IsSome (fault_of_lines lines) ⊎ ShowsAnswer (lines_so_far lines + 1) (octets_ahead lines)

-- ---- one answer

-- why line number is not given, where these octets of it are held and the source has this left:
-- a read failed; the input ends within the line; or the octets show the fault
abbrev pub HasFault : ℕ → List ℕ → Option (List ℕ) → LineFault → Type 0
HasFault number octets left ReadFault = AreClean number 1 octets
HasFault number octets left (NoLineEnd n place) =
    IsAtEnd left × AreClean number 1 octets × (0 < length octets) × (n ≡ number) × (place ≡ length octets + 1)
HasFault number octets left fault = ShowsFault number fault octets

-- the answer about line number, by the octets held and left before and after it: a line and its end
-- are taken off in front; nothing is left; or there is a fault
abbrev pub Answers : ℕ → Option (List ℕ) → Option (List ℕ) → List ℕ → List ℕ → Result (Option (ℕ × List ℕ)) LineFault → Type 0
Answers number left left' octets octets' (Ok (Some line)) =
    (line.0 ≡ number) × IsLine number line.1 × GrowsByReading left left' octets ((line.1 ++ 10 ∷ []) ++ octets')
Answers number left left' octets octets' (Ok None) = GrowsByReading left left' octets octets' × (octets' ≡ []) × IsAtEnd left'
Answers number left left' octets octets' (Err fault) = GrowsByReading left left' octets octets' × HasFault number octets' left' fault

-- the count of failures rises at a fault of reading, and stays at all else
abbrev pub HasLineCause : {T : Type 0} → ℕ → ℕ → Result T LineFault → Type 0
HasLineCause before now (Err ReadFault) = (before ≤ now) × Rose before now
HasLineCause before now (Err fault) = now ≡ before
HasLineCause before now (Ok value) = now ≡ before

-- how many lines were given after an answer, and the fault that is kept
abbrev pub given_after : ℕ → Result (Option (ℕ × List ℕ)) LineFault → ℕ
given_after number (Ok (Some line)) = number + 1
given_after number (Ok None) = number
given_after number (Err fault) = number

-- the fault that is kept after a call
abbrev pub kept_after : Result (Option (ℕ × List ℕ)) LineFault → Option LineFault
kept_after (Ok value) = None
kept_after (Err fault) = Some fault

-- a call of next where no fault was kept
pub record IsNext (left left' : Option (List ℕ)) (old new : Lines) (result : Result (Option (ℕ × List ℕ)) LineFault) : Type 0 where
  pub answer : Answers (lines_so_far old + 1) left left' (octets_ahead old) (octets_ahead new) result
  pub number : lines_so_far new ≡ given_after (lines_so_far old) result
  pub fault : fault_of_lines new ≡ kept_after result

-- ---- the search for the next line

-- what is found of line number in the octets held: the length of a whole line, none at the end, or
-- a fault
abbrev pub FindsLine : ℕ → List ℕ → Option (List ℕ) → Result (Option ℕ) LineFault → Type 0
FindsLine number octets left (Ok (Some n)) = (n < length octets) × BeginsWithLine number (take n octets) (drop (n + 1) octets) octets
FindsLine number octets left (Ok None) = (octets ≡ []) × IsAtEnd left
FindsLine number octets left (Err fault) = HasFault number octets left fault

-- what is found where the input ends and the octets held are clean: nothing, or a line without its
-- end
abbrev pub EndsInput : ℕ → List ℕ → Result (Option ℕ) LineFault → Type 0
EndsInput number octets (Ok (Some n)) = ⊥
EndsInput number octets (Ok None) = octets ≡ []
EndsInput number octets (Err fault) = (0 < length octets) × (fault ≡ NoLineEnd number (length octets + 1))

-- the place and the length of a line in the buffer, as the line
abbrev pub line_in : Lines → Option (ℕ × ℕ) → Option (ℕ × List ℕ)
line_in lines None = None
line_in lines (Some p) = Some (lines.number, take p.1 (drop p.0 lines.buffer.octets.items))

-- what was found by its place in the buffer, as the line that is there
abbrev pub found_line : Lines → Result (Option (ℕ × ℕ)) LineFault → Result (Option (ℕ × List ℕ)) LineFault
found_line lines (Ok o) = Ok (line_in lines o)
found_line lines (Err e) = Err e

-- ---- a call of next

-- a line as its caller sees it: its number and its octets
abbrev pub as_line : Option Line → Option (ℕ × List ℕ)
as_line None = None
as_line (Some line) = Some (line.number, line.octets.now)

-- the answer of a call as its caller sees it
abbrev pub seen_line : Result (Option Line) LineFault → Result (Option (ℕ × List ℕ)) LineFault
seen_line (Ok o) = Ok (as_line o)
seen_line (Err e) = Err e

-- what a call of next did to the source and to the lines, once the line that it gave is let go
pub record HasMoved {S : Type 0} (left : S → Option (List ℕ)) (faults : S → ℕ) (source source' : S) (old new : Lines)
    (result : Result (Option (ℕ × List ℕ)) LineFault) : Type 0 where
  pub next : fault_of_lines old ≡ None → IsNext (left source) (left source') old new result
  pub cause : fault_of_lines old ≡ None → HasLineCause (faults source) (faults source') result
  pub ready : IsReady old → (source' ≡ source) × (fault_of_lines old ≡ None → result ≢ Err ReadFault)
  pub few : length (octets_ahead new) ≤ MOST_HELD
  pub again : IfSome (fault_of_lines old) (λ fault. (result ≡ Err fault) × (new ≡ old) × (source' ≡ source))

-- the same where the line that was given still borrows the lines
abbrev pub LeavesNext : {S : Type 0} → (S → Option (List ℕ)) → (S → ℕ) → MutBor Lines → S → S → Result (Option (ℕ × List ℕ)) LineFault → Fml
LeavesNext left faults lines source source' result =
    Rests the_row lines (λ now. HasMoved left faults source source' lines.now now result)
