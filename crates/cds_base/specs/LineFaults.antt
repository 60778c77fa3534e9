-- Lines of a script, and the faults that octets show in them. Own. A line is at most 4,096 octets
-- from 0x20 to 0x7E and its end 0x0A; there are at most 16,777,216 lines.
use Rattle.std.specs.Prelude.{◌≡◌, ◌≢◌, ℕ, ◌+◌, ◌≤◌, ◌<◌, List, [], ◌∷◌, ◌++◌, length, Bool, nat_lt}
use Rattle.std.specs.Prelude.{◌==◌, ◌&&◌, if◌then◌else◌, None, Some, take, drop}
use Rattle.std.specs.declared.option.Option.{Option}
use Rattle.cds_base.specs.declared.scan.TheConstants.{LONGEST_LINE, MOST_LINES}
use Rattle.cds_base.specs.declared.scan.LineFault.{LineFault}
use Rattle.cds_base.specs.declared.scan.LineFault.TheVariants.{LineTooLong, NotAscii, TooManyLines}
use Rattle.cds_base.specs.declared.scan.Seen.{Seen}
use Rattle.cds_base.specs.declared.scan.Seen.TheVariants.{Line, Fault, More}

-- an octet that may stand in a line
abbrev pub is_printable : ℕ → Bool
is_printable octet = nat_lt 31 octet && nat_lt octet 127

-- the fault that an octet shows at this place of line number, both counted from 1
unfoldable pub fault_at : ℕ → ℕ → ℕ → Option LineFault
fault_at number place octet =
    if octet == 10 then (if nat_lt MOST_LINES number then Some (TooManyLines number place) else None)
    else (if nat_lt LONGEST_LINE place then Some (LineTooLong number place)
    else (if is_printable octet then (if nat_lt MOST_LINES number then Some (TooManyLines number place) else None)
    else Some (NotAscii number place)))

-- octets from this place on, none of which ends the line or is at fault
abbrev pub AreClean : ℕ → ℕ → List ℕ → Type 0
AreClean number place [] = Unit {0}
AreClean number place (octet ∷ octets) = (octet ≢ 10) × (fault_at number place octet ≡ None) × AreClean number (place + 1) octets

-- these are the octets of line number, without its end
abbrev pub IsLine : ℕ → List ℕ → Type 0
IsLine number octets = AreClean number 1 octets × (fault_at number (length octets + 1) 10 ≡ None)

-- the octets show this fault: clean octets come first, and the one after them is at fault
pub record ShowsFault (number : ℕ) (fault : LineFault) (octets : List ℕ) : Type 0 where
  pub front : List ℕ
  pub octet : ℕ
  pub rest : List ℕ
  pub split : octets ≡ front ++ octet ∷ rest
  pub clean : AreClean number 1 front
  pub shown : fault_at number (length front + 1) octet ≡ Some fault

-- a whole line and its end stand in front of the rest
abbrev pub BeginsWithLine : ℕ → List ℕ → List ℕ → List ℕ → Type 0
BeginsWithLine number line rest octets = (octets ≡ line ++ 10 ∷ rest) × IsLine number line

-- a line end or a fault is among the first octets of line number
abbrev pub ShowsAnswer : ℕ → List ℕ → Type 0
ShowsAnswer number octets = ¬ (AreClean number 1 octets)

-- what the octets held show of line number: a whole line of n octets, a fault, or neither yet
abbrev pub Sees : ℕ → List ℕ → Seen → Type 0
Sees number octets (Line n) = (n < length octets) × BeginsWithLine number (take n octets) (drop (n + 1) octets) octets
Sees number octets (Fault fault) = ShowsFault number fault octets
Sees number octets More = AreClean number 1 octets × (length octets ≤ LONGEST_LINE)
