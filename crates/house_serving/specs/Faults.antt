-- The lines of faults of octets.
use Rattle.std.specs.Prelude.{ℕ, ◌+◌, nat_lt, if◌then◌else◌, List, [], ◌∷◌, ◌++◌, codes, decimal}
use Rattle.cds_base.specs.declared.scan.LineFault.{LineFault}
use Rattle.cds_base.specs.declared.scan.LineFault.TheVariants.{LineTooLong, NotAscii, NoLineEnd, TooManyLines, ReadFault}
use Rattle.house_serving.specs.declared.faults.TheConstants.{MOST_LINE}

-- the fault of a line that is too long for a house
abbrev pub too_long : (number : ℕ) → LineFault
too_long number = LineTooLong number (MOST_LINE + 1)

-- the fault that a house shows for one that lines show
abbrev pub fault_of_house : LineFault → LineFault
fault_of_house (LineTooLong number place) = too_long number
fault_of_house (NotAscii number place) =
    if nat_lt MOST_LINE place then too_long number else NotAscii number place
fault_of_house (NoLineEnd number place) =
    if nat_lt (MOST_LINE + 1) place then too_long number else NoLineEnd number place
fault_of_house (TooManyLines number place) = TooManyLines number place
fault_of_house ReadFault = ReadFault

-- the line of a fault: its name and its place
abbrev pub placed_fault_text : (number : ℕ) → (name : List ℕ) → (place : ℕ) → List ℕ
placed_fault_text number name place =
    decimal number ++ (codes " fault " ++ (name ++ (32 ∷ (decimal place ++ 10 ∷ []))))

-- the line of a fault of octets; of a failed read nothing
abbrev pub fault_line_text : LineFault → List ℕ
fault_line_text (LineTooLong number place) = placed_fault_text number (codes "LineTooLong") place
fault_line_text (NotAscii number place) = placed_fault_text number (codes "NotAscii") place
fault_line_text (NoLineEnd number place) = placed_fault_text number (codes "NoLineEnd") place
fault_line_text (TooManyLines number place) = placed_fault_text number (codes "TooManyLines") place
fault_line_text ReadFault = []
