-- The line of a fault of octets.
use Rattle.std.specs.Prelude.{ℕ, List, [], codes}
use Rattle.cds_base.specs.declared.scan.LineFault.{LineFault}
use Rattle.cds_base.specs.declared.scan.LineFault.TheVariants as line
use Rattle.script_answers.specs.Texts.{fault_text}

-- its name and its place; a failed read has no line and no place, and no text
abbrev pub line_fault_text : LineFault → List ℕ
line_fault_text (line.LineTooLong number place) = fault_text number (codes "LineTooLong") place
line_fault_text (line.NotAscii number place) = fault_text number (codes "NotAscii") place
line_fault_text (line.NoLineEnd number place) = fault_text number (codes "NoLineEnd") place
line_fault_text (line.TooManyLines number place) = fault_text number (codes "TooManyLines") place
line_fault_text line.ReadFault = []
