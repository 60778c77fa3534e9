-- The lines of the faults of `towers`.
use Rattle.std.specs.Prelude.{ℕ, List, codes}
use Rattle.tower_codec.specs.declared.fault.TowerFault.TheVariants.{ShortCount, ShortLength, ShortPart, EmptyLeft}
use Rattle.script_answers.specs.Texts.{fault_text}
use Rattle.cell_replay.specs.declared.limits.TheConstants.{TOWER_SIGHT}
use Rattle.cell_replay.specs.declared.towers.StreamFault.{StreamFault}
use Rattle.cell_replay.specs.declared.towers.StreamFault.TheVariants as stream

-- the line of a fault: its name and its place, which counts the octets of the tower at fault
abbrev pub stream_fault_text : ℕ → StreamFault → List ℕ
stream_fault_text number (stream.Tower (ShortCount place)) = fault_text number (codes "ShortCount") place
stream_fault_text number (stream.Tower (ShortLength place)) = fault_text number (codes "ShortLength") place
stream_fault_text number (stream.Tower (ShortPart place)) = fault_text number (codes "ShortPart") place
stream_fault_text number (stream.Tower (EmptyLeft place)) = fault_text number (codes "EmptyLeft") place
stream_fault_text number stream.TooLong = fault_text number (codes "TooLong") TOWER_SIGHT
stream_fault_text number stream.TooManyTowers = fault_text number (codes "TooManyTowers") 1
