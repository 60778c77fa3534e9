use Rattle.std.proofs.Common.{take}
use Rattle.explain_program.specs.Folders.{HasReadAll}
use Rattle.explain_program.proofs.folder.read_segments.Given as goal

abbrev pub invariant-loop-octets : goal.invariant-loop-octets
invariant-loop-octets l = HasReadAll (take l.octets-index l.segments) l.reader
