use Rattle.std.proofs.Common.{◌-◌}
use Rattle.cds_base.specs.Lines.{lines_so_far}
use Rattle.cds_base.specs.RunEnds.{run_of}
use Rattle.clerk_program.proofs.Runs.{IsBetween}
use Rattle.clerk_program.proofs.serving.serve_lines.Given as goal

-- the run is between two lines
abbrev pub invariant-lines : goal.invariant-lines
invariant-lines g l =
    IsBetween l.fn.clerk l.clerk l.lines (run_of g.S.Source g.K.Sink l.fn.source l.source l.fn.sink l.sink)

abbrev pub decreases-lines : goal.decreases-lines
decreases-lines g l = 16777217 - lines_so_far l.lines
