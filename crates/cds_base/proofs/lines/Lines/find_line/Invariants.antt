use Rattle.std.proofs.Common.{◌≡◌, ◌+◌, ◌-◌, length}
use Rattle.cds_base.specs.LineFaults.{ShowsAnswer}
use Rattle.cds_base.specs.Lines.{octets_ahead, lines_so_far, fault_of_lines}
use Rattle.cds_base.specs.SourceReading.{GrowsByReading}
use Rattle.cds_base.proofs.lines.Lines.find_line.Given as goal

-- the octets held grew by what was read, and where they showed an answer from the start nothing was
-- read
abbrev pub invariant-reads : goal.invariant-reads
invariant-reads g l = record {
  reads : GrowsByReading (g.S.Source.left l.fn.source) (g.S.Source.left l.source) (octets_ahead l.fn.self) (octets_ahead l.self);
  untouched : ShowsAnswer (lines_so_far l.fn.self + 1) (octets_ahead l.fn.self) → (l.source ≡ l.fn.source) × (octets_ahead l.self ≡ octets_ahead l.fn.self);
  faults : g.S.Source.faults l.source ≡ g.S.Source.faults l.fn.source;
  lines : lines_so_far l.self ≡ lines_so_far l.fn.self;
  fault : fault_of_lines l.self ≡ fault_of_lines l.fn.self;
}

abbrev pub decreases-reads : goal.decreases-reads
decreases-reads g l = 8192 - length (octets_ahead l.self)
