use Rattle.std.proofs.Common.{inr, refl}
use Rattle.cds_base.proofs.Scans.{line_not_clean, fault_not_clean}
use Rattle.cds_base.proofs.lines.Lines.has_line.Goals as goal

pub returns-in-Line : goal.returns-in-Line
returns-in-Line c = (λ yes. inr (line_not_clean _ _ _ _ c.in-Line.ensures.1), λ ready. refl)

pub returns-in-Fault : goal.returns-in-Fault
returns-in-Fault c = (λ yes. inr (fault_not_clean _ _ _ c.in-Fault.ensures), λ ready. refl)
