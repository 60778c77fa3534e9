use Rattle.std.proofs.Common.{◌≡◌, ◌⊎◌, ◌<◌, ◌-◌, ℕ, List}
use Rattle.std.specs.Prelude.{None}
use Rattle.cds_base.specs.Lines.{lines_so_far, fault_of_lines}
use Rattle.cds_base.specs.declared.lines.Lines.{Lines}
use Rattle.house_segments.specs.Segments.{IsAt, size_of}
use Rattle.house_segments.specs.declared.segment.Segment.{Segment}
use Rattle.cds_base.specs.RunEnds.{run_of}
use Rattle.house_serving.specs.Serving.{course, first_records, moment}
use Rattle.house_serving.proofs.Runs.{IsBetween}
use Rattle.house_serving.proofs.serving.serve.Given as goal

-- the run is between two lines, whatever records the segment had, and no fault was met; and the
-- segment is as it was, or has not grown
pub record IsGoingOn {D : Type 0} (Starts Between : List ℕ → List (List ℕ) → Type 0) (lines : Lines) (segment segment' : Segment D) (most : ℕ) : Type 0 where
  pub between : (before : List ℕ) (bodies : List (List ℕ)) → Starts before bodies → Between before bodies
  pub unbroken : fault_of_lines lines ≡ None
  pub small : (segment' ≡ segment) ⊎ (size_of segment' < most)

abbrev pub invariant-lines : goal.invariant-lines
invariant-lines g l =
    IsGoingOn
    (λ before bodies. IsAt g.D.Disk l.fn.segment before bodies)
    (λ before bodies. IsBetween g.R.Responder.responds g.D.Disk (first_records before bodies) (course (moment l.fn.house l.fn.segment l.fn.lines) (moment l.house l.segment l.lines) (run_of g.S.Source g.K.Sink l.fn.source l.source l.fn.sink l.sink)))
    l.lines l.fn.segment l.segment l.most

abbrev pub decreases-lines : goal.decreases-lines
decreases-lines g l = 16777217 - lines_so_far l.lines
