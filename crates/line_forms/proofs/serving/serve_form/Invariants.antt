use Rattle.std.proofs.Common.{ℕ, ◌≡◌, ◌-◌, ◌≤◌}
use Rattle.std.specs.Prelude.{None}
use Rattle.cds_base.specs.Lines.{lines_so_far, octets_ahead, fault_of_lines}
use Rattle.cds_base.specs.declared.lines.Lines.{Lines}
use Rattle.reply_buffer.specs.declared.replies.LineEnd.TheVariants as end
use Rattle.line_forms.proofs.LinesLeft.{LinesSo}
use Rattle.line_forms.proofs.Turns.{IsBetween}
use Rattle.line_forms.proofs.serving.serve_form.Given as goal

-- the run is between two lines, whatever state it began in, and the form at the state after those
-- lines; no fault was met, and no line that is to come was counted; and what held of the form at
-- first holds now
pub record IsGoingOn {S : Type 0} (Between So Starts : S → Type 0) (lines : Lines) (count : ℕ) (First Now : Type 0) : Type 0 where
  pub between : (state : S) → Starts state → Between state
  pub so : (state : S) → Starts state → So state
  pub unbroken : fault_of_lines lines ≡ None
  pub counted : count ≤ lines_so_far lines
  pub holds : (state : S) → Starts state → First → Now

abbrev pub invariant-lines : goal.invariant-lines
invariant-lines g l =
    IsGoingOn
    (λ state. IsBetween g.F.LineForm.rule state (g.S.Source.left l.fn.source) (g.S.Source.left l.source) (g.K.Sink.written l.fn.sink) (g.K.Sink.written l.sink)
    (g.S.Source.faults l.fn.source) (g.S.Source.faults l.source) (g.K.Sink.faults l.fn.sink) (g.K.Sink.faults l.sink) l.lines (g.F.LineForm.is_at l.form) l.waiting)
    (λ state. (at : g.F.LineForm.State) × g.F.LineForm.is_at l.form at × LinesSo g.F.LineForm.rule state (g.S.Source.left l.fn.source) (g.S.Source.left l.source) (g.K.Sink.written l.fn.sink)
    (g.K.Sink.written l.sink) (octets_ahead l.lines) l.waiting (lines_so_far l.lines) at)
    (λ state. g.F.LineForm.is_at l.fn.form state)
    l.lines
    (g.F.LineForm.counted l.form)
    (g.F.LineForm.holds end.GoesOn l.fn.form)
    (g.F.LineForm.holds end.GoesOn l.form)

abbrev pub decreases-lines : goal.decreases-lines
decreases-lines g l = 16777217 - lines_so_far l.lines
