use Rattle.line_forms.specs.Readings.{by_lines}
use Rattle.line_forms.proofs.Calm.{ends_calmly}
use Rattle.line_forms.proofs.laws.calm_runs_meet_no_failed_call.Goals as goal

pub returns : goal.returns
returns g c state = ends_calmly (by_lines g.F.LineForm.rule state)
