use Rattle.line_forms.proofs.Calm.{ends_calmly}
use Rattle.cell_replay.specs.Forms.{reading_of}
use Rattle.cell_replay.proofs.laws.calm_runs_meet_no_failed_call.Goals as goal

pub returns : goal.returns
returns c form = ends_calmly (reading_of form)
