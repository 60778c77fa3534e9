use Rattle.mend_replay.proofs.Ready.{ready_is, is_ready_where}
use Rattle.mend_replay.proofs.laws.ready_directories.Goals as goal

pub returns : goal.returns
returns c g d = (λ yes. ready_is g d yes, λ ready. is_ready_where g d ready)
