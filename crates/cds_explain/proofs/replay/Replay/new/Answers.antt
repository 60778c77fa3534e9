use Rattle.std.proofs.Common.{refl}
use Rattle.cds_explain.proofs.ReplayLemmas.{none_done}
use Rattle.cds_explain.proofs.replay.Replay.new.Goals as goal

pub returns : goal.returns
returns c = none_done _ c.new.ensures.items refl c.new-2.ensures.cell
