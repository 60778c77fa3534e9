use Rattle.house_logs.proofs.FollowLemmas.{no_text}
use Rattle.house_logs.proofs.reader.LogReader.take_turn.Goals as goal

pub returns-in_default-clause-refused : goal.returns-in_default-clause-refused
returns-in_default-clause-refused c = no_text c.args.self.now c.args.body.now (rw c.in_default.is at c.in_ok-parts.ensures)
