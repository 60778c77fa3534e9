use Rattle.clerk_laws.proofs.ShowsRead.{show_heard}
use Rattle.clerk_laws.proofs.laws.shows_are_read_back.Goals as goal

pub returns : goal.returns
returns c = show_heard
