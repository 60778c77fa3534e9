-- By what a run says of its stamps.
use Rattle.own_stamps.proofs.Given.{gave_theirs}
use Rattle.own_stamps.proofs.laws.houses_gave_their_stamps.Goals as goal

pub returns : goal.returns
returns c = gave_theirs
