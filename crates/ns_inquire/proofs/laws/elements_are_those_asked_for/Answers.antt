use Rattle.ns_inquire.proofs.Picks.{picked_exactly}
use Rattle.ns_inquire.proofs.laws.elements_are_those_asked_for.Goals as goal

pub returns : goal.returns
returns c = picked_exactly
