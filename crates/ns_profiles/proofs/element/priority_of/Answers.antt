use Rattle.std.proofs.Common.{arith}
use Rattle.ns_profiles.proofs.ElementLaws.{whole_from}
use Rattle.ns_profiles.proofs.element.priority_of.Goals as goal

pub bounds-octets-0 : goal.bounds-octets-0
bounds-octets-0 c = let long = (whole_from c.args.octets.now c.requires).long in omega arith
