use Rattle.std.proofs.Common.{arith}
use Rattle.ns_profiles.proofs.ElementLaws.{whole_from}
use Rattle.ns_profiles.proofs.element.name_end.Goals as goal

pub slice_bounds-number_of-end : goal.slice_bounds-number_of-end
slice_bounds-number_of-end c = let long = (whole_from c.args.octets.now c.requires).long in omega arith

pub returns-clause-within : goal.returns-clause-within
returns-clause-within c = let long = (whole_from c.args.octets.now c.requires).long in omega arith
