use Rattle.std.proofs.Common.{arith}
use Rattle.ns_profiles.proofs.ElementLaws.{whole_from}
use Rattle.ns_profiles.proofs.element.interface_of.Goals as goal

pub slice_bounds-uuid_of-end : goal.slice_bounds-uuid_of-end
slice_bounds-uuid_of-end c = let long = (whole_from c.args.octets.now c.requires).long in omega arith

pub slice_bounds-number_of-end : goal.slice_bounds-number_of-end
slice_bounds-number_of-end c = let long = (whole_from c.args.octets.now c.requires).long in omega arith

pub slice_bounds-number_of-end-2 : goal.slice_bounds-number_of-end-2
slice_bounds-number_of-end-2 c = let long = (whole_from c.args.octets.now c.requires).long in omega arith
