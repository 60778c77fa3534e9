use Rattle.ns_profiles.proofs.ReadBack.{element_fault-none}
use Rattle.ns_profiles.proofs.laws.elements_have_no_fault.Goals as goal

pub returns : goal.returns
returns c = element_fault-none
