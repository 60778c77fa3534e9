use Rattle.cds_stamps.proofs.NameFaults.{attr_name_first}
use Rattle.cds_stamps.proofs.laws.faults_of_attribute_names_are_at_the_first_place.Goals as goal

pub returns : goal.returns
returns c = attr_name_first
