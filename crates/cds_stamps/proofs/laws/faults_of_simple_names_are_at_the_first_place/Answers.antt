use Rattle.cds_stamps.proofs.NameFaults.{simple_name_empty, simple_name_octet, simple_name_long}
use Rattle.cds_stamps.proofs.laws.faults_of_simple_names_are_at_the_first_place.Goals as goal

pub returns-clause-empty : goal.returns-clause-empty
returns-clause-empty c = simple_name_empty

pub returns-clause-octet : goal.returns-clause-octet
returns-clause-octet c = simple_name_octet

pub returns-clause-too_long : goal.returns-clause-too_long
returns-clause-too_long c = simple_name_long
