use Rattle.cds_stamps.proofs.NameLaws.{simple_name_laws}
use Rattle.cds_stamps.proofs.laws.simple_names_have_no_fault.Goals as goal

pub returns : goal.returns
returns c = simple_name_laws
