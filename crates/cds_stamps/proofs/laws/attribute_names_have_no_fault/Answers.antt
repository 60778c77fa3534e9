use Rattle.cds_stamps.proofs.NameLaws.{attr_name_laws}
use Rattle.cds_stamps.proofs.laws.attribute_names_have_no_fault.Goals as goal

pub returns : goal.returns
returns c = attr_name_laws
