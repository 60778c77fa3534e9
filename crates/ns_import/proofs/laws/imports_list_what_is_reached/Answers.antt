use Rattle.ns_import.proofs.Landing.{shown_lead}
use Rattle.ns_import.proofs.Importing.{import_is}
use Rattle.ns_import.proofs.laws.imports_list_what_is_reached.Goals as goal

pub returns : goal.returns
returns c = λ reader objects wanted name bindings shows. import_is reader objects (shown_lead reader objects shows) wanted name bindings
