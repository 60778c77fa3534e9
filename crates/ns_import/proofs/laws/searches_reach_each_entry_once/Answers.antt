use Rattle.ns_import.proofs.Landing.{shown_lead}
use Rattle.ns_import.proofs.Importing.{searched_once, searched_reached}
use Rattle.ns_import.proofs.laws.searches_reach_each_entry_once.Goals as goal

pub returns-clause-exactly : goal.returns-clause-exactly
returns-clause-exactly c = λ reader objects wanted start e shows among.
    searched_reached reader objects (shown_lead reader objects shows) wanted start among e

pub returns-clause-once : goal.returns-clause-once
returns-clause-once c = searched_once
