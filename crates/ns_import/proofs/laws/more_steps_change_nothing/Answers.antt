use Rattle.ns_import.proofs.Landing.{shown_lead}
use Rattle.ns_import.proofs.Beginning.{one_order}
use Rattle.ns_import.proofs.Importing.{steps_enough}
use Rattle.ns_import.proofs.laws.more_steps_change_nothing.Goals as goal

pub returns-clause-steps : goal.returns-clause-steps
returns-clause-steps c = λ reader objects wanted start steps shows among enough.
    steps_enough reader objects (shown_lead reader objects shows) wanted start among steps enough

pub returns-clause-lists : goal.returns-clause-lists
returns-clause-lists c = λ reader objects others wanted start shows shows_too among among_too.
    one_order reader objects (shown_lead reader objects shows) others (shown_lead reader others shows_too) wanted start among among_too
