-- By the theorem over all parts of the script.
use Rattle.form_laws.proofs.Scripts.{script_works, script_unrefused, script_completes, script_loads}
use Rattle.form_laws.proofs.Summaries.{script_counts}
use Rattle.form_laws.proofs.laws.script_is_never_refused.Goals as goal

pub returns-clause-refused : goal.returns-clause-refused
returns-clause-refused c = script_unrefused

pub returns-clause-works : goal.returns-clause-works
returns-clause-works c = script_works

pub returns-clause-complete : goal.returns-clause-complete
returns-clause-complete c = script_completes

pub returns-clause-entries : goal.returns-clause-entries
returns-clause-entries c = script_loads

pub returns-clause-summary : goal.returns-clause-summary
returns-clause-summary c = script_counts
