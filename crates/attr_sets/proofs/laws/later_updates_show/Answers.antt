use Rattle.std.proofs.Common.{[]}
use Rattle.attr_sets.proofs.UpdateLaws.{shown_values-added, shown_values-removed, shown_values-put, shown_values-cleared}
use Rattle.attr_sets.proofs.laws.later_updates_show.Goals as goal

pub returns-clause-added : goal.returns-clause-added
returns-clause-added c = shown_values-added

pub returns-clause-removed : goal.returns-clause-removed
returns-clause-removed c = shown_values-removed

pub returns-clause-put : goal.returns-clause-put
returns-clause-put c = shown_values-put

pub returns-clause-cleared : goal.returns-clause-cleared
returns-clause-cleared c = λ h s. shown_values-cleared h [] s
