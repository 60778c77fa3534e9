use Rattle.directory.proofs.EntryChangeLaws.{changes_accepted, creation_accepted}
use Rattle.directory.proofs.laws.entry_changes_are_accepted.Goals as goal

pub returns-clause-shown : goal.returns-clause-shown
returns-clause-shown c = λ h n e us is all. changes_accepted us h n e is all

pub returns-clause-created : goal.returns-clause-created
returns-clause-created c = creation_accepted
