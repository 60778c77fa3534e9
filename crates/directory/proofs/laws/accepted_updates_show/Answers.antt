use Rattle.std.proofs.Common.{[]}
use Rattle.directory.proofs.ChangeLaws.{shown-others, shown-create, shown-linked, shown-child, shown-repoint}
use Rattle.directory.proofs.ChangeLaws.{shown-add, shown-remove, shown-put, shown-clear, shown-delete}
use Rattle.directory.proofs.laws.accepted_updates_show.Goals as goal

pub returns-clause-others : goal.returns-clause-others
returns-clause-others c = shown-others

pub returns-clause-created : goal.returns-clause-created
returns-clause-created c = shown-create

pub returns-clause-linked : goal.returns-clause-linked
returns-clause-linked c = shown-linked

pub returns-clause-child_made : goal.returns-clause-child_made
returns-clause-child_made c = shown-child

pub returns-clause-repointed : goal.returns-clause-repointed
returns-clause-repointed c = shown-repoint

pub returns-clause-added : goal.returns-clause-added
returns-clause-added c = shown-add

pub returns-clause-removed : goal.returns-clause-removed
returns-clause-removed c = shown-remove

pub returns-clause-put : goal.returns-clause-put
returns-clause-put c = shown-put

pub returns-clause-cleared : goal.returns-clause-cleared
returns-clause-cleared c = λ h n e is s a. shown-clear h n e is s a []

pub returns-clause-deleted : goal.returns-clause-deleted
returns-clause-deleted c = shown-delete
