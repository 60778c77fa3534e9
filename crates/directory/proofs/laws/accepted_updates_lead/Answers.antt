use Rattle.directory.proofs.ChangeLaws.{lead-linked, lead-child, lead-repoint, shown-leads}
use Rattle.directory.proofs.Leads.{lead_reads}
use Rattle.directory.proofs.laws.accepted_updates_lead.Goals as goal

pub returns-clause-linked : goal.returns-clause-linked
returns-clause-linked c = lead-linked

pub returns-clause-child_made : goal.returns-clause-child_made
returns-clause-child_made c = lead-child

pub returns-clause-repointed : goal.returns-clause-repointed
returns-clause-repointed c = lead-repoint

pub returns-clause-led : goal.returns-clause-led
returns-clause-led c = shown-leads

pub returns-clause-read : goal.returns-clause-read
returns-clause-read c = lead_reads
