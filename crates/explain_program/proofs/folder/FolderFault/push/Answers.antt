use Rattle.explain_program.proofs.folder.FolderFault.push.Goals as goal

pub returns-in-Missing : goal.returns-in-Missing
returns-in-Missing c = rw c.in-Missing.is c.push_missing.ensures
