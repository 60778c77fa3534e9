use Rattle.explain_program.proofs.FolderLemmas.{evidence_more}
use Rattle.explain_program.proofs.evidence.Evidence.add.Goals as goal

pub returns : goal.returns
returns c fs are place =
    evidence_more fs c.args.place c.args.folder.now _ _ _ _ _ are place c.in_ok-read.ensures c.in_ok-push_log.ensures c.in_ok-push_fault.ensures
