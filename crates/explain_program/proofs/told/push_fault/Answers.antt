use Rattle.explain_program.proofs.RunLemmas.{ok_two}
use Rattle.explain_program.proofs.told.push_fault.Goals as goal

pub returns : goal.returns
returns c = ok_two c.push_why.result c.args.text.now.items _ _ _ _ c.in_ok-push_folder.ensures c.push_why.ensures
