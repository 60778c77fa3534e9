use Rattle.image_audit.proofs.FirstFacts.{differ_first, agree_none}
use Rattle.image_audit.proofs.laws.the_first_open_fact_is_told.Goals as goal

pub returns-clause-differ : goal.returns-clause-differ
returns-clause-differ c = differ_first

pub returns-clause-agree : goal.returns-clause-agree
returns-clause-agree c = agree_none
