use Rattle.directory.proofs.UpdateLaws.{marks_of-history, marks_of-together, marks_of-names}
use Rattle.directory.proofs.laws.accepted_marks_belong.Goals as goal

pub returns-clause-together : goal.returns-clause-together
returns-clause-together c = marks_of-history

pub returns-clause-with_history : goal.returns-clause-with_history
returns-clause-with_history c = marks_of-together

pub returns-clause-one_name : goal.returns-clause-one_name
returns-clause-one_name c = marks_of-names
