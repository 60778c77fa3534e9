-- By what is so at each moment of his life.
use Rattle.session_laws.proofs.Callers.{are_of_folder}
use Rattle.session_laws.proofs.laws.kept_records_are_a_folder.Goals as goal

pub returns : goal.returns
returns c = are_of_folder
