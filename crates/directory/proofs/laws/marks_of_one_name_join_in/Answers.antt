use Rattle.directory.proofs.TableLaws.{table_of-marks}
use Rattle.directory.proofs.laws.marks_of_one_name_join_in.Goals as goal

pub returns : goal.returns
returns c = table_of-marks
