use Rattle.directory.proofs.MemberLaws.{table_of-same}
use Rattle.directory.proofs.laws.same_marks_make_one_table.Goals as goal

pub returns : goal.returns
returns c = table_of-same
