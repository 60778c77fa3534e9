use Rattle.cell_names.proofs.FullNameLaws.{splice_fault-none}
use Rattle.cell_names.proofs.laws.spliced_names_have_no_fault.Goals as goal

pub returns : goal.returns
returns c = splice_fault-none
