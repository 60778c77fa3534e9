use Rattle.file_disk.proofs.SegmentNames.{none_parsed}
use Rattle.file_disk.proofs.names.number_in.Goals as goal

pub returns-in_err-number-clause-none : goal.returns-in_err-number-clause-none
returns-in_err-number-clause-none c = none_parsed c.args.name.now c.from_residual.result c.in_err-number.ensures
