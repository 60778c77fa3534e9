use Rattle.mend_replay.proofs.ReadBack.{line_says, line_fits}
use Rattle.mend_replay.proofs.laws.lines_read_back.Goals as goal

pub returns-clause-says : goal.returns-clause-says
returns-clause-says c = λ command can. line_says command can

pub returns-clause-fits : goal.returns-clause-fits
returns-clause-fits c = λ command number can few. line_fits command number can few
