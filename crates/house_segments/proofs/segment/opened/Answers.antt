use Rattle.house_segments.proofs.ChainLemmas.{none_opened}
use Rattle.house_segments.proofs.segment.opened.Goals as goal

pub returns-clause-none : goal.returns-clause-none
returns-clause-none g c = none_opened _ _ c.in_ok-journal.ensures.rests c.requires
