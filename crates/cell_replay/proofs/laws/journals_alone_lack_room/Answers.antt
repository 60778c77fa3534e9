use Rattle.cell_replay.proofs.WithoutJournals.{never_filled, never_full, ends_by_itself}
use Rattle.cell_replay.proofs.laws.journals_alone_lack_room.Goals as goal

pub returns-clause-demands : goal.returns-clause-demands
returns-clause-demands c = never_filled

pub returns-clause-runs : goal.returns-clause-runs
returns-clause-runs c = never_full

pub returns-clause-calm : goal.returns-clause-calm
returns-clause-calm c = ends_by_itself
