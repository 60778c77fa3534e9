use Rattle.journal_replay.proofs.LeftDisks.{room_known, short_disks, stopped_disks}
use Rattle.journal_replay.proofs.form.JournalsLineForm.answer.Goals as goal

pub returns-clause-kept : goal.returns-clause-kept
returns-clause-kept c state at is = (stopped_disks _ state _ _ (c.replay_line.ensures.disks state at) is, at.stands.gives)

pub returns-clause-broken : goal.returns-clause-broken
returns-clause-broken c state at short = (short_disks _ state _ _ (c.replay_line.ensures.disks state at) short, at.stands.gives)

pub returns-clause-holds : goal.returns-clause-holds
returns-clause-holds c state at held = (c.replay_line.ensures.usable held.0, room_known c.replay_line.result _ _ held.1 c.replay_line.ensures.full)
