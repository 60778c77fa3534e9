use Rattle.reply_buffer.proofs.TowerLines.{tower_room}
use Rattle.reply_buffer.proofs.untowers.Speller.push_floor.Goals as goal

pub push-requires-clause-room : goal.push-requires-clause-room
push-requires-clause-room c = tower_room c.args.self.now.tower c.requires.few
