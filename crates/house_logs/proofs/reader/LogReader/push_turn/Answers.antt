use Rattle.std.proofs.Common.{refl}
use Rattle.house_logs.proofs.ReadingLemmas.{took_turn}
use Rattle.house_logs.proofs.FollowLemmas.{no_turn}
use Rattle.house_logs.proofs.reader.LogReader.push_turn.Goals as goal

pub returns-clause-read : goal.returns-clause-read
returns-clause-read c bodies octets has is =
    took_turn c.args.self.now _ bodies octets _ _ _ c.args.parts c.in-Some.turn has is (rw c.in-Some.is at c.in_ok-turn.ensures.some) c.requires.some
    c.requires.due c.requires.text refl refl refl refl c.in_ok-self.ensures.items c.in_ok-push.ensures.items

pub returns-in_default-clause-refused : goal.returns-in_default-clause-refused
returns-in_default-clause-refused c =
    no_turn c.args.self.now c.args.body.now c.args.parts c.requires.text (rw c.in_default.is at c.in_ok-turn.ensures.none)
