use Rattle.std.proofs.Common.{refl}
use Rattle.house_logs.proofs.ReadingLemmas.{took_making}
use Rattle.house_logs.proofs.FollowLemmas.{no_making}
use Rattle.house_logs.proofs.reader.LogReader.take_making.Goals as goal

pub returns-clause-read : goal.returns-clause-read
returns-clause-read c bodies octets has is =
    took_making c.args.self.now _ bodies octets _ _ _ c.args.parts.now _ has is (rw c.in-Some.is at c.in_ok-made.ensures.some) c.requires.none c.requires.due
    c.if-body-ne0.false c.requires.text refl refl refl refl c.in_ok-self.ensures.items refl

pub returns-in_default-clause-refused : goal.returns-in_default-clause-refused
returns-in_default-clause-refused c =
    no_making c.args.self.now c.args.body.now c.args.parts.now c.requires.text (rw c.in_default.is at c.in_ok-made.ensures.none)
