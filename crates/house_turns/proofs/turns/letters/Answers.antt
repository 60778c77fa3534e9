use Rattle.std.specs.FinMap.{get}
use Rattle.clearinghouse.specs.HouseLetters.{posts_at, sender_of}
use Rattle.house_directory.proofs.Posts.{posts_none}
use Rattle.std.specs.Prelude.{None, Some}
use Rattle.house_turns.proofs.Comes.{made_letters}
use Rattle.house_turns.proofs.Letters.{none_posted}
use Rattle.house_turns.proofs.turns.letters.Goals as goal

pub returns-in-Some : goal.returns-in-Some
returns-in-Some c = rw c.in-Some.is (made_letters c.letters.result (posts_at c.args.home.now c.args.dir (Some c.in-Some.outgoing.now)) c.letters.ensures.posts)

pub returns-in-None : goal.returns-in-None
returns-in-None c =
    rw c.in-None.is (none_posted (posts_at c.args.home.now c.args.dir None) (posts_none (sender_of c.args.home.now c.args.dir) (get c.args.home.now.dirs c.args.dir)))
