use Rattle.std.specs.Prelude.{Some}
use Rattle.house_turns.specs.HouseReplies.{posts_text}
use Rattle.house_turns.specs.PrivateTurns.{letters_kept, posts_of_letters}
use Rattle.house_turns.proofs.Letters.{kept_of_letters, pushed_same}
use Rattle.house_turns.proofs.posts.push_whole.Goals as goal

pub returns-in-Some : goal.returns-in-Some
returns-in-Some c =
    let ls = c.in-Some.letters.now in
    rw c.in-Some.is
    (pushed_same c.push_each_whole.result c.args.text.now.items c.push_each_whole.new.text.items (letters_kept ls.octets.items ls.receivers.items)
    (posts_text (posts_of_letters (Some ls))) (kept_of_letters ls.octets.items ls.receivers.items)
    (rw (c.deref.ensures.value, c.deref-in-Some.ensures.value) at c.push_each_whole.ensures))
