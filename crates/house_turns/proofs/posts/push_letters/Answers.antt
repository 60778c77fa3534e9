use Rattle.script_answers.specs.Texts.{lines_text}
use Rattle.house_turns.specs.HouseReplies.{posts_lines}
use Rattle.house_turns.specs.PrivateTurns.{letters_text, posts_of_letters}
use Rattle.std.specs.Prelude.{Some}
use Rattle.house_turns.proofs.Letters.{pushed_same, text_of_letters}
use Rattle.house_turns.proofs.posts.push_letters.Goals as goal

pub returns-in-Some : goal.returns-in-Some
returns-in-Some c =
    let ls = c.in-Some.letters.now in
    rw c.in-Some.is
    (pushed_same c.push_each.result c.args.text.now.items c.push_each.new.text.items (letters_text c.args.number ls.octets.items ls.receivers.items)
    (lines_text c.args.number (posts_lines (posts_of_letters (Some ls)))) (text_of_letters c.args.number ls.octets.items ls.receivers.items)
    (rw (c.deref.ensures.value, c.deref-in-Some.ensures.value) at c.push_each.ensures))
