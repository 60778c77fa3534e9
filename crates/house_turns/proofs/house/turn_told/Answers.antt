use Rattle.std.proofs.Common.{◌++◌, ◌∷◌, [], ℕ, List, ap, ◌∙◌}
use Rattle.std.specs.Prelude.{decimal}
use Rattle.script_answers.specs.Texts.{lines_text}
use Rattle.house_turns.specs.HouseReplies.{posts_lines}
use Rattle.house_turns.specs.PrivateTurns.{posts_in}
use Rattle.house_turns.proofs.Pieces.{line_whole, written_last}
use Rattle.house_turns.proofs.house.turn_told.Goals as goal

pub returns : goal.returns
returns c =
    let n = c.args.number in
    let answer : List ℕ = c.args.answer.now in
    let posts : List (List ℕ) = posts_lines (posts_in c.args.posts.now) in
    written_last n [] c.push_posts.new.text.items c.push.new.self.items answer posts
    (c.in_ok-push_posts.ensures ∙ ap (λ (t : List ℕ). t ++ lines_text n posts) c.new-text.ensures.items)
    (c.in_ok-push.ensures.items
    ∙ ap (λ (t : List ℕ). t ++ 10 ∷ []) (c.in_ok-extend_from_slice.ensures.items ∙ ap (λ (t : List ℕ). t ++ answer) c.in_ok-begin_line.ensures.ok)
    ∙ line_whole (decimal n) c.push_posts.new.text.items answer)
