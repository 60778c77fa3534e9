use Rattle.std.proofs.Common.{◌∷◌, ◌++◌, [], ℕ, List}
use Rattle.house_turns.specs.HouseReplies.{posts_text}
use Rattle.house_turns.proofs.Cuts.{cut_after, cut_before}
use Rattle.house_turns.proofs.SaidAgain.{again_written, on_ok}
use Rattle.house_turns.proofs.again.push_again.Goals as goal

pub returns : goal.returns
returns c = λ line ps answer is line_none none.
    let rest : List ℕ = posts_text ps ++ (answer ++ 10 ∷ []) in
    on_ok c.push_posts.result
    (again_written line ps answer c.cut_at.result.0.now c.args.text.now.items c.push_line.new.text.items c.push_posts.new.text.items
    (cut_before 10 c.args.turn.now line rest c.cut_at.result.0.now is line_none c.cut_at.ensures.before) c.in_ok-push_line.ensures)
    (c.push_posts.ensures ps answer (cut_after 10 c.args.turn.now line rest c.cut_at.result.1.now is line_none c.cut_at.ensures.after) none)
