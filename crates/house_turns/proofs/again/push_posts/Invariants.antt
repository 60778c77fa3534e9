use Rattle.std.proofs.Common.{◌≡◌, ◌∷◌, ◌++◌, [], ℕ, List, length}
use Rattle.cell_runs.specs.Entries.{Post}
use Rattle.house_turns.specs.HouseReplies.{posts_text}
use Rattle.house_turns.specs.LineOutcomes.{HasNoEnd}
use Rattle.house_turns.proofs.SaidAgain.{PostsLeft}
use Rattle.house_turns.proofs.again.push_posts.Given as goal

abbrev pub invariant-posts : goal.invariant-posts
invariant-posts l =
    (ps : List Post) (answer : List ℕ) → l.fn.posts ≡ posts_text ps ++ (answer ++ 10 ∷ []) → HasNoEnd answer
    → PostsLeft ps answer l.line l.rest l.text.items l.fn.text.items

abbrev pub decreases-posts : goal.decreases-posts
decreases-posts l = length l.rest
