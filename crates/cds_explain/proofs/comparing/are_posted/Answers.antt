use Rattle.std.proofs.Common.{◌≡◌, ◌≤◌, ◌∷◌, length, arith, rules}
use Rattle.std.proofs.lemmas.Grind.{common_steps}
use Rattle.cds_explain.proofs.ComparingLemmas.{post_past}
use Rattle.cds_explain.proofs.comparing.are_posted.Goals as goal

pub returns-in_default-checked_add : goal.returns-in_default-checked_add
returns-in_default-checked_add c = λ g stands.
    let count = c.posted-posted.ensures.model g stands in
    let few : length g.bag ≤ c.posts.serial = first_of (omega (arith, count), grind (arith, count, common_steps)) in
    let parts : c.posts.rest.now ≡ c.in-Some.post.now ∷ c.in-Some.behind.now = first_of (search rules, grind (arith, common_steps)) in (
      λ e. absurd (cc (e)),
      λ all. absurd (post_past g c.args.first c.args.posts.now c.posts.rest.now c.in-Some.behind.now c.posts.serial c.in-Some.post.now (c.posts.invariant g stands)
          parts few all),
    )
