use Rattle.std.proofs.Common.{◌≢◌, rules, arith}
use Rattle.std.proofs.lemmas.Grind.{common_steps}
use Rattle.house_logs.proofs.TextLemmas.{other_front}
use Rattle.house_logs.proofs.text.without.Goals as goal

pub returns-then-ne-clause-none : goal.returns-then-ne-clause-none
returns-then-ne-clause-none c =
    let differs : c.split_at.result.0.now ≢ c.args.front.now = first_of (search rules, grind (arith, common_steps)) in
    other_front c.args.text.now c.args.front.now c.split_at.result.0.now c.split_at.ensures.front differs
