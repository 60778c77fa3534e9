use Rattle.std.proofs.Common.{◌≡◌, ◌≢◌, length, rules, arith}
use Rattle.std.proofs.lemmas.Grind.{common_steps}
use Rattle.house_segments.proofs.ReadLemmas.{joined, other_unsealed}
use Rattle.house_segments.proofs.reading.unsealed.Goals as goal

pub returns-then-ne-clause-none : goal.returns-then-ne-clause-none
returns-then-ne-clause-none c =
    let size : length c.split_at.result.1.now ≡ 32 = first_of (search rules, grind (arith, common_steps)) in
    let differs : c.split_at.result.1.now ≢ c.digest_of-digest.result = first_of (search rules, grind (arith, common_steps)) in
    other_unsealed _ _ _ _ _ (joined _ _ _ _ c.split_at.ensures.front c.split_at.ensures.back) size c.digest_of-digest.ensures differs
