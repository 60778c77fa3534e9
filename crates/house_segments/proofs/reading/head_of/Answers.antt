use Rattle.std.proofs.Common.{◌≡◌, ◌≢◌, length, rules, arith}
use Rattle.std.proofs.lemmas.Grind.{common_steps}
use Rattle.house_segments.proofs.ReadLemmas.{head_is, joined, other_end_of_head, other_size, other_text}
use Rattle.house_segments.proofs.reading.head_of.Goals as goal

pub returns-clause-some : goal.returns-clause-some
returns-clause-some c =
    let same : c.split_at-2.result.0.now ≡ c.args.title.now = first_of (search rules, grind (arith, common_steps)) in
    let ends : c.split_at.result.1.now ≡ c.digest_of-digest.result = first_of (search rules, grind (arith, common_steps)) in
    head_is _ _ _ _ _ _ _ (joined _ _ _ _ c.split_at.ensures.front c.split_at.ensures.back)
    (joined _ _ _ _ c.split_at-2.ensures.front c.split_at-2.ensures.back) same ends c.digest_of-digest.ensures

pub returns-then-ne-clause-none : goal.returns-then-ne-clause-none
returns-then-ne-clause-none c =
    let size : length c.split_at.result.1.now ≡ 32 = first_of (search rules, grind (arith, common_steps)) in
    let long : length c.split_at-2.result.0.now ≡ length c.args.title.now = first_of (search rules, grind (arith, common_steps)) in
    let differs : c.split_at-2.result.0.now ≢ c.args.title.now = first_of (search rules, grind (arith, common_steps)) in
    other_text _ _ _ _ _ _ (joined _ _ _ _ c.split_at.ensures.front c.split_at.ensures.back) size
    (joined _ _ _ _ c.split_at-2.ensures.front c.split_at-2.ensures.back) long differs

pub returns-then-before-ne-DIGEST-clause-none : goal.returns-then-before-ne-DIGEST-clause-none
returns-then-before-ne-DIGEST-clause-none c =
    let size : length c.split_at.result.1.now ≡ 32 = first_of (search rules, grind (arith, common_steps)) in
    let long : length c.split_at-2.result.0.now ≡ length c.args.title.now = first_of (search rules, grind (arith, common_steps)) in
    let differs : length c.split_at-2.result.1.now ≢ 32 = first_of (search rules, grind (arith, common_steps)) in
    other_size _ _ _ _ _ _ (joined _ _ _ _ c.split_at.ensures.front c.split_at.ensures.back) size
    (joined _ _ _ _ c.split_at-2.ensures.front c.split_at-2.ensures.back) long differs

pub returns-then-ne-2-clause-none : goal.returns-then-ne-2-clause-none
returns-then-ne-2-clause-none c =
    let size : length c.split_at.result.1.now ≡ 32 = first_of (search rules, grind (arith, common_steps)) in
    let long : length c.split_at-2.result.0.now ≡ length c.args.title.now = first_of (search rules, grind (arith, common_steps)) in
    let differs : c.split_at.result.1.now ≢ c.digest_of-digest.result = first_of (search rules, grind (arith, common_steps)) in
    other_end_of_head _ _ _ _ _ _ _ (joined _ _ _ _ c.split_at.ensures.front c.split_at.ensures.back) size
    (joined _ _ _ _ c.split_at-2.ensures.front c.split_at-2.ensures.back) long c.digest_of-digest.ensures differs
