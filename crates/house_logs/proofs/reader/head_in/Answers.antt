use Rattle.std.proofs.Common.{◌≡◌, ◌≢◌, ◌++◌, ◌∙◌, length, ap, List, ℕ, arith, rules}
use Rattle.std.proofs.lemmas.Grind.{common_steps}
use Rattle.house_segments.specs.Chains.{digest_after, sealed}
use Rattle.house_segments.proofs.ReadLemmas.{joined, none_of}
use Rattle.house_logs.proofs.SegmentLemmas.{head_body, missized, unsealed_head}
use Rattle.house_logs.proofs.reader.head_in.Goals as goal

pub returns-then-ends-clause-none : goal.returns-then-ends-clause-none
returns-then-ends-clause-none c =
    let size : length c.in_ok-ends.ends.now ≢ 64 = first_of (search rules, grind (arith, common_steps)) in
    missized c.args.title.now c.args.head.now c.in_ok-ends.ends.now c.in_ok-ends.ensures.parts size

pub returns-in_err-sealed-clause-none : goal.returns-in_err-sealed-clause-none
returns-in_err-sealed-clause-none c =
    none_of _ _ (unsealed_head c.args.title.now c.args.head.now c.in_ok-ends.ends.now c.split_at.result.0.now c.in_ok-ends.ensures.parts c.split_at.ensures.front
    c.in_err-sealed.ensures.none)

pub returns-clause-some : goal.returns-clause-some
returns-clause-some c =
    let size : length c.split_at.result.1.now ≡ 32 = first_of (search rules, grind (arith, common_steps)) in
    let body : c.in_ok-sealed.sealed.body.now ≡ c.args.title.now ++ c.split_at.result.0.now =
    head_body c.args.title.now c.args.head.now c.in_ok-ends.ends.now c.split_at.result.0.now c.split_at.result.1.now c.in_ok-sealed.sealed.body.now c.in_ok-ends.ensures.parts (joined 32 c.in_ok-ends.ends.now _ _ c.split_at.ensures.front c.split_at.ensures.back) size c.in_ok-sealed.ensures.is in
    c.in_ok-sealed.ensures.is ∙ ap (λ (b : List ℕ). sealed c.split_at.result.0.now b) body

pub returns-clause-digest : goal.returns-clause-digest
returns-clause-digest c =
    let size : length c.split_at.result.1.now ≡ 32 = first_of (search rules, grind (arith, common_steps)) in
    let body : c.in_ok-sealed.sealed.body.now ≡ c.args.title.now ++ c.split_at.result.0.now =
    head_body c.args.title.now c.args.head.now c.in_ok-ends.ends.now c.split_at.result.0.now c.split_at.result.1.now c.in_ok-sealed.sealed.body.now c.in_ok-ends.ensures.parts (joined 32 c.in_ok-ends.ends.now _ _ c.split_at.ensures.front c.split_at.ensures.back) size c.in_ok-sealed.ensures.is in
    c.in_ok-sealed.ensures.digest ∙ ap (λ (b : List ℕ). digest_after c.split_at.result.0.now b) body
