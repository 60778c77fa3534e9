use Rattle.std.proofs.Common.{◌≡◌, ◌≢◌, length, ap, List, ℕ, arith, rules}
use Rattle.std.proofs.lemmas.Bool.Decides.{Decides-like}
use Rattle.std.proofs.lemmas.Grind.{common_steps}
use Rattle.house_segments.proofs.ReadLemmas.{joined}
use Rattle.house_logs.proofs.TextLemmas.{after_parts, decides_off, parts_after}
use Rattle.house_logs.proofs.text.is_after_running.Goals as goal

pub returns-then-eq : goal.returns-then-eq
returns-then-eq c =
    let same : c.split_at.result.1.now ≡ c.args.text.now = first_of (search rules, grind (arith, common_steps)) in
    let parts = joined _ _ _ _ c.split_at.ensures.front c.split_at.ensures.back in
    Decides-like c.are_running.result (λ is. parts_after c.args.octets.now c.args.text.now _ _ parts same is)
    (λ is. (after_parts c.args.octets.now c.args.text.now _ _ parts (ap (λ (l : List ℕ). length l) same) is).1) c.are_running.ensures

pub returns-else-eq : goal.returns-else-eq
returns-else-eq c =
    let differs : c.split_at.result.1.now ≢ c.args.text.now = first_of (search rules, grind (arith, common_steps)) in
    let size : length c.split_at.result.1.now ≡ length c.args.text.now = first_of (search rules, grind (arith, common_steps)) in
    let parts = joined _ _ _ _ c.split_at.ensures.front c.split_at.ensures.back in
    decides_off c.eq.result c.if-eq.false (λ is. differs (after_parts c.args.octets.now c.args.text.now _ _ parts size is).0)
