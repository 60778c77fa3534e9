use Rattle.std.proofs.Common.{◌≡◌, ◌++◌, ◌∷◌, [], None, refl, arith, rules}
use Rattle.std.specs.Prelude.{codes, option_copied}
use Rattle.std.proofs.lemmas.Bool.{OnFalse_from, both_ways}
use Rattle.std.proofs.lemmas.Grind.{common_steps}
use Rattle.house_logs.proofs.FollowLemmas.{bare_none, new_turns, not_new}
use Rattle.house_logs.proofs.reader.LogReader.take_body.Goals as goal

pub returns-then-eq-clause-refused : goal.returns-then-eq-clause-refused
returns-then-eq-clause-refused c =
    let bare : option_copied c.args.body.now.image ≡ None = rw c.in_default.is refl in
    let new : c.args.body.now.text.now ≡ codes "new" ++ 10 ∷ [] = first_of (search rules, grind (arith, common_steps)) in
    OnFalse_from c.is_new.result _ (λ off.
    bare_none c.args.self.now c.args.body.now bare
    (not_new c.args.self.now c.args.body.now (λ is. absurd (both_ways c.is_new.result off (c.is_new.ensures.1 is))))
    (new_turns c.args.self.now c.args.body.now new))
