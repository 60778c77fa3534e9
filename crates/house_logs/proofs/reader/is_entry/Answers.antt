use Rattle.std.proofs.Common.{◌≡◌, ◌++◌, ◌∷◌, [], None, refl, arith, rules}
use Rattle.std.specs.Prelude.{codes, option_copied}
use Rattle.std.proofs.lemmas.Bool.{OnFalse_from}
use Rattle.std.proofs.lemmas.Grind.{common_steps}
use Rattle.house_logs.proofs.FollowLemmas.{none_entry}
use Rattle.house_logs.proofs.reader.is_entry.Goals as goal

pub returns-in-None-clause-no : goal.returns-in-None-clause-no
returns-in-None-clause-no c = λ r is.
    OnFalse_from c.ne.result _ (λ off.
    let bare : option_copied c.args.body.now.image ≡ None = rw c.in-None.is refl in
    let new : c.args.body.now.text.now ≡ codes "new" ++ 10 ∷ [] = first_of (search (rules, off), grind (arith, off, common_steps)) in
    none_entry r c.args.body.now is bare new)
