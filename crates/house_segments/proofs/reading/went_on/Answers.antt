use Rattle.std.proofs.Common.{◌≡◌, ◌∷◌, drop, rules, arith}
use Rattle.std.proofs.lemmas.Grind.{common_steps}
use Rattle.house_journal.specs.JournalRecords.{images}
use Rattle.house_segments.proofs.ReadLemmas.{had_more, none_ended}
use Rattle.house_segments.proofs.reading.went_on.Goals as goal

pub returns-in_default-clause-no : goal.returns-in_default-clause-no
returns-in_default-clause-no c = λ no later.
    let none = c.in_default.ensures.cases in
    none_ended c.args.before.now c.args.octets.now (omega (arith, none)) later

pub returns-in-Some-unsealed-clause-yes : goal.returns-in-Some-unsealed-clause-yes
returns-in-Some-unsealed-clause-yes c = λ yes.
    let list : images (1 ∷ drop 1 c.args.octets.now) ≡ c.in-Some-sized_record.next.now ∷ images c.in-Some-sized_record.behind.now =
    first_of (search rules, grind (arith, common_steps)) in
    had_more _ _ _ _ _ _ _ list c.in-Some-unsealed.ensures.is c.in-Some-first_record.ensures.some
