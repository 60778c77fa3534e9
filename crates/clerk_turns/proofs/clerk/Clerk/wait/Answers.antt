use Rattle.std.proofs.Common.{List, ap, sym, ◌∙◌}
use Rattle.resolver.proofs.PassLaws.{if_ok}
use Rattle.clerk_turns.specs.declared.clerk.Question.{Question}
use Rattle.clerk_turns.specs.Clerks.{waits_for}
use Rattle.clerk_turns.proofs.Goings.{cases_false, cases_true}
use Rattle.clerk_turns.proofs.clerk.Clerk.wait.Goals as goal

pub returns-then-waits_for : goal.returns-then-waits_for
returns-then-waits_for c =
    let is = sym (ap (λ (qs : List Question). waits_for c.args.job.number qs) c.deref.ensures.value) ∙ sym c.waits_for.ensures ∙ c.if-waits_for.true in
    if_ok c.keep.result (λ t its. cases_true _ _ _ is its) c.keep.ensures

pub returns-else-waits_for : goal.returns-else-waits_for
returns-else-waits_for c =
    let is = sym (ap (λ (qs : List Question). waits_for c.args.job.number qs) c.deref.ensures.value) ∙ sym c.waits_for.ensures ∙ c.if-waits_for.false in
    if_ok c.settle.result (λ t its. cases_false _ _ _ is its) c.settle.ensures
