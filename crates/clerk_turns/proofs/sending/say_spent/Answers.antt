use Rattle.std.proofs.Common.{List, ℕ, ap, ◌∙◌}
use Rattle.resolver.proofs.PassLaws.{if_ok}
use Rattle.clerk_turns.specs.Sendings.{last_said}
use Rattle.clerk_turns.proofs.sending.say_spent.Goals as goal

pub returns : goal.returns
returns c =
    if_ok c.say_last.result (λ t is. is ∙ ap (λ (line : List ℕ). last_said c.args.job.now line) (c.deref.ensures.value ∙ c.in_ok-line.ensures)) c.say_last.ensures
