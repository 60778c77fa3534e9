use Rattle.std.proofs.Common.{List, ℕ, subst}
use Rattle.std.specs.Prelude.{Option}
use Rattle.resolver.proofs.PassLaws.{if_ok}
use Rattle.clerk_turns.specs.declared.clerk.Topic.TheVariants as topic
use Rattle.clerk_turns.specs.Asking.{Asks}
use Rattle.clerk_turns.specs.Sendings.{SendsLine}
use Rattle.clerk_turns.proofs.clerk.Clerk.send_next.Goals as goal

pub returns-in-Some : goal.returns-in-Some
returns-in-Some c =
    if_ok c.ask.result
    (λ t asks. subst (λ (o : Option (List ℕ)). SendsLine o c.args.self.now c.args.job c.args.house t.items c.ask.new.self) (rw c.in-Some.is at c.in_ok-line.ensures)
    (subst (λ (l : List ℕ). Asks c.args.self.now c.args.job (record { house = c.args.house; line = l; topic = topic.Step c.args.house }) t.items c.ask.new.self)
    c.deref.ensures.value asks))
    c.ask.ensures
