-- What a command answers that comes to no plan.
use Rattle.std.proofs.Common.{refl, sym}
use Rattle.std.specs.Prelude.{Err}
use Rattle.resolver.specs.Readers.{Reader}
use Rattle.script_answers.specs.declared.answer.Answer.TheVariants as answer
use Rattle.script_answers.specs.declared.answer.ScriptRefusal.{ScriptRefusal}
use Rattle.inquire_forms.specs.Inquired.{Plain}
use Rattle.cds_clerk.specs.declared.heard.Heard.{Heard}
use Rattle.cds_clerk.specs.Agreements.{Agrees}
use Rattle.clerk_turns.specs.declared.command.Command.{Command}
use Rattle.clerk_turns.specs.declared.command.Command.TheVariants as command
use Rattle.clerk_turns.specs.Answers.{IsAnswer, IsPlanOver}

pub refused_answer : (h : Heard) (c : Command) (why : ScriptRefusal) → ((r : Reader) → Agrees r h → IsPlanOver r c (Err why)) → IsAnswer h c (Plain (answer.Refused why))
refused_answer h (command.Read high name attr) why asks = λ r agrees. absurd (asks r agrees)
refused_answer h (command.Readlink high name) why asks = λ r agrees. absurd (asks r agrees)
refused_answer h (command.Import high name wanted) why asks = λ r objects agrees shows. absurd (asks r agrees)
refused_answer h (command.Inquire high name listing) why asks = λ r agrees. absurd (asks r agrees)
refused_answer h (command.Lookup high name wanted most) why asks = λ r objects agrees shows. absurd (asks r agrees)
refused_answer h (command.Plan p) why asks = λ r agrees. (why, sym (asks r agrees), refl)
refused_answer h (command.Update name u) why asks = λ r agrees. (why, sym (asks r agrees), refl)
