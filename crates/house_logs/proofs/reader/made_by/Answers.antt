use Rattle.std.proofs.Common.{Ok, Some, ap, ◌∙◌, rules, arith}
use Rattle.std.proofs.lemmas.Grind.{common_steps}
use Rattle.house_lines.specs.declared.line.HouseLine.{HouseLine}
use Rattle.house_logs.proofs.reader.made_by.Goals as goal

pub returns-in-House-clause-some : goal.returns-in-House-clause-some
returns-in-House-clause-some c = record {
  says = (rw c.in-Some.is at c.in_ok-says.ensures) ∙ ap (λ (s : HouseLine). Ok (Some s)) c.in-House.is;
  posts = first_of (search rules, grind (arith, common_steps));
  answer = first_of (search rules, grind (arith, common_steps));
}
