use Rattle.std.proofs.Common.{◌∙◌, ◌++◌, ℕ, List, ap, arith, rules}
use Rattle.std.proofs.lemmas.Grind.{common_steps}
use Rattle.explain_program.specs.Endings.{status_of}
use Rattle.explain_program.proofs.told.told_of.Goals as goal

pub returns : goal.returns
returns c = record {
  status_is = first_of (search rules, grind (arith, common_steps));
  front = c.push_reason.new.text.items;
  reason = c.in_ok-push_reason.ensures;
  text_is = c.in_ok-push_faults.ensures;
}
