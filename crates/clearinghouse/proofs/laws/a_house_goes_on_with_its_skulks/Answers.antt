use Rattle.std.proofs.Common.{sym, ap, ◌∙◌}
use Rattle.clearinghouse.proofs.RunningOn.{goes_on}
use Rattle.clearinghouse.proofs.laws.a_house_goes_on_with_its_skulks.Goals as goal

pub returns : goal.returns
returns _ = λ c lawful usable. goes_on c lawful ∙ ap (λ b. record c { spent = b }) (sym usable)
