use Rattle.attr_sets.proofs.ShownLaws.{shown_values-ascending}
use Rattle.attr_sets.proofs.laws.shown_values_ascend.Goals as goal

pub returns : goal.returns
returns c = shown_values-ascending
