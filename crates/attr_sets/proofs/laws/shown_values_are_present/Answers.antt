use Rattle.attr_sets.proofs.ShownLaws.{shown_values-are}
use Rattle.attr_sets.proofs.laws.shown_values_are_present.Goals as goal

pub returns : goal.returns
returns c = shown_values-are
