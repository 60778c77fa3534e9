use Rattle.std.proofs.Common.{ℕ, List, ap, subst, ◌∙◌}
use Rattle.cds_stamps.specs.Octets.{is_octets}
use Rattle.cell_names.specs.FullNames.{full_name_octets, IsComponentList}
use Rattle.cell_names.proofs.full_name.FullName.is_spelled.Goals as goal

pub returns-clause-value : goal.returns-clause-value
returns-clause-value c = c.spell.ensures ∙ ap (λ (name : List (List ℕ)). is_octets (full_name_octets name) c.args.octets.now) c.components.ensures.value

pub returns-clause-lawful : goal.returns-clause-lawful
returns-clause-lawful c = subst IsComponentList c.components.ensures.value c.components.ensures.lawful
