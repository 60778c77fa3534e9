use Rattle.std.proofs.Common.{[], ◌∷◌, refl}
use Rattle.cell_names.specs.FullNames.{full_name_octets}
use Rattle.directory.specs.Updates.{Add, Remove}
use Rattle.directory.proofs.EntryChangeLaws.{changes_accepted, creation_accepted}
use Rattle.ns_groups.specs.Groups.{group}
use Rattle.ns_groups.proofs.laws.group_updates_are_accepted.Goals as goal

pub returns-clause-additions : goal.returns-clause-additions
returns-clause-additions c = λ h n member known. creation_accepted h n (Add n group (full_name_octets member) ∷ []) known ((refl, refl), tt)

pub returns-clause-deletions : goal.returns-clause-deletions
returns-clause-deletions c = λ h n e member is. changes_accepted (Remove n group (full_name_octets member) ∷ []) h n e is ((refl, refl), tt)
