use Rattle.std.proofs.Common.{[], ◌∷◌, filter, refl}
use Rattle.directory.specs.Updates.{Add, Remove}
use Rattle.directory.proofs.EntryChangeLaws.{changes_accepted, creation_accepted, each_changes}
use Rattle.cds_stamps.specs.Ascending.{in_ascending_order}
use Rattle.ns_profiles.specs.Elements.{element_octets}
use Rattle.ns_profiles.specs.Profiles.{profile, element_deletion, is_element}
use Rattle.ns_profiles.proofs.laws.profile_updates_are_accepted.Goals as goal

pub returns-clause-additions : goal.returns-clause-additions
returns-clause-additions c = λ h n element known. creation_accepted h n (Add n profile (element_octets element) ∷ []) known ((refl, refl), tt)

pub returns-clause-deletions : goal.returns-clause-deletions
returns-clause-deletions c = λ h n e interface member values is.
    changes_accepted (element_deletion n interface member values) h n e is
    (each_changes n (Remove n profile) (λ v. (refl, refl)) (filter (is_element interface member) (in_ascending_order values)))
