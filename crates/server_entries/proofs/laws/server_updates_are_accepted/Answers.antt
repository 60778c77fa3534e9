use Rattle.std.proofs.Common.{◌++◌, List, filter, map, refl, sym, subst, append_assoc}
use Rattle.std.specs.Prelude.{is_none}
use Rattle.directory.specs.Updates.{Change, Remove}
use Rattle.directory.specs.Shown.{shown_of_name}
use Rattle.directory.specs.EntryChanges.{creation, AreAccepted}
use Rattle.directory.proofs.EntryChangeLaws.{changes_accepted, creation_accepted, each_changes, all_change}
use Rattle.cds_stamps.specs.Ascending.{in_ascending_order}
use Rattle.server_entries.specs.Exports.{tower_attribute, object_attribute, tower_added, object_added, tower_goes, object_goes, unexport_changes}
use Rattle.server_entries.proofs.laws.server_updates_are_accepted.Goals as goal

pub returns-clause-exports : goal.returns-clause-exports
returns-clause-exports c = λ h n interface bindings objects known.
    let towers : List Change = map (tower_added n interface) bindings in
    let all : List Change = map (object_added n) objects in
    subst (AreAccepted h) (sym (append_assoc (creation n (is_none (shown_of_name h n))) towers all))
    (creation_accepted h n (towers ++ all) known
    (all_change n towers all (each_changes n (tower_added n interface) (λ b. (refl, refl)) bindings)
    (each_changes n (object_added n) (λ o. (refl, refl)) objects)))

pub returns-clause-unexports : goal.returns-clause-unexports
returns-clause-unexports c = λ h n e towers held interface objects is.
    let gone = in_ascending_order (filter (tower_goes interface) towers) in
    let left = in_ascending_order (filter (object_goes objects) held) in
    changes_accepted (unexport_changes n towers held interface objects) h n e is
    (all_change n (map (Remove n tower_attribute) gone) (map (Remove n object_attribute) left)
    (each_changes n (Remove n tower_attribute) (λ v. (refl, refl)) gone) (each_changes n (Remove n object_attribute) (λ v. (refl, refl)) left))
