use Rattle.std.proofs.Common.{◌≡◌, [], true, false, ◌∙◌}
use Rattle.std.specs.Prelude.{filter}
use Rattle.std.specs.Option.{option_copied}
use Rattle.directory.specs.Updates.{Remove}
use Rattle.server_entries.specs.Exports.{tower_attribute, object_attribute, tower_goes, object_goes}
use Rattle.server_entries.proofs.Unexports.{no_towers, no_objects, none_seen}
use Rattle.server_entries.proofs.exports.unexported_updates.Goals as goal

pub returns-in_err-towers-clause-none : goal.returns-in_err-towers-clause-none
returns-in_err-towers-clause-none c = λ none.
    let towers = filter (tower_goes (option_copied c.args.interface)) c.args.towers.now in
    let objects = filter (object_goes c.args.objects.now) c.args.held.now in
    let gone : towers ≡ [] = no_towers (Remove c.args.name.now tower_attribute) (Remove c.args.name.now object_attribute) towers objects none in
    let never : false ≡ true = c.in_err-towers.ensures.none gone in
    absurd cc

pub returns-in_err-objects-clause-none : goal.returns-in_err-objects-clause-none
returns-in_err-objects-clause-none c = λ none.
    let towers = filter (tower_goes (option_copied c.args.interface)) c.args.towers.now in
    let objects = filter (object_goes c.args.objects.now) c.args.held.now in
    let gone : objects ≡ [] = no_objects (Remove c.args.name.now tower_attribute) (Remove c.args.name.now object_attribute) towers objects none in
    let never : false ≡ true = c.in_err-objects.ensures.none gone in
    absurd cc

pub returns-clause-none : goal.returns-clause-none
returns-clause-none c = λ none.
    let towers = filter (tower_goes (option_copied c.args.interface)) c.args.towers.now in
    let objects = filter (object_goes c.args.objects.now) c.args.held.now in
    let tower_removed = Remove c.args.name.now tower_attribute in
    let object_removed = Remove c.args.name.now object_attribute in
    let no_tower : towers ≡ [] = no_towers tower_removed object_removed towers objects none in
    let no_object : objects ≡ [] = no_objects tower_removed object_removed towers objects none in
    c.removals.ensures.none
    (c.deref.ensures.value ∙ none_seen (λ v. v.now) c.in_ok-towers.towers.items towers c.in_ok-towers.ensures.values no_tower)
    (c.deref-2.ensures.value ∙ none_seen (λ v. v.now) c.in_ok-objects.objects.items objects c.in_ok-objects.ensures.values no_object)
