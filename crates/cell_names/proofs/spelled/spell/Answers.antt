use Rattle.std.proofs.Common.{◌≡◌, ◌++◌, false}
use Rattle.cell_names.specs.FullNames.{full_name_octets}
use Rattle.cell_names.proofs.SpelledWalks.{spelled_whole, not_spelled, tests_octets}
use Rattle.cell_names.proofs.spelled.spell.Goals as goal

pub returns-in-Some : goal.returns-in-Some
returns-in-Some c =
    let octets = c.args.octets.now in
    let components = c.args.components.now in
    let split : octets ≡ full_name_octets components ++ c.in-Some.rest.now = c.in-Some.ensures in
    tests_octets c.is_empty.result (full_name_octets components) octets
    (spelled_whole octets (full_name_octets components) c.in-Some.rest.now c.is_empty.result split c.is_empty.ensures)

pub returns-in-None : goal.returns-in-None
returns-in-None c =
    let octets = c.args.octets.now in
    let components = c.args.components.now in
    tests_octets false (full_name_octets components) octets (λ t. absurd (cc (t)), λ e. absurd (not_spelled octets (full_name_octets components) c.in-None.ensures e))
