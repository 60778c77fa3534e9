use Rattle.std.proofs.Common.{◌≡◌, ◌∙◌, ap}
use Rattle.std.specs.Prelude.{unwrap_or}
use Rattle.house_directory.specs.DirectoryTakes.{place_in}
use Rattle.house_directory.proofs.Phases.{place_within}
use Rattle.house_directory.proofs.states.Held.own_place.Goals as goal

pub returns-clause-within : goal.returns-clause-within
returns-clause-within c = λ some.
    let is : c.unwrap_or.result ≡ place_in c.args.house c.args.self.now.members = c.unwrap_or.ensures ∙ ap (λ o. unwrap_or o 0) c.place.ensures in
    rw is (place_within c.args.house c.args.self.now.members some)
