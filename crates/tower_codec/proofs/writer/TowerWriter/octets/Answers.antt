use Rattle.std.proofs.Common.{◌≡◌, List, drop, subst, ◌∙◌}
use Rattle.tower_codec.specs.Tower.{Floor}
use Rattle.tower_codec.specs.Spelling.{tower_octets}
use Rattle.tower_codec.specs.TowerReading.{known_floors}
use Rattle.tower_codec.proofs.SpellingLaws.{tower_spelled}
use Rattle.tower_codec.proofs.writer.TowerWriter.octets.Goals as goal

pub returns-clause-spelled : goal.returns-clause-spelled
returns-clause-spelled c =
    let octets = c.self.inside.octets.items in
    let spelled = (tower_spelled (known_floors c.self.inside.count (drop 2 octets)) octets c.self.invariant).1 in
    c.deref.ensures.value ∙ subst (λ (floors : List Floor). octets ≡ tower_octets floors) c.self.view_is spelled
