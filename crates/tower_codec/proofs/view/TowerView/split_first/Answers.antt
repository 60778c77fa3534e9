use Rattle.std.proofs.Common.{sym, ◌∙◌}
use Rattle.tower_codec.specs.TowerReading.{known_floor, after_known_floor}
use Rattle.tower_codec.proofs.Known.{none_ahead, first_ahead}
use Rattle.tower_codec.proofs.view.TowerView.split_first.Goals as goal

pub returns-then-self-eq0 : goal.returns-then-self-eq0
returns-then-self-eq0 c = sym c.self.view_is ∙ none_ahead c.self.inside.count c.self.inside.body.now c.if-self-eq0.true

pub take_floor-requires : goal.take_floor-requires
take_floor-requires c =
    let x = c.self.inside.body.now in
    (known_floor x, after_known_floor x, (first_ahead c.self.inside.count x c.if-self-eq0.false c.self.invariant).stands)

pub invariant_of-result : goal.invariant_of-result
invariant_of-result c =
    rw c.take_floor.ensures.rest (first_ahead c.self.inside.count c.self.inside.body.now c.if-self-eq0.false c.self.invariant).behind

pub returns : goal.returns
returns c =
    rw (c.take_floor.ensures.floor, c.take_floor.ensures.rest)
    (sym c.self.view_is ∙ (first_ahead c.self.inside.count c.self.inside.body.now c.if-self-eq0.false c.self.invariant).floors)
