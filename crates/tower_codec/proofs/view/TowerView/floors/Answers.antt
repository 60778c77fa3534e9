use Rattle.std.proofs.Common.{length, sym, ap, ◌∙◌}
use Rattle.tower_codec.proofs.Known.{length-known_floors}
use Rattle.tower_codec.proofs.view.TowerView.floors.Goals as goal

pub returns : goal.returns
returns c = c.from.ensures ∙ sym (length-known_floors c.self.inside.count c.self.inside.body.now) ∙ ap length c.self.view_is
