use Rattle.tower_codec.proofs.SpellingLaws.{towers_apart}
use Rattle.tower_codec.proofs.laws.no_tower_begins_another.Goals as goal

pub returns : goal.returns
returns c = towers_apart
