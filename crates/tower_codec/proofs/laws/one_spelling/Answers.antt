use Rattle.std.proofs.Common.{sym, subst, List, ℕ}
use Rattle.tower_codec.specs.Tower.{IsTower}
use Rattle.tower_codec.proofs.SpellingLaws.{tower_spelled, tower_again}
use Rattle.tower_codec.proofs.laws.one_spelling.Goals as goal

pub returns : goal.returns
returns c = λ floors octets. (tower_spelled floors octets, λ h. subst (λ (x : List ℕ). IsTower floors x) (sym h.1) (tower_again floors h.0))
