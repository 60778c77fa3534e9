use Rattle.cds_stamps.proofs.AscendingLaws.{ascending-rises, ascending-has, ascending-had, ascending-only}
use Rattle.cds_stamps.proofs.laws.octets_ascend_once.Goals as goal

pub returns-clause-rises : goal.returns-clause-rises
returns-clause-rises c = ascending-rises

pub returns-clause-same : goal.returns-clause-same
returns-clause-same c = λ all o. (ascending-had all o, ascending-has all o)

pub returns-clause-only : goal.returns-clause-only
returns-clause-only c = λ all once rises same. ascending-only all once rises (λ o. (same o).0) (λ o. (same o).1)
