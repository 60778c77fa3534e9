use Rattle.cds_explain.specs.PrivateExplainers.{MakesOnly}
use Rattle.cds_explain.proofs.AddingLemmas.{any_fault, was_fault}
use Rattle.cds_explain.proofs.making.make_houses.Goals as goal

pub returns-in-Err-clause-stopped : goal.returns-in-Err-clause-stopped
returns-in-Err-clause-stopped c =
    any_fault c.at_making.result (λ reason is.
    let was = c.at_making.ensures.was reason is in
    was_fault (λ cause. MakesOnly c.make_house.new.replay.text.items) c.in-Err.fault was.0 was.1 (c.in-Err.ensures.stopped _ c.loop-place.invariant))
