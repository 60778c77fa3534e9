use Rattle.cds_clerk.proofs.HeardLaws.{lacks_among}
use Rattle.cds_clerk.proofs.heard.Heard.look_among.Goals as goal

pub returns-in-Some-clause-among : goal.returns-in-Some-clause-among
returns-in-Some-clause-among c =
    lacks_among c.in_ok-looked.field-0 c.in-Some.looked c.args.houses.now c.loop-house.house-index _ c.in-Some.is c.loop-house-test.true c.in_ok-looked.ensures.house
