use Rattle.std.proofs.Common.{refl}
use Rattle.house_program.proofs.CauseLemmas.{run_later}
use Rattle.house_program.proofs.LifeLemmas.{spoke, unspoken}
use Rattle.house_program.proofs.segments.speak_and_serve.Goals as goal

pub returns-in-Ok-clause-spoken : goal.returns-in-Ok-clause-spoken
returns-in-Ok-clause-spoken g c before bodies at =
    spoke g.D.Disk before bodies _ _ _ _ _ _ _ _ _ _ _ c.in-Ok.ensures.ok (c.serve.ensures.served before bodies at)

pub returns-in-Ok-clause-cause : goal.returns-in-Ok-clause-cause
returns-in-Ok-clause-cause g c =
    let r = c.requires.ready in
    let s = c.serve.ensures.served r.0 r.1 r.2 in
    run_later _ _ _ _ _ _ _ _ c.in-Ok.ensures.cause.answered s.cause

pub returns-in-Err-clause-spoken : goal.returns-in-Err-clause-spoken
returns-in-Err-clause-spoken g c before bodies at =
    unspoken g.D.Disk g.met.D.Disk.only_now before bodies _ _ _ _ _ _ at c.in-Err.ensures.err

pub returns-in-Err-clause-cause : goal.returns-in-Err-clause-cause
returns-in-Err-clause-cause g c = (refl, c.in-Err.ensures.cause.failed, refl)
