use Rattle.house_turns.proofs.Redoing.{ended, ended_new, lawful_of}
use Rattle.house_turns.proofs.house.House.end.Goals as goal

pub returns-in_default-clause-some : goal.returns-in_default-clause-some
returns-in_default-clause-some c = ended_new c.args.self c.new.result c.in_default.is c.new.ensures

pub returns-in-Some-2-clause-some : goal.returns-in-Some-2-clause-some
returns-in-Some-2-clause-some c =
    ended c.args.self c.with.result c.in-Some.home c.in-Some-2.home c.in_ok-image.image.items c.in-Some.is c.in_ok-image.ensures.fits
    c.in_ok-image.ensures.octets (rw (c.in-Some-2.is, c.deref.ensures.value) at c.in_ok-home.ensures) c.with.ensures

pub returns-clause-lawful : goal.returns-clause-lawful
returns-clause-lawful c = λ may.
    let none = rw (c.in-None.is, c.deref.ensures.value) at c.in_ok-home.ensures in
    absurd (none _ (c.in_ok-image.ensures.starts (lawful_of c.args.self c.in-Some.home c.in-Some.is may)))
