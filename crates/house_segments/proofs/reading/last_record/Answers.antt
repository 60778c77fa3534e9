use Rattle.std.proofs.Common.{rules, arith}
use Rattle.std.proofs.lemmas.Grind.{common_steps}
use Rattle.house_segments.specs.Reading.{EndedLater}
use Rattle.house_segments.proofs.ReadLemmas.{ended_later, none_of, reading_on, unchained}
use Rattle.house_segments.proofs.reading.last_record.Goals as goal

pub records-preserved : goal.records-preserved
records-preserved c =
    reading_on _ _ _ _ _ _ _ _ _ c.records.invariant c.in-Some.ensures.some c.in_ok-last-2.ensures.is c.in_ok-last-2.ensures.digest c.in-Some.ensures.end

pub returns-in_err-last-2-clause-none : goal.returns-in_err-last-2-clause-none
returns-in_err-last-2-clause-none c =
    none_of _ _ (unchained _ _ _ _ _ _ _ c.records.invariant c.in-Some.ensures.some c.in_err-last-2.ensures.none)

pub returns-then-went_on-clause-none : goal.returns-then-went_on-clause-none
returns-then-went_on-clause-none c =
    let later : EndedLater c.records.last.digest c.records.rest.now = first_of (search rules, grind (arith, common_steps)) in
    ended_later _ _ _ _ _ c.records.invariant c.in_default.ensures.none c.in_default.ensures.at_end later
