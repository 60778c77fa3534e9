use Rattle.std.proofs.Common.{inl, inr, refl, sym, ◌∙◌}
use Rattle.house_program.proofs.CauseLemmas.{err_why, no_house, no_segment, whole_segment}
use Rattle.house_program.proofs.reading.read_segment.Goals as goal

pub returns-in_err-title-clause-why : goal.returns-in_err-title-clause-why
returns-in_err-title-clause-why c = err_why _ _ c.from_residual.result c.from_residual.ensures.1 (λ s is. inl is)

pub returns-in_err-house-clause-why : goal.returns-in_err-house-clause-why
returns-in_err-house-clause-why c =
    err_why _ _ c.from_residual-in_err-house.result c.from_residual-in_err-house.ensures.1
    (λ s is. no_house _ _ _ _ _ s
    (whole_segment c.args.number c.deref.result.now c.args.octets.now _ _ (c.deref.ensures.value ∙ c.in_ok-title.ensures) c.in-Some.ensures.some c.in-Some.ensures.ends)
    c.in-Some-first_record.ensures.some c.in_err-house.ensures.why is)

pub returns-in_default-clause-why : goal.returns-in_default-clause-why
returns-in_default-clause-why c =
    no_segment c.args.number c.deref.result.now c.args.octets.now c.not_read.result (c.deref.ensures.value ∙ c.in_ok-title.ensures)
    c.in_default.ensures.none c.not_read.ensures
