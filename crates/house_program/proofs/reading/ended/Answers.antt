use Rattle.std.proofs.Common.{inl, inr, refl, sym, ◌∙◌}
use Rattle.house_program.proofs.CauseLemmas.{err_why, unlawful}
use Rattle.house_program.proofs.reading.ended.Goals as goal

pub returns-in_err-house-clause-why : goal.returns-in_err-house-clause-why
returns-in_err-house-clause-why c = err_why _ _ c.from_residual.result c.from_residual.ensures.1 (λ s is. inl is)

pub returns-in-None-clause-why : goal.returns-in-None-clause-why
returns-in-None-clause-why c = unlawful c.args.house.home c.in_ok-house.field-0 c.in-None.is c.in_ok-house.ensures.lawful
