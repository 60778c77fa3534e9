use Rattle.std.proofs.Common.{inl, inr, refl, sym, ◌∙◌}
use Rattle.house_program.proofs.CauseLemmas.{err_why}
use Rattle.house_program.proofs.reading.redo_all.Goals as goal

pub returns-in_err-redo-clause-why : goal.returns-in_err-redo-clause-why
returns-in_err-redo-clause-why c = err_why _ _ c.from_residual.result c.from_residual.ensures.1 (λ s is. inl is)
