use Rattle.std.proofs.Common.{inl, inr, refl, sym, ◌∙◌}
use Rattle.house_program.proofs.CauseLemmas.{err_why, none_ended, none_redone, none_resumed}
use Rattle.house_program.proofs.reading.house_of.Goals as goal

pub returns-in_err-house-clause-why : goal.returns-in_err-house-clause-why
returns-in_err-house-clause-why c =
    err_why _ _ c.from_residual.result c.from_residual.ensures.1
    (λ s is. none_resumed _ _ _ _ _ s c.in-Some.ensures.some c.body_in.ensures c.in_err-house.ensures.why is)

pub returns-in_err-redo_all-clause-why : goal.returns-in_err-redo_all-clause-why
returns-in_err-redo_all-clause-why c =
    err_why _ _ c.from_residual-in_err-redo_all.result c.from_residual-in_err-redo_all.ensures.1
    (λ s is. none_redone _ _ _ _ _ _ s c.in-Some.ensures.some c.body_in.ensures c.in_ok-house.ensures.ok c.in_err-redo_all.ensures.why is)

pub returns-clause-why : goal.returns-clause-why
returns-clause-why c =
    none_ended _ _ _ _ _ _ _ c.in-Some.ensures.some c.body_in.ensures c.in_ok-house.ensures.ok c.in_ok-redo_all.ensures.ok c.ended.ensures.why
