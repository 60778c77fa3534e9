use Rattle.std.proofs.Common.{inl, inr, refl, sym, ◌∙◌}
use Rattle.house_program.proofs.CauseLemmas.{err_why, finds_file, on_ok, refused_by_file}
use Rattle.house_program.proofs.reading.read_folder.Goals as goal

pub returns-in_err-last-clause-why : goal.returns-in_err-last-clause-why
returns-in_err-last-clause-why g c =
    err_why _ _ c.from_residual.result c.from_residual.ensures.1 (λ s is. inl (_, is, c.in_err-last.ensures.cause))

pub returns-in-Some-clause-found : goal.returns-in-Some-clause-found
returns-in-Some-clause-found g c =
    finds_file _ _ _ _ c.read_segment.result (rw (c.in-Some.is) at c.in_ok-last.ensures.last) c.deref.ensures.value c.read_segment.ensures.ok

pub returns-in-Some-clause-why : goal.returns-in-Some-clause-why
returns-in-Some-clause-why g c =
    refused_by_file _ _ _ _ _ _ c.read_segment.result (rw (c.in-Some.is) at c.in_ok-last.ensures.last) c.in_ok-last.ensures.cause
    c.deref.ensures.value c.read_segment.ensures.why

pub returns-in-Some-clause-calm : goal.returns-in-Some-clause-calm
returns-in-Some-clause-calm g c = on_ok _ _ c.in_ok-last.ensures.cause
