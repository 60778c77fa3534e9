use Rattle.std.proofs.Common.{inl, inr, refl, sym, ◌∙◌, ap, subst}
use Rattle.std.specs.Prelude.{Err}
use Rattle.cds_base.proofs.KnownOctets.{appends_none}
use Rattle.house_program.specs.Causes.{HasStatusCause, counts_of}
use Rattle.house_program.specs.declared.status.Status.{Status}
use Rattle.house_program.proofs.CauseLemmas.{after_calm, calm_either, calm_memory, err_status}
use Rattle.house_program.proofs.LifeLemmas.{goes_on, memory_plain}
use Rattle.house_program.proofs.ProcessLemmas.{err_lived, idle, idle_at, living_ends, living_first, living_on, living_stops, may_stop}
use Rattle.house_program.proofs.running.serve_all.Goals as goal

pub returns-in_err-lines-clause-lived : goal.returns-in_err-lines-clause-lived
returns-in_err-lines-clause-lived g c =
    err_lived _ _ _ _ _ _ c.from_residual.result c.from_residual.ensures.1
    (λ s is. idle _ _ _ _ _ s (memory_plain s is) (appends_none _) (λ f k. k) (λ f e. e))

pub returns-in_err-lines-clause-cause : goal.returns-in_err-lines-clause-cause
returns-in_err-lines-clause-cause g c =
    let b = counts_of g.S.Source.faults g.K.Sink.faults g.F.Folder.faults c.args.source.now c.args.sink.now c.args.folder.now in
    err_status (HasStatusCause (λ x. ⊥) b b) _ c.from_residual.result c.from_residual.ensures.1 (λ s is. calm_memory (λ x. ⊥) b b s is refl)

pub returns-in_err-begun-clause-lived : goal.returns-in_err-begun-clause-lived
returns-in_err-begun-clause-lived g c =
    err_lived _ _ _ _ _ _ c.from_residual-in_err-begun.result c.from_residual-in_err-begun.ensures.1
    (λ s is. idle_at _ _ _ c.args.found c.requires.found s (may_stop _ _ s c.in_err-begun.ensures.why is) (appends_none _))

pub returns-in_err-begun-clause-cause : goal.returns-in_err-begun-clause-cause
returns-in_err-begun-clause-cause g c =
    let b = counts_of g.S.Source.faults g.K.Sink.faults g.F.Folder.faults c.args.source.now c.args.sink.now c.args.folder.now in
    err_status (HasStatusCause (λ x. ⊥) b b) _ c.from_residual-in_err-begun.result c.from_residual-in_err-begun.ensures.1
    (λ s is. calm_either (λ x. ⊥) b b _ _ s c.in_err-begun.ensures.why is refl)

pub segments-init : goal.segments-init
segments-init g c = record {
  living =
      living_first _ _ c.args.found c.requires.found _ _ _ _ _ _ _ c.in_ok-begun.ensures.said c.in_ok-lines.ensures
      c.in_ok-begun.ensures.number c.in_ok-begun.ensures.before c.in_ok-begun.ensures.house c.in_ok-begun.ensures.first;
  locked = c.requires.locked;
  calm = refl;
}

pub serve_on-requires : goal.serve_on-requires
serve_on-requires g c = record {
  locked = c.segments.invariant.locked;
  above = c.segments.invariant.living.ready.above;
  unbroken = c.segments.invariant.living.ready.unbroken;
}

pub segments-preserved : goal.segments-preserved
segments-preserved g c =
    let grown = goes_on _ (sym c.in_default.is ∙ c.after.ensures) in
    record {
      living =
          living_on _ _ _ _ _ _ _ _ _ _ _ _ _ _ _ _ _ _ _ _ _ _ _ _ c.segments.invariant.living c.serve_on.ensures.done _ c.in_ok-left.was grown _
          c.in_ok-next.ensures.number c.in_ok-next.ensures.before c.in_ok-next.ensures.first c.in_ok-next.ensures.said;
      locked = c.serve_on.ensures.locked;
      calm = c.in_ok-left.ensures.cause.1 grown ∙ c.segments.invariant.calm;
    }

pub returns-in_err-left-clause-lived : goal.returns-in_err-left-clause-lived
returns-in_err-left-clause-lived g c =
    err_lived _ _ _ _ _ _ c.from_residual-in_err-left.result c.from_residual-in_err-left.ensures.1
    (λ s is. living_ends _ _ _ _ _ _ _ _ _ _ _ _ _ _ _ _ _ _ _ _ _ _ _ _ c.segments.invariant.living c.serve_on.ensures.done s
    (inr (c.in_err-left.was ∙ ap Err (sym is))))

pub returns-in_err-left-clause-cause : goal.returns-in_err-left-clause-cause
returns-in_err-left-clause-cause g c =
    let m = counts_of g.S.Source.faults g.K.Sink.faults g.F.Folder.faults c.segments.source c.segments.sink c.segments.folder in
    let b = counts_of g.S.Source.faults g.K.Sink.faults g.F.Folder.faults c.args.source.now c.args.sink.now c.args.folder.now in
    let n = counts_of g.S.Source.faults g.K.Sink.faults g.F.Folder.faults c.serve_on.new.source c.serve_on.new.sink c.serve_on.new.folder in
    err_status (HasStatusCause (λ x. ⊥) b n) _ c.from_residual-in_err-left.result c.from_residual-in_err-left.ensures.1
    (λ s is. after_calm (λ x. ⊥) b m n s c.segments.invariant.calm
    (subst (λ (x : Status). HasStatusCause (λ y. ⊥) m n x) (sym is) c.in_err-left.ensures.cause))

pub returns-in-Some-clause-lived : goal.returns-in-Some-clause-lived
returns-in-Some-clause-lived g c =
    living_ends _ _ _ _ _ _ _ _ _ _ _ _ _ _ _ _ _ _ _ _ _ _ _ _ c.segments.invariant.living c.serve_on.ensures.done c.in-Some.status
    (inl (_, c.in_ok-left.was, sym c.in-Some.is ∙ c.after.ensures))

pub returns-in-Some-clause-cause : goal.returns-in-Some-clause-cause
returns-in-Some-clause-cause g c =
    let b = counts_of g.S.Source.faults g.K.Sink.faults g.F.Folder.faults c.args.source.now c.args.sink.now c.args.folder.now in
    let n = counts_of g.S.Source.faults g.K.Sink.faults g.F.Folder.faults c.serve_on.new.source c.serve_on.new.sink c.serve_on.new.folder in
    after_calm (λ x. ⊥) b _ n c.in-Some.status c.segments.invariant.calm
    (c.in_ok-left.ensures.cause.0 c.in-Some.status (sym c.after.ensures ∙ c.in-Some.is))

pub returns-in_err-next-clause-lived : goal.returns-in_err-next-clause-lived
returns-in_err-next-clause-lived g c =
    let grown = goes_on _ (sym c.in_default.is ∙ c.after.ensures) in
    err_lived _ _ _ _ _ _ c.from_residual-in_err-next.result c.from_residual-in_err-next.ensures.1
    (λ s is. living_stops _ _ _ _ _ _ _ _ _ _ _ _ _ _ _ _ _ _ _ _ _ _ _ _ c.segments.invariant.living c.serve_on.ensures.done _ c.in_ok-left.was
    grown s (may_stop _ _ s c.in_err-next.ensures.why is))

pub returns-in_err-next-clause-cause : goal.returns-in_err-next-clause-cause
returns-in_err-next-clause-cause g c =
    let grown = goes_on _ (sym c.in_default.is ∙ c.after.ensures) in
    let b = counts_of g.S.Source.faults g.K.Sink.faults g.F.Folder.faults c.args.source.now c.args.sink.now c.args.folder.now in
    let n = counts_of g.S.Source.faults g.K.Sink.faults g.F.Folder.faults c.serve_on.new.source c.serve_on.new.sink c.serve_on.new.folder in
    err_status (HasStatusCause (λ x. ⊥) b n) _ c.from_residual-in_err-next.result c.from_residual-in_err-next.ensures.1
    (λ s is. calm_either (λ x. ⊥) b n _ _ s c.in_err-next.ensures.why is (c.in_ok-left.ensures.cause.1 grown ∙ c.segments.invariant.calm))
