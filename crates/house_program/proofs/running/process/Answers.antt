use Rattle.std.proofs.Common.{inl, refl, ◌∙◌}
use Rattle.cds_base.proofs.KnownOctets.{appends_none}
use Rattle.house_program.specs.Causes.{HasStatusCause, IsFolderRefused, counts_of}
use Rattle.house_program.specs.Statuses.{status_of}
use Rattle.house_program.proofs.CauseLemmas.{after_calm, cause_more, err_status, folder_cause, folder_end_later, same_counts, unread_plain}
use Rattle.house_program.proofs.LifeLemmas.{folder_plain}
use Rattle.house_program.proofs.ProcessLemmas.{err_lived, idle, lived_later}
use Rattle.house_program.proofs.running.process.Goals as goal

pub returns-in_err-lock-clause-lived : goal.returns-in_err-lock-clause-lived
returns-in_err-lock-clause-lived g c =
    err_lived _ _ _ _ _ _ c.from_residual.result c.from_residual.ensures.1
    (λ s is. idle _ _ _ _ _ s (folder_plain _ s is) (appends_none _) c.lock.ensures.quiet.fewer c.lock.ensures.quiet.calm)

pub returns-in_err-found-clause-lived : goal.returns-in_err-found-clause-lived
returns-in_err-found-clause-lived g c =
    err_lived _ _ _ _ _ _ c.from_residual-in_err-found.result c.from_residual-in_err-found.ensures.1
    (λ s is. idle _ _ _ _ _ s (unread_plain _ _ _ _ s c.in_err-found.ensures.why is) (appends_none _)
    (λ f k. c.lock.ensures.quiet.fewer f (c.read_folder.ensures.quiet.fewer f k)) (λ f e. c.lock.ensures.quiet.calm f (c.read_folder.ensures.quiet.calm f e)))

pub returns-clause-lived : goal.returns-clause-lived
returns-clause-lived g c =
    lived_later _ _ _ _ _ _ _ _ (λ f k. c.lock.ensures.quiet.fewer f (c.read_folder.ensures.quiet.fewer f k))
    (λ f e. c.lock.ensures.quiet.calm f (c.read_folder.ensures.quiet.calm f e)) c.serve_all.ensures.lived

pub returns-in_err-lock-clause-cause : goal.returns-in_err-lock-clause-cause
returns-in_err-lock-clause-cause g c =
    let R = IsFolderRefused (g.F.Folder.kept c.lock.new.self) in
    let b = counts_of g.S.Source.faults g.K.Sink.faults g.F.Folder.faults c.args.source.now c.args.sink.now c.args.folder.now in
    let n = counts_of g.S.Source.faults g.K.Sink.faults g.F.Folder.faults c.args.source.now c.args.sink.now c.lock.new.self in
    err_status (HasStatusCause R b n) _ c.from_residual.result c.from_residual.ensures.1
    (λ s is. folder_cause R b.reads n.reads b.writes n.writes b.folder n.folder _ s is refl refl c.in_err-lock.ensures.cause)

pub returns-in_err-found-clause-cause : goal.returns-in_err-found-clause-cause
returns-in_err-found-clause-cause g c =
    let K = g.F.Folder.kept c.read_folder.new.folder in
    let b = counts_of g.S.Source.faults g.K.Sink.faults g.F.Folder.faults c.args.source.now c.args.sink.now c.args.folder.now in
    let n = counts_of g.S.Source.faults g.K.Sink.faults g.F.Folder.faults c.args.source.now c.args.sink.now c.read_folder.new.folder in
    err_status (HasStatusCause (IsFolderRefused K) b n) _ c.from_residual-in_err-found.result c.from_residual-in_err-found.ensures.1
    (λ s is. folder_end_later K b.reads b.writes b.folder _ n.folder _ s c.in_ok-lock.ensures.cause c.in_err-found.ensures.why is)

pub returns-clause-cause : goal.returns-clause-cause
returns-clause-cause g c =
    let R = IsFolderRefused (g.F.Folder.kept c.serve_all.new.folder) in
    let b = counts_of g.S.Source.faults g.K.Sink.faults g.F.Folder.faults c.args.source.now c.args.sink.now c.args.folder.now in
    let m = counts_of g.S.Source.faults g.K.Sink.faults g.F.Folder.faults c.args.source.now c.args.sink.now c.read_folder.new.folder in
    let n = counts_of g.S.Source.faults g.K.Sink.faults g.F.Folder.faults c.serve_all.new.source c.serve_all.new.sink c.serve_all.new.folder in
    cause_more (λ s. ⊥) R b n (status_of c.serve_all.result) (λ s none. absurd none)
    (after_calm (λ s. ⊥) b m n (status_of c.serve_all.result)
    (same_counts b.reads m.reads b.writes m.writes b.folder m.folder refl refl (c.in_ok-found.ensures.calm ∙ c.in_ok-lock.ensures.cause))
    c.serve_all.ensures.cause)
