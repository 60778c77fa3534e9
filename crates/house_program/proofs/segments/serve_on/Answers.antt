use Rattle.std.proofs.Common.{◌≡◌, ◌↔◌, ◌≤◌, ℕ, true, inl, refl, subst, sym, ◌∙◌}
use Rattle.cds_base.proofs.KnownOctets.{appends_none}
use Rattle.house_segments.specs.Segments.{HasFaultCause}
use Rattle.house_program.specs.Beginnings.{first_bodies}
use Rattle.house_program.proofs.CauseLemmas.{counts_later, ends_failed, err_segment, folder_cause, not_begun_cause, rose_later, segment_cause}
use Rattle.house_program.proofs.LifeLemmas.{begun_unmade, folder_plain, named, plain_unmade, refused, said_as, unnamed, unsaid}
use Rattle.house_program.proofs.segments.serve_on.Goals as goal

pub name-requires-clause-above : goal.name-requires-clause-above
name-requires-clause-above g c = λ files kept. c.requires.above files (c.make.ensures.quiet.fewer files kept)

pub speak_and_serve-ending-requires-clause-ready : goal.speak_and_serve-ending-requires-clause-ready
speak_and_serve-ending-requires-clause-ready g c = (c.args.next.now.before, first_bodies c.args.next.now, c.in-Ok.ensures.ok)

pub returns-in_err-file-clause-done : goal.returns-in_err-file-clause-done
returns-in_err-file-clause-done g c =
    refused _ _ _ _ _ _ _ _ _ c.from_residual.result c.from_residual.ensures.1 (λ s is. plain_unmade _ s (folder_plain _ s is)) (appends_none _)
    (λ files kept. inl (c.make.ensures.quiet.fewer files kept)) (λ files left. inl (c.make.ensures.quiet.calm files left))

pub not_begun-requires-clause-cause : goal.not_begun-requires-clause-cause
not_begun-requires-clause-cause g c =
    subst (λ (n : ℕ). HasFaultCause n (g.F.File.Disk.faults c.in-Err.segment.disk) c.in-Err.segment.fault) c.in_ok-file.ensures.fresh c.in-Err.ensures.cause

pub close-requires-clause-failed : goal.close-requires-clause-failed
close-requires-clause-failed g c =
    subst (λ d. (c.is_failed.result ≡ true) ↔ (1 ≤ g.F.File.Disk.faults d)) (sym c.into_disk.ensures)
    (ends_failed _ _ _ _ _ _ _ _ (c.in-Ok.ensures.calm ∙ c.in_ok-file.ensures.fresh) c.speak_and_serve-ending.ensures.cause c.is_failed.ensures)

pub returns-in-Err-clause-done : goal.returns-in-Err-clause-done
returns-in-Err-clause-done g c =
    unsaid _ _ _ _ _ _ _ _ _ (begun_unmade _ _ _ c.not_begun.ensures.status c.in-Err.ensures.full) (appends_none _)
    (λ files kept. inl (c.make.ensures.quiet.fewer files (c.not_begun.ensures.quiet.fewer files kept)))
    (λ files left. inl (c.make.ensures.quiet.calm files (c.not_begun.ensures.quiet.calm files left)))

pub returns-in_err-name-clause-done : goal.returns-in_err-name-clause-done
returns-in_err-name-clause-done g c =
    refused (g.F.Folder.kept c.args.folder.now) (g.F.Folder.left_ever c.args.folder.now) _ _ _ _ (g.F.Folder.kept c.name.new.self)
    (g.F.Folder.left_ever c.name.new.self) _ c.from_residual-in_err-name.result c.from_residual-in_err-name.ensures.1 (λ s is. plain_unmade _ s (folder_plain _ s is)) (appends_none _)
    (unnamed _ _ _ c.args.next.now (g.F.Folder.kept c.args.folder.now) (g.F.Folder.kept c.make.new.self) (g.F.Folder.kept c.args.folder.now)
    (g.F.Folder.kept c.make.new.self) (g.F.Folder.kept c.name.new.self) c.disk.ensures c.in-Ok.ensures.ok c.make.ensures.quiet.fewer
    c.make.ensures.quiet.fewer c.in_err-name.ensures.one)
    (unnamed _ _ _ c.args.next.now (g.F.Folder.left_ever c.args.folder.now) (g.F.Folder.left_ever c.make.new.self) (g.F.Folder.kept c.args.folder.now)
    (g.F.Folder.kept c.make.new.self) (g.F.Folder.left_ever c.name.new.self) c.disk.ensures c.in-Ok.ensures.ok c.make.ensures.quiet.calm
    c.make.ensures.quiet.fewer c.name.ensures.ever)

pub returns-clause-done : goal.returns-clause-done
returns-clause-done g c =
    named (g.F.Folder.kept c.args.folder.now) (g.F.Folder.left_ever c.args.folder.now) c.args.next.now _ _ _ _ _ _ _ _ _
    (said_as _ _ _ _ _ _ _ _ _ _ _ _ _ c.deref.ensures.value
    (c.speak_and_serve-ending.ensures.spoken c.args.next.now.before (first_bodies c.args.next.now) c.in-Ok.ensures.ok))
    (g.F.Folder.kept c.make.new.self) (g.F.Folder.left_ever c.make.new.self) (g.F.Folder.kept c.name.new.self) (g.F.Folder.left_ever c.name.new.self)
    (g.F.Folder.kept c.close.new.self) (g.F.Folder.left_ever c.close.new.self) _ c.disk.result.now c.into_disk.result refl c.in-Ok.ensures.ok
    c.digest-digest.ensures c.disk.ensures c.into_disk.ensures
    c.make.ensures.quiet.fewer c.make.ensures.quiet.calm c.in_ok-name.ensures.others c.name.ensures.ever
    (c.close.ensures.kept _ c.in_ok-name.ensures.named) (c.close.ensures.ever _ c.in_ok-name.ensures.named)

pub returns-in_err-file-clause-cause : goal.returns-in_err-file-clause-cause
returns-in_err-file-clause-cause g c =
    err_segment _ _ _ c.from_residual.result c.from_residual.ensures.1
    (λ s is. folder_cause (λ x. ⊥) _ _ _ _ _ _ _ s is refl refl c.in_err-file.ensures.cause)

pub returns-in-Err-clause-cause : goal.returns-in-Err-clause-cause
returns-in-Err-clause-cause g c =
    not_begun_cause (λ x. ⊥) _ _ _ _ _ _ _ c.not_begun.ensures.status
    (subst (λ (n : ℕ). HasFaultCause n (g.F.File.Disk.faults c.in-Err.segment.disk) c.in-Err.segment.fault) c.in_ok-file.ensures.fresh c.in-Err.ensures.cause)
    (counts_later _ _ _ _ c.in_ok-file.ensures.cause c.not_begun.ensures.cause)

pub returns-in_err-name-clause-cause : goal.returns-in_err-name-clause-cause
returns-in_err-name-clause-cause g c =
    err_segment _ _ _ c.from_residual-in_err-name.result c.from_residual-in_err-name.ensures.1
    (λ s is. folder_cause (λ x. ⊥) _ _ _ _ _ _ _ s is refl refl
    (rose_later _ _ _ _ c.in_ok-file.ensures.cause c.in_err-name.ensures.cause))

pub returns-clause-cause : goal.returns-clause-cause
returns-clause-cause g c =
    segment_cause _ _ _ _ _ _ _ _ c.is_failed.result (record { ending = c.speak_and_serve-ending.result; digest = c.digest-digest.result }) _ refl
    c.speak_and_serve-ending.ensures.cause c.is_failed.ensures
    (counts_later c.is_failed.result _ _ _ (c.in_ok-name.ensures.cause ∙ c.in_ok-file.ensures.cause) c.close.ensures.cause)
