use Rattle.std.proofs.Common.{◌++◌, ◌∷◌, [], ℕ, ◌^◌, ◌<◌, List, sym, ◌∙◌, subst, ap}
use Rattle.std.specs.Prelude.{Err}
use Rattle.house_journal.specs.Journals.{LeavesOnly}
use Rattle.house_segments.specs.Segments.{IsAt, IsWithOrWithout, disk_of, size_with}
use Rattle.house_serving.specs.PrivateParts.{HasKeepCause}
use Rattle.house_serving.specs.declared.ending.Ending.{Ending}
use Rattle.house_serving.proofs.Fronts.{kept_by_put, fault_keeps, only_full}
use Rattle.house_serving.proofs.answering.keep.Goals as goal

pub returns-in-Ok : goal.returns-in-Ok
returns-in-Ok g c before bodies at =
    rw c.in-Some.is
    (kept_by_put g.D.Disk before bodies g.met.D.Disk.counts_now c.in-Some.body.items c.args.segment.now c.put.new.self _
    (subst (λ (b : List ℕ). LeavesOnly g.D.Disk (disk_of c.args.segment.now) (disk_of c.put.new.self) (IsWithOrWithout before bodies b)) c.deref.ensures.value
    (c.put.ensures.any_moment before bodies at))
    (subst (λ (b : List ℕ). IsAt g.D.Disk c.put.new.self before (bodies ++ b ∷ [])) c.deref.ensures.value (c.in-Ok.ensures.ok before bodies at))
    (λ is. cc (is))
    c.in-Ok.ensures.cause)

pub returns-in-Err-Fault : goal.returns-in-Err-Fault
returns-in-Err-Fault g c before bodies at =
    rw c.in-Some.is
    (kept_by_put g.D.Disk before bodies g.met.D.Disk.counts_now c.in-Some.body.items c.args.segment.now c.put.new.self _
    (subst (λ (b : List ℕ). LeavesOnly g.D.Disk (disk_of c.args.segment.now) (disk_of c.put.new.self) (IsWithOrWithout before bodies b)) c.deref.ensures.value
    (c.put.ensures.any_moment before bodies at))
    tt
    (λ is. only_full c.in-Err-Fault.fault _ (λ full. (
      (c.put.ensures.full (cc (full))).1,
      subst (λ (b : List ℕ). 2 ^ 40 < size_with (bodies ++ b ∷ [])) c.deref.ensures.value (c.put.ensures.large (cc (full)) before bodies at),
    )) (ap Err (sym c.ending_of.ensures) ∙ is))
    (subst (λ (e : Ending). HasKeepCause (g.D.Disk.faults (disk_of c.args.segment.now)) (g.D.Disk.faults (disk_of c.put.new.self)) (Err e)) (sym c.ending_of.ensures)
    (fault_keeps _ _ c.in-Err-Fault.fault (λ is. c.put.ensures.open (cc (is))) (rw c.in-Err-Fault.field-0-is at c.in-Err-Fault.ensures.cause))))

pub returns-in-Err-OutOfMemory : goal.returns-in-Err-OutOfMemory
returns-in-Err-OutOfMemory g c before bodies at =
    rw c.in-Some.is
    (kept_by_put g.D.Disk before bodies g.met.D.Disk.counts_now c.in-Some.body.items c.args.segment.now c.put.new.self _
    (subst (λ (b : List ℕ). LeavesOnly g.D.Disk (disk_of c.args.segment.now) (disk_of c.put.new.self) (IsWithOrWithout before bodies b)) c.deref.ensures.value
    (c.put.ensures.any_moment before bodies at))
    tt
    (λ is. cc (is))
    (rw c.in-Err-OutOfMemory.field-0-is at c.in-Err-OutOfMemory.ensures.cause))
