-- What is told where a put ends.
use Rattle.std.proofs.Common.{◌≡◌, ℕ, ◌<◌, List, [], refl, sym, subst, true}
use Rattle.std.specs.Prelude.{Option, None, Some, Result, Ok, Err, IsErrAnd, IsErrOf, OnOk, IfSome}
use Rattle.house_journal.specs.declared.disk.DiskError.{DiskError}
use Rattle.house_journal.specs.declared.disk.DiskError.TheVariants.{Failed, OutOfMemory}
use Rattle.cds_stamps.specs.declared.alloc_or.AllocOr.{AllocOr}
use Rattle.house_journal.specs.declared.journal.JournalFault.{JournalFault}
use Rattle.house_journal.specs.Faults.{TellsTried, fault_of}
use Rattle.house_journal.specs.Disks.{Told, IsDone, PlanAllows, may_fail, may_answer}
use Rattle.house_journal.specs.Journals.{IsListed}
use Rattle.house_journal.specs.Tellings.{Call, TellsPut, MayAnswer, plan_after_calls, told_after, told_failed}

-- a call answered, so its plan allows that
pub answered : {T E : Type 0} (o : Option Told) (t : Told) (failed : Type 0) (r : Result T E) → o ≡ Some t
    → PlanAllows o failed r → OnOk r (may_answer t.plan ≡ true)
answered o t failed r is allows = (subst (λ (p : Option Told). PlanAllows p failed r) is allows).1

-- a call failed, so its plan allows that
pub allowed : {T E : Type 0} (o : Option Told) (t : Told) (failed : Type 0) (r : Result T E) → o ≡ Some t
    → PlanAllows o failed r → failed → may_fail t.plan ≡ true
allowed o t failed r is allows = (subst (λ (p : Option Told). PlanAllows p failed r) is allows).0

module _ (calls : List Call) (file : List ℕ) (t : Told) (new : Option Told) (k : ℕ) (few : k < 4) (before : MayAnswer k t.plan) where
  -- a call failed
  pub failed_tells : (r : Result (Unit {0}) DiskError) → IsErrAnd r (λ e. e ≡ Failed) → may_fail (plan_after_calls k t.plan) ≡ true
      → new ≡ Some (told_failed k calls file t) → TellsPut calls file t r new
  failed_tells (Ok x) is fails told = absurd is
  failed_tells (Err Failed) is fails told = (k, record { few = few; answered = before; fails = fails; tells = told })
  failed_tells (Err OutOfMemory) is fails told = absurd (cc (is))

  -- a call failed, or there was no memory for it
  pub ended_tells : (e : DiskError) (r : Result (Unit {0}) DiskError) → IsErrAnd r (λ x. x ≡ e)
      → ((let failed : Result (Unit {0}) DiskError = Err e in IsErrOf failed Failed) → may_fail (plan_after_calls k t.plan) ≡ true)
      → ((let failed : Result (Unit {0}) DiskError = Err e in IsDone failed) → new ≡ Some (told_failed k calls file t))
      → ((let failed : Result (Unit {0}) DiskError = Err e in failed ≡ Err OutOfMemory) → new ≡ Some (told_after k calls file t)) → TellsPut calls file t r new
  ended_tells e (Ok x) is fails failed memory = absurd is
  ended_tells Failed (Err Failed) is fails failed memory = (k, record { few = few; answered = before; fails = fails refl; tells = failed tt })
  ended_tells Failed (Err OutOfMemory) is fails failed memory = absurd (cc (is))
  ended_tells OutOfMemory (Err Failed) is fails failed memory = absurd (cc (is))
  ended_tells OutOfMemory (Err OutOfMemory) is fails failed memory = (k, few, record { answered = before; tells = memory refl })

-- nothing was written since the last sync
pub listed_empty : (told : Option Told) → IsListed told → IfSome told (λ t. t.changes ≡ [])
listed_empty None listed = tt
listed_empty (Some t) listed = listed.0

-- the same, of the answer of a put
pub tried_tells : (calls : List Call) (file : List ℕ) (t : Told) (new : Option Told) (e : DiskError) (r : Result (Unit {0}) (AllocOr JournalFault))
    → IsErrAnd r (λ x. x ≡ fault_of e) → (let failed : Result (Unit {0}) DiskError = Err e in TellsPut calls file t failed new) → TellsTried calls file t r new
tried_tells calls file t new e (Ok x) is tells = absurd is
tried_tells calls file t new Failed (Err x) is tells =
    subst (λ (y : AllocOr JournalFault). let failed : Result (Unit {0}) (AllocOr JournalFault) = Err y in TellsTried calls file t failed new) (sym is) tells
tried_tells calls file t new OutOfMemory (Err x) is tells =
    subst (λ (y : AllocOr JournalFault). let failed : Result (Unit {0}) (AllocOr JournalFault) = Err y in TellsTried calls file t failed new) (sym is) tells
