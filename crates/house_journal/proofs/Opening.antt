-- What is told where an open ends, call by call.
use Rattle.std.proofs.Common.{◌≡◌, ◌≢◌, inl, inr, ℕ, zero, suc, ◌<◌, Bool, true, false, if◌then◌else◌, List, [], ◌∷◌, length, refl, sym, ap, subst, arith}
use Rattle.std.specs.Prelude.{Option, None, Some, Result, Ok, Err, IsErrAnd, IsErrOf}
use Rattle.std.proofs.lemmas.Bool.{ne_eqb}
use Rattle.cds_stamps.specs.declared.alloc_or.AllocOr.{AllocOr}
use Rattle.house_journal.specs.declared.disk.DiskError.{DiskError}
use Rattle.house_journal.specs.declared.disk.DiskError.TheVariants.{Failed, OutOfMemory}
use Rattle.house_journal.specs.declared.journal.JournalFault.{JournalFault}
use Rattle.house_journal.specs.Disks.{Told, IsDone, may_fail, may_answer, plan_after}
use Rattle.house_journal.specs.Faults.{TellsOpen, fault_of}
use Rattle.house_journal.specs.Tellings.{Call, Writes, Cuts, Syncs, Done, FailedAt, MayAnswer, TellsRun, TellsReading, gate_calls, plan_after_calls, read_by, told_by}

-- a call takes the plan on
told_plan : (call : Call) (failed : Bool) (file : List ℕ) (t : Told) → (told_by call failed file t).plan ≡ plan_after t.plan
told_plan (Writes at piece) failed file t = refl
told_plan (Cuts size) failed file t = refl
told_plan Syncs failed file t = refl

-- one call answered, and the others came after it
module _ (call : Call) (calls : List Call) (file : List ℕ) (t : Told) (answers : may_answer t.plan ≡ true) where
  abbrev after : Told
  after = told_by call false file t

  abbrev read : List ℕ
  read = read_by call file

  pub done_more : (k : ℕ) (new : Option Told) → Done calls read after k new → Done (call ∷ calls) file t (suc k) new
  done_more k new d = record {
    answered = (answers, subst (MayAnswer k) (told_plan call false file t) d.answered);
    tells = d.tells;
  }

  failed_more : (k : ℕ) (new : Option Told) → FailedAt calls read after k new → FailedAt (call ∷ calls) file t (suc k) new
  failed_more k new f = record {
    few = omega (arith, f.few);
    answered = (answers, subst (MayAnswer k) (told_plan call false file t) f.answered);
    fails = subst (λ p. may_fail (plan_after_calls k p) ≡ true) (told_plan call false file t) f.fails;
    tells = f.tells;
  }

  all_more : (new : Option Told) → Done calls read after (length calls) new → Done (call ∷ calls) file t (length (call ∷ calls)) new
  all_more new d =
      let all : suc (length calls) ≡ length (call ∷ calls) = omega arith in
      subst (λ (n : ℕ). Done (call ∷ calls) file t n new) all (done_more (length calls) new d)

  pub run_more : {T : Type 0} (r : Result T DiskError) (new : Option Told) → TellsRun calls read after r new → TellsRun (call ∷ calls) file t r new
  run_more (Ok x) new d = all_more new d
  run_more (Err Failed) new f = (suc f.0, failed_more f.0 new f.1)
  run_more (Err OutOfMemory) new d = (suc d.0, omega (arith, d.1), done_more d.0 new d.2)

  pub reading_more : {T : Type 0} (n : ℕ) (r : Result T DiskError) (new : Option Told) → TellsReading n calls read after r new
      → TellsReading (suc n) (call ∷ calls) file t r new
  reading_more n (Ok x) new d = all_more new d
  reading_more n (Err Failed) new (inl f) = inl (suc f.0, failed_more f.0 new f.1)
  reading_more n (Err Failed) new (inr d) = inr (done_more n new d)
  reading_more n (Err OutOfMemory) new d = (suc d.0, omega (arith, d.1), omega (arith, d.2), done_more d.0 new d.3)

-- no call was done
pub done_none : (calls : List Call) (file : List ℕ) (t : Told) (new : Option Told) → new ≡ Some t → Done calls file t 0 new
done_none calls file t new same = record { answered = tt; tells = same }

module _ (call : Call) (calls : List Call) (file : List ℕ) (t : Told) (new : Option Told) where
  at_first : may_fail t.plan ≡ true → new ≡ Some (told_by call true file t) → FailedAt (call ∷ calls) file t 0 new
  at_first fails told = record { few = omega arith; answered = tt; fails = fails; tells = told }

  -- the first call failed
  pub failed_run : {T : Type 0} (r : Result T DiskError) → IsErrAnd r (λ e. e ≡ Failed) → may_fail t.plan ≡ true → new ≡ Some (told_by call true file t)
      → TellsRun (call ∷ calls) file t r new
  failed_run (Ok x) is fails told = absurd is
  failed_run (Err Failed) is fails told = (0, at_first fails told)
  failed_run (Err OutOfMemory) is fails told = absurd (cc (is))

  pub failed_reading : {T : Type 0} (n : ℕ) (r : Result T DiskError) → IsErrAnd r (λ e. e ≡ Failed) → may_fail t.plan ≡ true → new ≡ Some (told_by call true file t)
      → TellsReading n (call ∷ calls) file t r new
  failed_reading n (Ok x) is fails told = absurd is
  failed_reading n (Err Failed) is fails told = inl (0, at_first fails told)
  failed_reading n (Err OutOfMemory) is fails told = absurd (cc (is))

  -- or there was no memory for it
  pub ended_run : {T : Type 0} (e : DiskError) (r : Result T DiskError) → IsErrAnd r (λ x. x ≡ e)
      → ((let failed : Result (Unit {0}) DiskError = Err e in IsErrOf failed Failed) → may_fail t.plan ≡ true)
      → ((let failed : Result (Unit {0}) DiskError = Err e in IsDone failed) → new ≡ Some (told_by call true file t))
      → ((let failed : Result (Unit {0}) DiskError = Err e in failed ≡ Err OutOfMemory) → new ≡ Some t) → TellsRun (call ∷ calls) file t r new
  ended_run e (Ok x) is fails failed memory = absurd is
  ended_run Failed (Err Failed) is fails failed memory = (0, at_first (fails refl) (failed tt))
  ended_run Failed (Err OutOfMemory) is fails failed memory = absurd (cc (is))
  ended_run OutOfMemory (Err Failed) is fails failed memory = absurd (cc (is))
  ended_run OutOfMemory (Err OutOfMemory) is fails failed memory = (0, omega arith, done_none (call ∷ calls) file t new (memory refl))

module _ (calls : List Call) (file : List ℕ) (t : Told) (new : Option Told) where
  -- without reads
  pub run_reading : {T : Type 0} (r : Result T DiskError) → TellsRun calls file t r new → TellsReading 0 calls file t r new
  run_reading (Ok x) d = d
  run_reading (Err Failed) f = inl f
  run_reading (Err OutOfMemory) d = (d.0, omega arith, d.1, d.2)

  -- a read failed, or there was no memory for what was read
  pub missed_reading : {T : Type 0} (n : ℕ) → n < length calls → Done calls file t n new → (e : DiskError) (r : Result T DiskError)
      → IsErrAnd r (λ x. x ≡ e) → TellsReading n calls file t r new
  missed_reading n few d e (Ok x) is = absurd is
  missed_reading n few d e (Err Failed) is = inr d
  missed_reading n few d e (Err OutOfMemory) is = (n, omega arith, few, d)

  -- the same error
  pub same_error : (T : Type 0) {U : Type 0} (n : ℕ) (e : DiskError) (r : Result U DiskError) → IsErrAnd r (λ x. x ≡ e)
      → (let failed : Result T DiskError = Err e in TellsReading n calls file t failed new) → TellsReading n calls file t r new
  same_error T n e (Ok x) is tells = absurd is
  same_error T n Failed (Err Failed) is tells = tells
  same_error T n Failed (Err OutOfMemory) is tells = absurd (cc (is))
  same_error T n OutOfMemory (Err Failed) is tells = absurd (cc (is))
  same_error T n OutOfMemory (Err OutOfMemory) is tells = tells

  -- as an answer of the open
  pub open_tells : {T U : Type 0} (s : Result T DiskError) (e : DiskError) (r : Result U (AllocOr JournalFault)) → s ≡ Err e
      → IsErrAnd r (λ x. x ≡ fault_of e) → TellsReading 1 calls file t s new → TellsOpen calls file t r new
  open_tells (Ok x) e r was is tells = absurd (cc)
  open_tells (Err Failed) OutOfMemory r was is tells = absurd (cc)
  open_tells (Err OutOfMemory) Failed r was is tells = absurd (cc)
  open_tells (Err Failed) Failed (Ok x) was is tells = absurd is
  open_tells (Err OutOfMemory) OutOfMemory (Ok x) was is tells = absurd is
  open_tells {U = U} (Err Failed) Failed (Err x) was is tells =
      subst (λ (y : AllocOr JournalFault). let failed : Result U (AllocOr JournalFault) = Err y in TellsOpen calls file t failed new) (sym is) tells
  open_tells {U = U} (Err OutOfMemory) OutOfMemory (Err x) was is tells =
      subst (λ (y : AllocOr JournalFault). let failed : Result U (AllocOr JournalFault) = Err y in TellsOpen calls file t failed new) (sym is) tells

-- where nothing but the first call was done, or failed
module _ (call : Call) (calls : List Call) (file : List ℕ) (t : Told) (new : Option Told) where
  at_one : (k : ℕ) → FailedAt (call ∷ []) file t k new → FailedAt (call ∷ calls) file t k new
  at_one zero f = record { few = omega arith; answered = tt; fails = f.fails; tells = f.tells }
  at_one (suc k) f = absurd (omega (arith, f.few))

  pub done_one : Done (call ∷ []) file t 1 new → Done (call ∷ calls) file t 1 new
  done_one d = record { answered = d.answered; tells = d.tells }

  pub first_only : (T : Type 0) {U : Type 0} (e : DiskError) (r : Result U DiskError) → IsErrAnd r (λ x. x ≡ e)
      → (let failed : Result T DiskError = Err e in TellsReading 1 (call ∷ []) file t failed new) → TellsReading 1 (call ∷ calls) file t r new
  first_only T e (Ok x) is tells = absurd is
  first_only T Failed (Err Failed) is (inl f) = inl (f.0, at_one f.0 f.1)
  first_only T Failed (Err Failed) is (inr d) = inr (done_one d)
  first_only T Failed (Err OutOfMemory) is tells = absurd (cc (is))
  first_only T OutOfMemory (Err Failed) is tells = absurd (cc (is))
  first_only T OutOfMemory (Err OutOfMemory) is d = absurd (omega (arith, d.1, d.2))

-- a gate that is 0 needs no call, and each other does
pub calls_none : (place : ℕ) (gate : Option ℕ) → gate ≡ Some 0 → gate_calls place gate ≡ []
calls_none place gate is = ap (gate_calls place) is

pub calls_some : (place : ℕ) (gate : Option ℕ) → gate ≢ Some 0 → gate_calls place gate ≡ Writes place (0 ∷ []) ∷ Syncs ∷ []
calls_some place None other = refl
calls_some place (Some b) other =
    ap (λ (test : Bool). if test then [] else Writes place (0 ∷ []) ∷ Syncs ∷ []) (ne_eqb b 0 (λ is. other (ap Some is)))
