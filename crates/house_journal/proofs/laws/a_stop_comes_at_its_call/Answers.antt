use Rattle.std.proofs.Common.{◌≡◌, ℕ, zero, suc, ◌≤◌, refl, ap, arith, true}
use Rattle.house_journal.specs.declared.leave.Leave.{Leave}
use Rattle.house_journal.specs.Disks.{Stops, may_fail}
use Rattle.house_journal.specs.Tellings.{MayAnswer, plan_after_calls}
use Rattle.house_journal.proofs.laws.a_stop_comes_at_its_call.Goals as goal

same : (left : ℕ) (leave : Leave) (k : ℕ) → MayAnswer k (Stops left leave) → may_fail (plan_after_calls k (Stops left leave)) ≡ true → k ≡ left
same zero leave zero may fails = refl
same zero leave (suc k) may fails = absurd (cc (may.0))
same (suc left) leave zero may fails = absurd (cc (fails))
same (suc left) leave (suc k) may fails = ap suc (same left leave k may.1 fails)

few : (left : ℕ) (leave : Leave) (k : ℕ) → MayAnswer k (Stops left leave) → k ≤ left
few left leave zero may = omega arith
few zero leave (suc k) may = absurd (cc (may.0))
few (suc left) leave (suc k) may = omega (arith, few left leave k may.1)

pub returns-clause-at : goal.returns-clause-at
returns-clause-at c left leave k may fails = same left leave k may fails

pub returns-clause-by : goal.returns-clause-by
returns-clause-by c left leave k may = few left leave k may
