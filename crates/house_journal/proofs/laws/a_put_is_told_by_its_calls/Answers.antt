use Rattle.std.proofs.Common.{◌≡◌, ℕ, zero, suc, ◌+◌, ◌≤◌, ◌<◌, false, if◌then◌else◌, List, [], ◌∷◌, ◌++◌, take, drop, refl, arith}
use Rattle.house_journal.specs.Disks.{Told, Wrote, with_piece}
use Rattle.house_journal.specs.Tellings.{TellsOne, put_calls, told_failed}
use Rattle.house_journal.proofs.laws.a_put_is_told_by_its_calls.Goals as goal

one : (place : ℕ) (octets file : List ℕ) (t : Told) (k : ℕ) → t.changes ≡ [] → t.closed ≡ false → k < 2
    → TellsOne t.synced (Wrote (place + 1) (drop 1 octets)) (told_failed k (put_calls place octets) file t)
one place octets file t zero none closed few = (refl, λ i. if closed i then none i else none i ++ Wrote (place + 1) (drop 1 octets) ∷ [])
one place octets file t (suc zero) none closed few = (refl, λ i. if closed i then none i else none i ++ Wrote (place + 1) (drop 1 octets) ∷ [])
one place octets file t (suc (suc k)) none closed few = absurd (omega (arith, few))

two : (place : ℕ) (octets file : List ℕ) (t : Told) (k : ℕ) → 2 ≤ k → k < 4
    → TellsOne (with_piece file (place + 1) (drop 1 octets)) (Wrote place (take 1 octets)) (told_failed k (put_calls place octets) file t)
two place octets file t zero some few = absurd (omega (arith, some))
two place octets file t (suc zero) some few = absurd (omega (arith, some))
two place octets file t (suc (suc zero)) some few = (refl, refl)
two place octets file t (suc (suc (suc zero))) some few = (refl, refl)
two place octets file t (suc (suc (suc (suc k)))) some few = absurd (omega (arith, few))

pub returns-clause-first : goal.returns-clause-first
returns-clause-first c place octets file t k none closed few = one place octets file t k none closed few

pub returns-clause-second : goal.returns-clause-second
returns-clause-second c place octets file t k some few = two place octets file t k some few
