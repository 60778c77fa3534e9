-- Places of journals, one after the other.
use Rattle.std.proofs.Common.{◌≡◌, ◌≢◌, ℕ, ◌+◌, ◌<◌, Bool, true, false, eqb, List, Some, refl, subst, arith}
use Rattle.std.specs.Prelude.{slice_get}
use Rattle.house_logs.specs.declared.log.HouseLog.{HouseLog}

-- what holds of each journal before a place, and of the one there
pub each_more : (P : ℕ → HouseLog → Type 0) (logs : List HouseLog) (place : ℕ) (log : HouseLog) → slice_get logs place ≡ Some log → P place log
    → ((i : ℕ) (l : HouseLog) → i < place → slice_get logs i ≡ Some l → P i l)
    → (i : ℕ) (l : HouseLog) → i < place + 1 → slice_get logs i ≡ Some l → P i l
each_more P logs place log there here before i l lt is = by (eqb i place) refl
  where
    by : (b : Bool) → eqb i place ≡ b → P i l
    by true on =
        let same : place ≡ i = grind (arith, on) in
        let e : log ≡ l = cc (there, is, same) in
        subst (λ (k : ℕ). P k l) same (subst (P place) e here)
    by false off =
        let differ : i ≢ place = grind (arith, off) in
        before i l (let less : i < place = omega (arith, lt, differ) in less) is
