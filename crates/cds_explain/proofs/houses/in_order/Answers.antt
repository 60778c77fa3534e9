use Rattle.std.proofs.Common.{◌≡◌, ◌≢◌, ◌+◌, ◌<◌, ℕ, Bool, true, false, eqb, Some, refl, arith, List, [], ◌∷◌, length, zero, suc}
use Rattle.std.specs.Prelude.{slice_get}
use Rattle.cell_model.specs.Sets.{In}
use Rattle.house_logs.specs.declared.log.HouseLog.{HouseLog}
use Rattle.cds_explain.proofs.houses.in_order.Goals as goal

-- a number that is less, or is this one
below_next : (P : Type 0) (n k : ℕ) → n < k + 1 → (n < k → P) → (n ≡ k → P) → P
below_next P n k lt less same = by (eqb n k) refl
  where
    by : (b : Bool) → eqb n k ≡ b → P
    by true on = same (let e : n ≡ k = grind (arith, on) in e)
    by false off =
        let differ : n ≢ k = grind (arith, off) in
        less (let l : n < k = omega (arith, lt, differ) in l)

pub loop-number-preserved : goal.loop-number-preserved
loop-number-preserved c =
    let now = c.in_ok-push_places.ensures in
    record {
      found =
          λ i log is lt.
          below_next (In i c.push_places.new.places.items) log.house.0 c.loop-number.number lt
          (λ less. now.kept i (c.loop-number.invariant.found i log is less)) (λ same. now.found i log is same);
      fits = λ i log is some. now.fits i log is;
    }

-- the journal at a place
log_at : (logs : List HouseLog) (i : ℕ) → i < length logs → (log : HouseLog) × (slice_get logs i ≡ Some log)
log_at [] i lt = absurd (omega arith)
log_at (l ∷ logs) zero lt = (l, refl)
log_at (l ∷ logs) (suc i) lt = log_at logs i (omega (arith, lt))

pub returns : goal.returns
returns c = λ i lt.
    let at = log_at c.args.logs.now i lt in
    let fits = c.loop-number.invariant.fits i at.0 at.1 (omega arith) in
    c.loop-number.invariant.found i at.0 at.1 (omega (arith, fits))
