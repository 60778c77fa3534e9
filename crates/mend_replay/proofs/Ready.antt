-- The test whether the houses of a directory are ready tells what it is named after.
use Rattle.std.proofs.Common.{◌≡◌, ◌≤◌, ℕ, Bool, true, false, ◌||◌, not, List, [], ◌∷◌, refl, ◌∙◌, ap, subst, arith}
use Rattle.std.specs.Prelude.{◌==◌}
use Rattle.std.proofs.lemmas.Bool.Decides.{nat_tests}
use Rattle.std.proofs.lemmas.Bool.{and_parts}
use Rattle.cds_stamps.specs.Members.{Member, is_listed}
use Rattle.cell_model.specs.Cells.{Replica, Slot, Absent, Gone, Held, Cell}
use Rattle.cell_model.specs.Mending.{IsReady}
use Rattle.cell_model.specs.Steps.{is_unknown}
use Rattle.cell_model.proofs.Lists.{or_true}
use Rattle.mend_replay.specs.Readiness.{holds_at, is_held_at, is_held_by, is_ready}

-- a slot that holds a replica of this epoch
slot_held : (s : Slot) (k : ℕ) → holds_at s k ≡ true → (q : Replica) × (s ≡ Held q) × (q.epoch ≡ k)
slot_held Absent k on = absurd (cc (on))
slot_held (Gone e) k on = absurd (cc (on))
slot_held (Held r) k on = let same : r.epoch ≡ k = grind (arith, nat_tests, on) in (r, refl, same)

held_slot : (s : Slot) (q : Replica) (k : ℕ) → s ≡ Held q → q.epoch ≡ k → holds_at s k ≡ true
held_slot s q k is same = ap (λ (t : Slot). holds_at t k) is ∙ (let on : (q.epoch == k) ≡ true = grind (arith, nat_tests, same) in on)

module _ (g : Cell) (d k : ℕ) where
  -- where the test passes, it does at each listed house
  each_held : (ms : List Member) → is_held_by g d k ms ≡ true → (x : ℕ) → is_listed x ms ≡ true → is_held_at g x d k ≡ true
  each_held [] all x listed = absurd (cc (listed))
  each_held (m ∷ ms) all x listed =
      let parts = and_parts (is_held_at g m.house d k) (is_held_by g d k ms) all in
      by_house parts.0 (λ listed. each_held ms parts.1 x listed) (m.house == x) refl listed
    where
      by_house : is_held_at g m.house d k ≡ true → (is_listed x ms ≡ true → is_held_at g x d k ≡ true)
          → (b : Bool) → (m.house == x) ≡ b → (b || is_listed x ms) ≡ true → is_held_at g x d k ≡ true
      by_house here others true is listed =
          let same : m.house ≡ x = grind (arith, nat_tests, is) in subst (λ (y : ℕ). is_held_at g y d k ≡ true) same here
      by_house here others false is listed = others listed

  -- and the other way round
  all_held : (ms : List Member) → ((x : ℕ) → is_listed x ms ≡ true → is_held_at g x d k ≡ true) → is_held_by g d k ms ≡ true
  all_held [] each = refl
  all_held (m ∷ ms) each =
      let here : (m.house == m.house) ≡ true = grind (arith, nat_tests) in
      let one = each m.house (ap (λ (b : Bool). b || is_listed m.house ms) here) in
      let rest = all_held ms (λ x listed. each x (or_true (m.house == x) (is_listed x ms) listed)) in
      rw (one, rest) refl

-- the test means what the model says
pub ready_is : (g : Cell) (d : ℕ) → is_ready g d ≡ true → IsReady g d
ready_is g d on =
    let parts = and_parts (not (is_unknown g d)) (is_held_by g d (g.top d) (g.present d)) on in
    let at = λ (x : ℕ) (listed : is_listed x (g.present d) ≡ true).
    and_parts (g.house x).up (holds_at ((g.house x).slots d) (g.top d)) (each_held g d (g.top d) (g.present d) parts.1 x listed) in
    record {
      known = some (g.top d) parts.0;
      up = λ x listed. (at x listed).0;
      held = λ x listed. slot_held ((g.house x).slots d) (g.top d) (at x listed).1;
    }
  where
    some : (n : ℕ) → not (n == 0) ≡ true → 1 ≤ n
    some n on = grind (arith, nat_tests, on)

pub is_ready_where : (g : Cell) (d : ℕ) → IsReady g d → is_ready g d ≡ true
is_ready_where g d r =
    let known : not (g.top d == 0) ≡ true = some (g.top d) r.known in
    let all = all_held g d (g.top d) (g.present d) (λ x listed.
    let up = r.up x listed in
    let held = r.held x listed in
    let at = held_slot ((g.house x).slots d) held.0 (g.top d) held.1 held.2 in
    rw (up, at) refl) in
    rw (known, all) refl
  where
    some : (n : ℕ) → 1 ≤ n → not (n == 0) ≡ true
    some n on = grind (arith, nat_tests, on)
