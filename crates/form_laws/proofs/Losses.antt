-- Messages that are lost one after the other, once they were posted.
use Rattle.std.proofs.Common.{◌≡◌, ℕ, ◌+◌, ◌-◌, ◌<◌, zero, suc, Bool, false, ◌||◌, eqb, cond, List, [], ◌∷◌, length, map, Some, None, refl, sym, ap, ◌∙◌}
use Rattle.std.proofs.Common.{subst, arith}
use Rattle.std.specs.Prelude.{slice_get}
use Rattle.std.specs.List.{range_with_len}
use Rattle.cell_model.specs.Cells.{Message, Cell}
use Rattle.cell_model.specs.Commands.{Accepted, Lose, Done}
use Rattle.cell_model.specs.Sets.{has}
use Rattle.cell_model.specs.Steps.{message_at, lose, outcome}
use Rattle.cell_model.proofs.Lists.{append_nil}
use Rattle.form_laws.proofs.Goings.{Goes, goes_none, goes_first, goes_map}
use Rattle.form_laws.proofs.Trios.{Past, past_step, Steady}
use Rattle.form_laws.proofs.SkulkRuns.{Filled}

-- there is an item at each place of a list
item_at : (xs : List Message) (i : ℕ) → i < length xs → (m : Message) × (slice_get xs i ≡ Some m)
item_at [] i lt = absurd (omega arith)
item_at (x ∷ xs) zero lt = (x, refl)
item_at (x ∷ xs) (suc i) lt = item_at xs i (omega arith)

-- a message that was posted, and not lost, has its serial
message_there : (g : Cell) (p : ℕ) → p < length g.bag → has (p + 1) g.lost ≡ false → (m : Message) × (message_at g (p + 1) ≡ Some m)
message_there g p lt kept =
    let some : eqb (p + 1) 0 ≡ false = grind arith in
    let place : (p + 1) - 1 ≡ p = omega arith in
    let at = item_at g.bag p lt in (
      at.0,
      ap (λ (b : Bool). cond (b || has (p + 1) g.lost) None (slice_get g.bag ((p + 1) - 1))) some
          ∙ ap (λ (b : Bool). cond b None (slice_get g.bag ((p + 1) - 1))) kept ∙ ap (λ (n : ℕ). slice_get g.bag n) place ∙ at.1,
    )

-- the cell without one more message
abbrev without : Cell → ℕ → Cell
without g n = record g { lost = n ∷ g.lost }

lost_steady : (f : ℕ) (log : List Accepted) (p : ℕ) (g : Cell) → outcome g (Lose (p + 1)) ≡ record { cell = without g (p + 1); answer = Done; accepted = [] }
    → Steady f log p g → Steady f log (p + 1) (without g (p + 1))
lost_steady f log p g e s = record {
  past = subst (λ (l : List Accepted). Past l (without g (p + 1))) (append_nil log) (past_step log g (Lose (p + 1)) _ e s.past);
  own = s.own;
  made = s.made;
  known = s.known;
  seat = s.seat;
  lost = λ n lt. let apart : eqb n (p + 1) ≡ false = grind arith in ap (λ (b : Bool). b || has n g.lost) apart ∙ s.lost n (omega arith);
}

-- so many messages after serial p, which are all, are lost
pub lose_run : (n f : ℕ) (log : List Accepted) (p : ℕ) (g : Cell) → Filled f log p (p + n) g
    → Goes g (map Lose (range_with_len (p + 1) n)) 0 (Filled f log (p + n) (p + n))
lose_run zero f log p g s =
    let same : p ≡ p + 0 = omega arith in
    goes_none g (Filled f log (p + 0) (p + 0)) (record { steady = subst (λ (q : ℕ). Steady f log q g) same s.steady; count = s.count })
lose_run (suc n) f log p g s =
    let at = message_there g p (omega (arith, s.count)) (s.steady.lost (p + 1) (omega arith)) in
    let e : outcome g (Lose (p + 1)) ≡ record { cell = without g (p + 1); answer = Done; accepted = [] } = ap (lose g (p + 1)) at.1 in
    let sum : (p + 1) + n ≡ p + suc n = omega arith in
    let rest = lose_run n f log (p + 1) (without g (p + 1)) (record { steady = lost_steady f log p g e s.steady; count = s.count ∙ sym sum }) in
    goes_first g (Lose (p + 1)) (map Lose (range_with_len ((p + 1) + 1) n)) 0 (Filled f log (p + suc n) (p + suc n)) _ e tt refl
    (goes_map _ _ 0 (Filled f log ((p + 1) + n) ((p + 1) + n)) _ rest (λ z h. subst (λ (k : ℕ). Filled f log k k z) sum h))
