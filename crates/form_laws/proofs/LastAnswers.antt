-- A delivery completes a skulk with the last missing answer of its second round, and with nothing
-- else.
use Rattle.std.proofs.Common.{◌≡◌, ℕ, inl, inr, Bool, true, false, ◌&&◌, cond, List, [], ◌∷◌, Option, Some, None, refl, sym, ap, ◌∙◌, subst}
use Rattle.cds_stamps.specs.declared.stamp.Stamp.{Stamp}
use Rattle.cds_stamps.specs.Members.{others_of}
use Rattle.cell_model.specs.Sets.{In, has}
use Rattle.cell_model.specs.Cells.{Spreading, Replica, House, SpreadAck, Advance, Message, Cell}
use Rattle.cell_model.specs.Commands.{Deliver, Complete, Down}
use Rattle.cell_model.specs.Turns.{HouseStep, to_others, all_answered, take}
use Rattle.cell_model.specs.Steps.{refusal_outcome, serials_of, at_house, is_down, message_at, deliver, outcome}
use Rattle.cell_model.proofs.Lists.{has-from_In}
use Rattle.cell_model.proofs.Readiness.{letter, ack_taken}
use Rattle.cell_model.proofs.Rows as rows
use Rattle.form_laws.specs.LastAnswers.{IsLastAnswer, CompletesAtLast}

-- ---- only with that answer

module _ (g : Cell) (n : ℕ) (t : Stamp) (ns : List ℕ) where
  -- of all that a message may come to, one row completes
  row_completes : (m : Message) (s : HouseStep) → message_at g n ≡ Some m → is_down g m.receiver ≡ false → rows.Row (g.house m.receiver) m s
      → (at_house g m.receiver s).answer ≡ Complete t ns → IsLastAnswer g n t
  row_completes m s at up (rows.passes a q) e = elim (subst rows.IsPassed e q) [ ]
  row_completes m s at up (rows.completes u a r k run all) e =
      let same : u ≡ t = cc in
      record {
        message = m;
        replica = r;
        answered = a;
        at = at;
        body = k.is ∙ ap SpreadAck same;
        up = up;
        held = k.held;
        epoch = k.epoch;
        member = k.member;
        round = run ∙ ap (λ (z : Stamp). Spreading z a) same;
        all = all;
      }
  row_completes m s at up _ e = absurd (cc)

  delivery_completes : (o : Option Message) → message_at g n ≡ o → (deliver g o).answer ≡ Complete t ns → IsLastAnswer g n t
  delivery_completes None at e = absurd (cc)
  delivery_completes (Some m) at e = by_down (is_down g m.receiver) refl e
    where
      by_down : (b : Bool) → is_down g m.receiver ≡ b
          → (cond b (refusal_outcome g Down) (at_house g m.receiver (take (g.house m.receiver) m))).answer ≡ Complete t ns → IsLastAnswer g n t
      by_down true up q = absurd (cc)
      by_down false up q = row_completes m _ at up (rows.take_row (g.house m.receiver) m) q

-- ---- always with it

both_true : (a b : Bool) → a ≡ true → b ≡ true → (a && b) ≡ true
both_true true b e f = f
both_true false b e f = e

-- all have answered where each of them is in the list
answered_to : (xs answered : List ℕ) → ((x : ℕ) → In x xs → In x answered) → all_answered xs answered ≡ true
answered_to [] answered f = refl
answered_to (x ∷ xs) answered f =
    both_true (has x answered) (all_answered xs answered) (has-from_In x answered (f x (inl refl))) (answered_to xs answered (λ y i. f y (inr i)))

answer_completes : (g : Cell) (n : ℕ) (t : Stamp) → IsLastAnswer g n t → (ns : List ℕ) × ((outcome g (Deliver n)).answer ≡ Complete t ns)
answer_completes g n t w =
    let m : Message = w.message in
    let r : Replica = w.replica in
    let now : House = g.house m.receiver in
    let answer : Message = letter m.dir m.epoch m.receiver m.sender m.floor (SpreadAck t) in
    let is : m ≡ answer = ap (letter m.dir m.epoch m.receiver m.sender m.floor) w.body in
    let all = answered_to (others_of m.receiver r.members) (m.sender ∷ w.answered) w.all in
    let out = ack_taken m.dir m.epoch r.members m.receiver t w.answered now m.sender m.floor r true w.member w.held (sym w.epoch) refl w.round all in (
      serials_of g (to_others now answer r (Advance t)),
      ap (λ (o : Option Message). (deliver g o).answer) w.at
          ∙ ap (λ (b : Bool). (cond b (refusal_outcome g Down) (at_house g m.receiver (take now m))).answer) w.up
          ∙ ap (λ (z : Message). (at_house g m.receiver (take now z)).answer) is
          ∙ ap (λ (s : HouseStep). (at_house g m.receiver s).answer) out,
    )

-- both ways, of each cell and each serial
pub completes_at_last : (g : Cell) (n : ℕ) → CompletesAtLast g n
completes_at_last g n = record {
  only = λ t ns e. delivery_completes g n t ns (message_at g n) refl e;
  always = λ t w. answer_completes g n t w;
}
