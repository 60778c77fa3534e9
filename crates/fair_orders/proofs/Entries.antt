-- The delivery that completes a skulk is an entry of its master.
use Rattle.std.proofs.Common.{◌≡◌, ℕ, inl, inr, Bool, true, false, eqb, cond, List, [], ◌∷◌, ◌++◌, length, drop, map, Option, Some, None, refl, sym, ap, ◌∙◌}
use Rattle.std.proofs.Common.{subst, arith, append_assoc}
use Rattle.std.specs.Option.{option_map}
use Rattle.cds_stamps.specs.declared.stamp.Stamp.{Stamp}
use Rattle.cds_cell.specs.Recorded.{octets_of}
use Rattle.cell_model.specs.Cells.{Message, Cell, empty_cell}
use Rattle.cell_model.specs.Commands.{Command, Answer, Deliver, Complete}
use Rattle.cell_model.specs.Commands as commands
use Rattle.cell_model.specs.Sets.{In}
use Rattle.cell_model.specs.Steps.{Outcome, outcome, replay_from, replay}
use Rattle.cell_runs.specs.Entries.{Order, TurnEntry, Entry, Turned, Take}
use Rattle.cell_runs.specs.LineAnswers.{answer_said}
use Rattle.cell_runs.specs.Orders.{MadeHouse, AreRuns, IsOrderOf, commands_of}
use Rattle.cell_runs.specs.Views.{if_of, image_in, is_turn, or_none, post_of, seen_at, taking_seen, turn_seen, view_from}
use Rattle.cell_runs.proofs.Making.{own_entries}
use Rattle.fair_runs.specs.Fairness.{IsComplete}
use Rattle.fair_runs.proofs.Endings.{skulks_end_lem}
use Rattle.fair_orders.specs.Endings.{SaysComplete, OrdersEnd}

-- an entry, with its house
abbrev entry_at : (x : ℕ) → Entry → Option (ℕ × Entry)
entry_at x e = Some (x, e)

-- a command is seen by the house x as this entry
abbrev IsSeen : Option (ℕ × Entry) → ℕ → Entry → Type 0
IsSeen o x e = o ≡ entry_at x e

in_head : (x : ℕ) (o : Option (ℕ × Entry)) (e : Entry) (es : List Entry) → IsSeen o x e → In e (if_of x o es)
in_head x o e es seen =
    let on : eqb x x ≡ true = grind arith in
    subst (λ (z : Option (ℕ × Entry)). In e (if_of x z es)) (sym seen) (subst (λ (b : Bool). In e (cond b (e ∷ es) es)) (sym on) (inl refl))

in_tail : (x : ℕ) (o : Option (ℕ × Entry)) (e : Entry) (es : List Entry) → In e es → In e (if_of x o es)
in_tail x None e es i = i
in_tail x (Some p) e es i = by_house (eqb p.0 x)
  where
    by_house : (b : Bool) → In e (cond b (p.1 ∷ es) es)
    by_house true = inr i
    by_house false = i

-- it is among the entries of that house
seen_in : (cs : List Command) (g : Cell) (c : Command) (rest : List Command) (x : ℕ) (e : Entry) → IsSeen (seen_at (replay_from g cs) c) x e
    → In e (view_from g x (cs ++ c ∷ rest))
seen_in [] g c rest x e seen = in_head x (seen_at g c) e (view_from (outcome g c).cell x rest) seen
seen_in (z ∷ cs) g c rest x e seen =
    in_tail x (seen_at g z) e (view_from (outcome g z).cell x (cs ++ c ∷ rest)) (seen_in cs (outcome g z).cell c rest x e seen)

-- the house and the directory of a message
abbrev place_in : Option Message → Option (ℕ × ℕ)
place_in o = option_map (λ (m : Message). (m.receiver, m.dir)) o

-- the house of a place, or this one
abbrev house_or : (h : ℕ) → Option (ℕ × ℕ) → ℕ
house_or h None = h
house_or h (Some p) = p.0

-- the entry of an order that came to this
abbrev turn_at : Cell → (x : ℕ) → Order → Outcome → TurnEntry
turn_at g x order o = record {
  clock = (g.house x).clock;
  order = order;
  posts = map post_of (drop (length g.bag) o.cell.bag);
  answer = answer_said o.answer;
  image = image_in o.cell x;
}

turned : (g : Cell) (x : ℕ) (order : Order) (o : Outcome) (t : Stamp) (ns : List ℕ) → o.answer ≡ Complete t ns
    → IsSeen (turn_seen g x order o) x (Turned (turn_at g x order o))
turned g x order o t ns e =
    ap (λ (a : Answer). cond {A = Option (ℕ × Entry)} (is_turn a) (Some (x, Turned (turn_at g x order o))) None) e

module _ (start late : List Command) (h d : ℕ) (t : Stamp) (c : IsComplete start late h d t) where
  g : Cell
  g = replay (start ++ c.past)

  message : Message
  message = c.last.message

  to : c.last.message.receiver ≡ h
  to =
      let there : place_in (Some c.last.message) ≡ Some (h, d) = sym (ap place_in c.last.at) ∙ c.place in
      ap (house_or h) there

  abbrev turn : TurnEntry
  turn = turn_at (replay (start ++ c.past)) c.last.message.receiver (Take (or_none (octets_of c.last.message)))
      (outcome (replay (start ++ c.past)) (Deliver c.serial))

  seen : IsSeen (seen_at (replay (start ++ c.past)) (Deliver c.serial)) h (Turned turn)
  seen =
      ap (λ (o : Option Message). taking_seen (replay (start ++ c.past)) o (outcome (replay (start ++ c.past)) (Deliver c.serial))) c.last.at
      ∙ turned (replay (start ++ c.past)) c.last.message.receiver (Take (or_none (octets_of c.last.message)))
      (outcome (replay (start ++ c.past)) (Deliver c.serial)) t c.serials c.answer
      ∙ ap (λ (x : ℕ). entry_at x (Turned turn)) to

  pub says : (all : List Command) (log : List Entry) → all ≡ start ++ late → view_from empty_cell h all ≡ log → SaysComplete log t
  says all log is own =
      let parts : (start ++ c.past) ++ Deliver c.serial ∷ c.left ≡ all =
      append_assoc start c.past (Deliver c.serial ∷ c.left) ∙ ap (λ (l : List Command). start ++ l) c.parts ∙ sym is in
      let here = seen_in (start ++ c.past) empty_cell (Deliver c.serial) c.left h (Turned turn) seen in
      record {
        turn = turn;
        octets = or_none (octets_of c.last.message);
        here = subst (λ (l : List Entry). In (Turned turn) l) own (subst (λ (l : List Command). In (Turned turn) (view_from empty_cell h l)) parts here);
        order = refl;
        answer = ap answer_said c.answer;
      }

-- of any order
pub orders_end_lem : (houses : List MadeHouse) (logs : ℕ → List Entry) (line : List (ℕ × Entry)) → AreRuns houses logs → IsOrderOf houses logs line
    → OrdersEnd houses logs line
orders_end_lem houses logs line runs order early late h d t r is b calm fair =
    says (early ++ commands.Skulk h d ∷ []) late h d t (skulks_end_lem early late h d t r b calm fair) (commands_of houses line) (logs h) is
    (own_entries houses logs line runs order h)
