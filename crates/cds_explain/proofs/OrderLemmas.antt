-- A command that does what an entry says, and what is seen of it.
use Rattle.std.proofs.Common.{◌≡◌, ℕ, Bool, true, eqb, cond, List, drop, length, map, Option, Some, None, refl, sym, ◌∙◌, ap, subst, arith}
use Rattle.cds_stamps.specs.declared.numbers.HouseNo.{HouseNo}
use Rattle.cell_model.specs.Cells.{Cell, Message}
use Rattle.cell_model.specs.Commands as model
use Rattle.cell_model.specs.Steps.{Outcome, outcome}
use Rattle.cell_script.specs.declared.command.Command.{Command}
use Rattle.cds_cell.specs.Recorded.{octets_of}
use Rattle.cds_cell.specs.Scripted.{step_of}
use Rattle.cell_runs.specs.Entries.{Mkdir, Order, Take, Turned}
use Rattle.cell_runs.specs.LineAnswers.{answer_said}
use Rattle.cell_runs.specs.LineOrders.{listed_houses, listed_secondaries, order_of}
use Rattle.cell_runs.specs.Views as views
use Rattle.cell_runs.specs.Views.{image_in, or_none, seen_at, taking_seen, turn_seen}
use Rattle.house_logs.specs.declared.log.LoggedTurn.{LoggedTurn}
use Rattle.house_lines.specs.declared.line.HouseOrder.{HouseOrder}
use Rattle.house_lines.specs.declared.line.HouseOrder.TheVariants as order
use Rattle.entry_lines.specs.EntryCommands.{IsCommandOf}
use Rattle.cds_explain.specs.LoggedEntries.{turn_of}
use Rattle.cds_explain.specs.PrivateComparing.{DoesTurn, IsOrdered}

-- what is seen of a turn that was compared
pub turn_is : (g : Cell) (x : ℕ) (t : LoggedTurn) (o : Outcome) → DoesTurn g x t o → (g.house x).clock ≡ t.clock
    → turn_seen g x (order_of t.order) o ≡ Some (x, Turned (turn_of t (image_in o.cell x)))
turn_is g x t o does clock =
    ap (λ (b : Bool). cond b (Some (
      x,
      Turned (record {
        clock = (g.house x).clock;
        order = order_of t.order;
        posts = map views.post_of (drop (length g.bag) o.cell.bag);
        answer = answer_said o.answer;
        image = image_in o.cell x;
      }),
    )) None) does.turn
    ∙ (λ j. Some (
      x,
      Turned (record {
        clock = clock j;
        order = order_of t.order;
        posts = does.posts j;
        answer = does.answer j;
        image = image_in o.cell x;
      }),
    ))

-- a command that does an order, with what the console and the bag have, is seen as that order
pub order_seen : (g : Cell) (h : HouseNo) (o : HouseOrder) (serial : ℕ) (c : Command) → IsCommandOf h o serial c → IsOrdered g h.0 o serial (step_of c)
    → seen_at g (step_of c) ≡ turn_seen g h.0 (order_of o) (outcome g (step_of c))
order_seen g h (order.Root ls) serial c is given =
    subst (λ (z : Command). seen_at g (step_of z) ≡ turn_seen g h.0 (order_of (order.Root ls)) (outcome g (step_of z))) (sym is) refl
order_seen g h (order.Mkdir d n made ls) serial c is given =
    subst (λ (z : Command). seen_at g (step_of z) ≡ turn_seen g h.0 (order_of (order.Mkdir d n made ls)) (outcome g (step_of z))) (sym is)
    (ap (λ (b : Bool). cond b (turn_seen g h.0 (Mkdir d.0 n g.next_dir rs ss) made_there) None) here
    ∙ ap (λ (k : ℕ). turn_seen g h.0 (Mkdir d.0 n k rs ss) made_there) given)
  where
    rs : List ℕ
    rs = listed_houses ls

    ss : List ℕ
    ss = listed_secondaries ls

    made_there : Outcome
    made_there = outcome g (model.Mkdir h.0 d.0 n h.0 rs ss)

    here : eqb h.0 h.0 ≡ true
    here = grind arith
order_seen g h (order.Repoint d n m rs) serial c is given =
    subst (λ (z : Command). seen_at g (step_of z) ≡ turn_seen g h.0 (order_of (order.Repoint d n m rs)) (outcome g (step_of z))) (sym is) refl
order_seen g h (order.Update d u) serial c is given =
    subst (λ (z : Command). seen_at g (step_of z) ≡ turn_seen g h.0 (order_of (order.Update d u)) (outcome g (step_of z))) (sym is) refl
order_seen g h (order.Skulk d) serial c is given =
    subst (λ (z : Command). seen_at g (step_of z) ≡ turn_seen g h.0 (order_of (order.Skulk d)) (outcome g (step_of z))) (sym is) refl
order_seen g h (order.Epoch d k list) serial c is given =
    subst (λ (z : model.Command). seen_at g z ≡ turn_seen g h.0 (order_of (order.Epoch d k list)) (outcome g z)) (sym given.is)
    (ap (λ (o : Order). turn_seen g h.0 o (outcome g (model.Epoch d.0 h.0 given.rs given.ss))) given.order)
order_seen g h (order.Take octets) serial c is given =
    subst (λ (z : Command). seen_at g (step_of z) ≡ turn_seen g h.0 (order_of (order.Take octets)) (outcome g (step_of z))) (sym is)
    (ap (λ (o : Option Message). taking_seen g o done) given.there
    ∙ ap (λ (x : ℕ). turn_seen g x (Take (or_none (octets_of given.m))) done) given.receiver
    ∙ ap (λ (o : Option (List ℕ)). turn_seen g h.0 (Take (or_none o)) done) given.octets_are)
  where
    done : Outcome
    done = outcome g (model.Deliver serial)
