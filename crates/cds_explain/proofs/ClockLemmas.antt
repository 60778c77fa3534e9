-- No entry changes a clock.
use Rattle.std.proofs.Common.{◌≡◌, ◌≢◌, ℕ, Bool, true, false, eqb, cond, List, [], ◌+◌, Option, Some, None, refl, ◌∙◌, ap}
use Rattle.cell_model.specs.Cells.{Absent, Cell, Held, House, Message, put}
use Rattle.cell_model.specs.Commands as commands
use Rattle.cell_model.specs.Commands.{Accepted, Answer, Command, Done, Refusal}
use Rattle.cell_model.specs.Agreement.{place_of}
use Rattle.cell_model.specs.Steps.{Outcome, first_refusal, member_list_of, message_at, outcome, refusals_of, set_clock, new_house, stays as stays_so, crash, start, unless}
use Rattle.cell_model.specs.Turns.{crashed_house, epoch_replica, first_replica, started_house, with_marks, with_slot}
use Rattle.cell_model.proofs.Moves.{new_marks, Move, stays, houses, clocks, loses, crashes, starts, acts, founds, crowns, Steps, one, mkdirs, outcome_steps}
use Rattle.cell_model.proofs.Views.{put_at, put_other, put_same}
use Rattle.cell_runs.specs.Entries as entries
use Rattle.cell_runs.specs.Entries.{Entry, Order}
use Rattle.cell_runs.specs.Views.{is_turn, seen_at, taking_seen, turn_seen}

-- no house has another clock
abbrev pub KeepsClocks : Cell → Cell → Type 0
KeepsClocks g g' = (y : ℕ) → (g'.house y).clock ≡ (g.house y).clock

-- a house changes, but for its clock
put_clock : (f : ℕ → House) (h : ℕ) (now : House) → now.clock ≡ (f h).clock → (y : ℕ) → (put f h now y).clock ≡ (f y).clock
put_clock f h now is = put_at (λ y (z : House). z.clock ≡ (f y).clock) f h now is (λ y _. refl)

-- a turn
move_keeps : (g g' : Cell) (p : Option (ℕ × ℕ)) (a : Answer) (l : List Accepted) → Move g p g' a l → is_turn a ≡ true → KeepsClocks g g'
move_keeps g g' p a l (stays b q) turn = λ y. refl
move_keeps g g' p a l (houses h node free) turn = absurd (cc (turn))
move_keeps g g' p a l (clocks h time made) turn = absurd (cc (turn))
move_keeps g g' p a l (loses i) turn = λ y. refl
move_keeps g g' p a l (crashes h up) turn = absurd (cc (turn))
move_keeps g g' p a l (starts h made) turn = absurd (cc (turn))
move_keeps g g' p a l (acts h d _ floor o posts b n act) turn = put_clock g.house h (with_slot (g.house h) d floor o) refl
move_keeps g g' p a l (founds d m rs ss ns root up none) turn =
    put_clock g.house m (with_slot (g.house m) d (g.house m).floor (Held (first_replica (member_list_of [] 1 m rs ss)))) refl
move_keeps g g' p a l (crowns d m rs ss r up known at list since) turn =
    put_clock g.house m
    (with_slot (g.house m) d (g.house m).floor (Held (epoch_replica (g.top d + 1) (member_list_of (g.present d) (g.top d + 1) m rs ss) r)))
    refl

steps_keep : (g g' : Cell) (p : Option (ℕ × ℕ)) (a : Answer) (l : List Accepted) → Steps g p g' a l → is_turn a ≡ true → KeepsClocks g g'
steps_keep g g' p a l (one _ _ _ m) turn = move_keeps g g' p a l m turn
steps_keep g g' p a l (mkdirs h d m u rs ss r s ns at i fine up known) turn =
    let now : House = with_slot (g.house h) d s.time (Held (with_marks r (new_marks r u s))) in
    let f : ℕ → House = put g.house h now in
    λ y. put_clock f m (with_slot (f m) g.next_dir (f m).floor (Held (first_replica (member_list_of [] 1 m rs ss)))) refl y ∙ put_clock g.house h now refl y

turn_keeps : (g : Cell) (c : Command) → is_turn (outcome g c).answer ≡ true → KeepsClocks g (outcome g c).cell
turn_keeps g c = steps_keep g (outcome g c).cell (place_of g c) (outcome g c).answer (outcome g c).accepted (outcome_steps g c)

-- a start and a crash
start_keeps : (g : Cell) (h : ℕ) → KeepsClocks g (outcome g (commands.Start h)).cell
start_keeps g h = by (first_refusal (refusals_of g (commands.Start h)))
  where
    by : (o : Option Refusal) → KeepsClocks g (unless g o (stays_so (start g h) Done)).cell
    by None = put_clock g.house h (started_house (g.house h)) refl
    by (Some r) = λ y. refl

pub crash_keeps : (g : Cell) (h : ℕ) → KeepsClocks g (outcome g (commands.Crash h)).cell
crash_keeps g h = by (first_refusal (refusals_of g (commands.Crash h)))
  where
    by : (o : Option Refusal) → KeepsClocks g (unless g o (stays_so (crash g h) Done)).cell
    by None = put_clock g.house h (crashed_house (g.house h)) refl
    by (Some r) = λ y. refl

-- what is seen of an order is a turn
seen_turn : (g : Cell) (x : ℕ) (order : Order) (o : Outcome) (e : ℕ × Entry) → turn_seen g x order o ≡ Some e → is_turn o.answer ≡ true
seen_turn g x order o e = by (is_turn o.answer) _
  where
    by : (b : Bool) (w : ℕ × Entry) → cond b (Some w) None ≡ Some e → b ≡ true
    by true w is = refl
    by false w is = absurd (cc (is))

-- a command that is an entry
pub seen_keeps : (g : Cell) (c : Command) (e : ℕ × Entry) → seen_at g c ≡ Some e → KeepsClocks g (outcome g c).cell
seen_keeps g (commands.House h node) e is = absurd (cc (is))
seen_keeps g (commands.Clock h time) e is = absurd (cc (is))
seen_keeps g (commands.Root m rs ss) e is = turn_keeps g (commands.Root m rs ss) (seen_turn g _ _ (outcome g (commands.Root m rs ss)) e is)
seen_keeps g (commands.Mkdir h d n m rs ss) e is = turn_keeps g (commands.Mkdir h d n m rs ss) (by (eqb m h) is)
  where
    o : Outcome
    o = outcome g (commands.Mkdir h d n m rs ss)

    by : (b : Bool) → cond b (turn_seen g h (entries.Mkdir d n g.next_dir rs ss) o) None ≡ Some e → is_turn o.answer ≡ true
    by true is = seen_turn g h _ o e is
    by false is = absurd (cc (is))
seen_keeps g (commands.Repoint h d n m rs) e is = turn_keeps g (commands.Repoint h d n m rs) (seen_turn g _ _ (outcome g (commands.Repoint h d n m rs)) e is)
seen_keeps g (commands.Accept h d u) e is = turn_keeps g (commands.Accept h d u) (seen_turn g _ _ (outcome g (commands.Accept h d u)) e is)
seen_keeps g (commands.Epoch d m rs ss) e is = turn_keeps g (commands.Epoch d m rs ss) (seen_turn g _ _ (outcome g (commands.Epoch d m rs ss)) e is)
seen_keeps g (commands.Skulk h d) e is = turn_keeps g (commands.Skulk h d) (seen_turn g _ _ (outcome g (commands.Skulk h d)) e is)
seen_keeps g (commands.Deliver n) e is = turn_keeps g (commands.Deliver n) (by (message_at g n) is)
  where
    o : Outcome
    o = outcome g (commands.Deliver n)

    by : (m : Option Message) → taking_seen g m o ≡ Some e → is_turn o.answer ≡ true
    by None is = absurd (cc (is))
    by (Some m) is = seen_turn g _ _ o e is
seen_keeps g (commands.Lose n) e is = absurd (cc (is))
seen_keeps g (commands.Crash h) e is = absurd (cc (is))
seen_keeps g (commands.Start h) e is = start_keeps g h

-- ---- clocks that are set, and new houses

-- what is answered that it is done was not refused
done_so : (g : Cell) (o : Option Refusal) (done : Outcome) → (unless g o done).answer ≡ Done → unless g o done ≡ done
done_so g None done is = refl
done_so g (Some r) done is = absurd (cc (is))

pub clock_set : (g : Cell) (h time : ℕ) → (outcome g (commands.Clock h time)).answer ≡ Done
    → (((outcome g (commands.Clock h time)).cell.house h).clock ≡ time)
    × ((y : ℕ) → y ≢ h → ((outcome g (commands.Clock h time)).cell.house y).clock ≡ (g.house y).clock)
clock_set g h time is = (
  ap (λ (o : Outcome). (o.cell.house h).clock) so ∙ ap (λ (z : House). z.clock) (put_same g.house h timed),
  λ y n. ap (λ (o : Outcome). (o.cell.house y).clock) so ∙ ap (λ (z : House). z.clock) (put_other g.house h timed y n),
)
  where
    timed : House
    timed = record (g.house h) { clock = time }

    so : outcome g (commands.Clock h time) ≡ stays_so (set_clock g h time) Done
    so = done_so g (first_refusal (refusals_of g (commands.Clock h time))) (stays_so (set_clock g h time) Done) is

-- all clocks are 0 after a new house, if they were before
pub house_made : (g : Cell) (h node : ℕ) → ((y : ℕ) → (g.house y).clock ≡ 0) → (y : ℕ) → ((outcome g (commands.House h node)).cell.house y).clock ≡ 0
house_made g h node all = by (first_refusal (refusals_of g (commands.House h node)))
  where
    by : (o : Option Refusal) → (y : ℕ) → ((unless g o (stays_so (new_house g h node) Done)).cell.house y).clock ≡ 0
    by None = put_at (λ y (z : House). z.clock ≡ 0) g.house h (record { node = node; clock = 0; floor = 0; up = true; slots = λ d. Absent }) refl (λ y _. all y)
    by (Some r) = all
