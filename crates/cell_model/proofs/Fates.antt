-- What becomes of a replica in a step.
use Rattle.std.proofs.Common.{◌≡◌, ℕ, ◌+◌, ◌⊎◌, inl, inr, Bool, true, false, ◌||◌, eqb, cond, List, [], ◌++◌, Option, Some, None, refl, sym}
use Rattle.std.proofs.Common.{ap, ◌∙◌, subst, ⊎_elim, le_refl}
use Rattle.directory.specs.Histories.{Mark}
use Rattle.cell_model.specs.Cells.{Idle, Replica, Slot, Absent, Gone, Held, House, Message, Cell, IsHeld, put, no_house}
use Rattle.cell_model.specs.Commands as command
use Rattle.cell_model.specs.Commands.{Command, Answer, Taken, Accepted}
use Rattle.cell_model.specs.Sets.{In, IsPart, has}
use Rattle.cell_model.specs.Turns.{HouseStep, with_slot, with_marks, merge_copy, replica_of_copy, kept_at_join, floor_after, crash_slot, crashed_house, started_house}
use Rattle.cell_model.specs.Turns.{first_replica, epoch_replica, take}
use Rattle.cell_model.specs.Steps.{refusal_outcome, at_house, deliver, message_at, is_down, member_list_of, outcome, replay}
use Rattle.cell_model.specs.Agreement.{place_of}
use Rattle.cell_model.specs.Provenance.{Delivers, TakesCopy, TakesLeave}
use Rattle.cell_model.proofs.Lists.{In-append_left}
use Rattle.cell_model.proofs.Views.{put_at}
use Rattle.cell_model.proofs.Rows as rows
use Rattle.cell_model.proofs.Moves.{new_marks, message_posted, Act, accepts, skulks, lone, completes, Move, stays, houses, clocks, loses, crashes, starts, acts}
use Rattle.cell_model.proofs.Moves.{founds, crowns, Steps, one, mkdirs, outcome_steps}
use Rattle.cell_model.specs.Holdings.{NumbersHold}
use Rattle.cell_model.proofs.MoveFrames.{taken_not}
use Rattle.cell_model.proofs.Answering.{taken_by}
use Rattle.cell_model.proofs.Numbers.{numbers_lem}

-- after a command, a house that held a replica has kept its marks, or took the copy of a Join that
-- was delivered, or a Leave
pub data Fate (g : Cell) (c : Command) (x d : ℕ) (r : Replica) (after : Slot) : Type 0 where
  keeps : (r' : Replica) → after ≡ Held r' → IsPart r.history r'.history → Fate g c x d r after
  copies : (r' : Replica) → after ≡ Held r' → TakesCopy g c x d r r' → Fate g c x d r after
  drops : TakesLeave g c x d after → Fate g c x d r after

-- of each house and directory
abbrev pub Fates : Cell → Command → Cell → Type 0
Fates g c g' = (x d : ℕ) (r : Replica) → IsHeld g x d r → Fate g c x d r ((g'.house x).slots d)

same_fates : (g : Cell) (c : Command) → Fates g c g
same_fates g c x d r at = keeps r at (λ j i. i)

-- another slot of one house, after houses were changed in other ways
then_slot : (g : Cell) (c : Command) (f : ℕ → House) (h e floor : ℕ) (o : Slot)
    → ((x d : ℕ) (r : Replica) → IsHeld g x d r → Fate g c x d r ((f x).slots d)) → ((r : Replica) → IsHeld g h e r → Fate g c h e r o)
    → (x d : ℕ) (r : Replica) → IsHeld g x d r → Fate g c x d r ((put f h (with_slot (f h) e floor o) x).slots d)
then_slot g c f h e floor o first here x d r at =
    put_at (λ y (v : House). (k : ℕ) (q : Replica) → IsHeld g y k q → Fate g c y k q (v.slots k)) f h (with_slot (f h) e floor o)
    (λ k q z. put_at (λ l (s : Slot). (p : Replica) → IsHeld g h l p → Fate g c h l p s) (f h).slots e o here (λ l _ p w. first h l p w) k q z)
    (λ y _ k q z. first y k q z) x d r at

-- another slot of one house
slot_fates : (g : Cell) (c : Command) (h e floor : ℕ) (o : Slot) → ((r : Replica) → IsHeld g h e r → Fate g c h e r o) → (x d : ℕ) (r : Replica)
    → IsHeld g x d r → Fate g c x d r ((put g.house h (with_slot (g.house h) e floor o) x).slots d)
slot_fates g c h e floor o here = then_slot g c g.house h e floor o (same_fates g c) here

-- a slot holds one replica
pub held_once : (s : Slot) (q r : Replica) → s ≡ Held q → s ≡ Held r → q ≡ r
held_once s q r a b = let z : Held q ≡ Held r = sym a ∙ b in cc

-- the house keeps its marks in that slot
grown_fate : (g : Cell) (c : Command) (h e : ℕ) (q q' : Replica) → IsHeld g h e q → IsPart q.history q'.history → (r : Replica) → IsHeld g h e r
    → Fate g c h e r (Held q')
grown_fate g c h e q q' at sub r at' =
    keeps q' refl (subst (λ (z : Replica). IsPart z.history q'.history) (held_once ((g.house h).slots e) q r at at') sub)

left_part : (a b : List Mark) → IsPart a (a ++ b)
left_part a b j i = In-append_left j a b i

-- ---- messages

module _ (g : Cell) (n : ℕ) (m : Message) (at : message_at g n ≡ Some m) where
  abbrev this : Command
  this = command.Deliver n

  abbrev now : House
  now = g.house m.receiver

  posted : In m g.bag
  posted = message_posted g n ((eqb n 0) || has n g.lost) m at

  delivered : Delivers g (command.Deliver n) m
  delivered = (n, refl, at)

  grown_row : (q q' : Replica) → IsHeld g m.receiver m.dir q → IsPart q.history q'.history → (x d : ℕ) (r : Replica) → IsHeld g x d r
      → Fate g this x d r ((put g.house m.receiver (with_slot now m.dir (floor_after now m) (Held q')) x).slots d)
  grown_row q q' held sub = slot_fates g this m.receiver m.dir (floor_after now m) (Held q') (grown_fate g this m.receiver m.dir q q' held sub)

  row_fates : (s : HouseStep) → rows.Row now m s → Fates g this (at_house g m.receiver s).cell
  row_fates s (rows.passes a q) = same_fates g this
  row_fates s (rows.unlisted r held epoch out) = same_fates g this
  row_fates s (rows.outside ms copy is out) = same_fates g this
  row_fates s (rows.updates marks r k) = grown_row r (with_marks r marks) k.held (left_part r.history marks)
  row_fates s (rows.gives t r k) = grown_row r r k.held (λ j i. i)
  row_fates s (rows.gathers t copy a r k run) = grown_row r _ k.held (left_part r.history copy.history)
  row_fates s (rows.turns t copy a r k run all) = grown_row r _ k.held (left_part r.history copy.history)
  row_fates s (rows.gathers_again t copy a r k run) = grown_row r (merge_copy r copy) k.held (left_part r.history copy.history)
  row_fates s (rows.spreads t copy r k) = grown_row r (merge_copy r copy) k.held (left_part r.history copy.history)
  row_fates s (rows.acks_early t a r k run) = grown_row r r k.held (λ j i. i)
  row_fates s (rows.acks t a r k run) = grown_row r _ k.held (λ j i. i)
  row_fates s (rows.completes t a r k run all) = grown_row r _ k.held (λ j i. i)
  row_fates s (rows.advances t r k) = grown_row r _ k.held (λ j i. i)
  row_fates s (rows.keeps ms copy r k held le since) = grown_row r (kept_at_join m ms copy r) held (left_part r.history copy.history)
  row_fates s (rows.copies ms copy k low) =
      slot_fates g this m.receiver m.dir (floor_after now m) (Held (replica_of_copy m ms copy)) (λ r held. copies (replica_of_copy m ms copy) refl (record {
        message = m;
        members = ms;
        copy = copy;
        posted = posted;
        delivered = delivered;
        receiver = refl;
        dir = refl;
        body = k.is;
        term = (low r held).1;
        is = refl;
      }))
  row_fates s (rows.leaves k low) =
      slot_fates g this m.receiver m.dir (floor_after now m) (Gone m.epoch) (λ r held. drops (record {
        message = m;
        posted = posted;
        delivered = delivered;
        receiver = refl;
        dir = refl;
        body = k.is;
        is = refl;
      }))

deliver_fates : (g : Cell) (n : ℕ) (o : Option Message) → message_at g n ≡ o → Fates g (command.Deliver n) (deliver g o).cell
deliver_fates g n None at = same_fates g (command.Deliver n)
deliver_fates g n (Some m) at = by_down (is_down g m.receiver)
  where
    by_down : (b : Bool) → Fates g (command.Deliver n) (cond b (refusal_outcome g command.Down) (at_house g m.receiver (take (g.house m.receiver) m))).cell
    by_down true = same_fates g (command.Deliver n)
    by_down false = row_fates g n m at _ (rows.take_row (g.house m.receiver) m)

-- ---- all else

-- no message is taken
abbrev IsUntaken : Answer → Type 0
IsUntaken a = (ns : List ℕ) → a ≡ Taken ns → ⊥

act_fate : (g : Cell) (c : Command) (h e floor : ℕ) (o : Slot) (posts : List Message) (a : Answer) (l : List Accepted) → IsUntaken a
    → Act g h e floor o posts a l → (r : Replica) → IsHeld g h e r → Fate g c h e r o
act_fate g c h e floor o posts a l untaken (accepts _ _ u q s ns i fine) = grown_fate g c h e q _ i.held (left_part q.history (new_marks q u s))
act_fate g c h e floor o posts a l untaken (skulks _ _ q t ns i head) = grown_fate g c h e q _ i.held (λ j z. z)
act_fate g c h e floor o posts a l untaken (lone _ _ q t i head alone) = grown_fate g c h e q _ i.held (λ j z. z)
act_fate g c h e floor o posts a l untaken (completes m t b q ns k run all) = grown_fate g c h e q _ k.held (λ j z. z)
act_fate g c h e floor o posts a l untaken _ = absurd (untaken _ refl)

-- what the other moves rest on: a house that was not made is none, and nobody holds a directory
-- without an epoch
record Ground (g : Cell) : Type 0 where
  unmade : (x : ℕ) → has x g.made ≡ false → g.house x ≡ no_house
  free : (d x : ℕ) (r : Replica) → g.top d ≡ 0 → IsHeld g x d r → ⊥

-- a house changes, and keeps in each directory what it had of it
house_fates : (g : Cell) (c : Command) (h : ℕ) (now : House) → ((d : ℕ) (r : Replica) → IsHeld g h d r → Fate g c h d r (now.slots d)) → (x d : ℕ) (r : Replica)
    → IsHeld g x d r → Fate g c x d r ((put g.house h now x).slots d)
house_fates g c h now here x d r at =
    put_at (λ y v. (k : ℕ) (q : Replica) → IsHeld g y k q → Fate g c y k q (v.slots k)) g.house h now here (λ y _ k q z. keeps q z (λ j i. i)) x d r at

new_fate : (g : Cell) (c : Command) (h d : ℕ) (r : Replica) → g.house h ≡ no_house → IsHeld g h d r → Fate g c h d r Absent
new_fate g c h d r none at = let z : Absent ≡ Held r = ap (λ (v : House). v.slots d) (sym none) ∙ at in absurd (cc)

move_fates : (g g' : Cell) (c : Command) (p : Option (ℕ × ℕ)) (a : Answer) (l : List Accepted) → Ground g → IsUntaken a → Move g p g' a l → Fates g c g'
move_fates g g' c p a l w untaken (stays b q) = same_fates g c
move_fates g g' c p a l w untaken (houses h node free) =
    house_fates g c h (record { node = node; clock = 0; floor = 0; up = true; slots = λ d. Absent })
    (λ d r at. new_fate g c h d r (w.unmade h (taken_not g h node g.made free).0) at)
move_fates g g' c p a l w untaken (clocks h time made) = house_fates g c h (record (g.house h) { clock = time }) (λ d r at. keeps r at (λ j i. i))
move_fates g g' c p a l w untaken (loses i) = same_fates g c
move_fates g g' c p a l w untaken (crashes h up) =
    house_fates g c h (crashed_house (g.house h)) (λ d r at. keeps (record r { phase = Idle }) (ap crash_slot at) (λ j i. i))
move_fates g g' c p a l w untaken (starts h made) = house_fates g c h (started_house (g.house h)) (λ d r at. keeps r at (λ j i. i))
move_fates g g' c p a l w untaken (acts h d _ floor o posts b n act) = slot_fates g c h d floor o (act_fate g c h d floor o posts b n untaken act)
move_fates g g' c p a l w untaken (founds d m rs ss ns root up none) =
    slot_fates g c m d (g.house m).floor (Held (first_replica (member_list_of [] 1 m rs ss))) (λ r at. absurd (w.free d m r none at))
move_fates g g' c p a l w untaken (crowns d m rs ss r up known at list since) =
    slot_fates g c m d (g.house m).floor (Held (epoch_replica (g.top d + 1) (member_list_of (g.present d) (g.top d + 1) m rs ss) r))
    (grown_fate g c m d r (epoch_replica (g.top d + 1) (member_list_of (g.present d) (g.top d + 1) m rs ss) r) at (λ j i. i))

steps_fates : (g g' : Cell) (c : Command) (p : Option (ℕ × ℕ)) (a : Answer) (l : List Accepted) → Ground g → g.top g.next_dir ≡ 0 → IsUntaken a
    → Steps g p g' a l → Fates g c g'
steps_fates g g' c p a l w none untaken (one _ _ _ m) = move_fates g g' c p a l w untaken m
steps_fates g g' c p a l w none untaken (mkdirs h d m u rs ss r s ns at i fine up known) =
    let q : Replica = with_marks r (new_marks r u s) in
    let f : ℕ → House = put g.house h (with_slot (g.house h) d s.time (Held q)) in
    then_slot g c f m g.next_dir (f m).floor (Held (first_replica (member_list_of [] 1 m rs ss)))
    (slot_fates g c h d s.time (Held q) (grown_fate g c h d r q i.held (left_part r.history (new_marks r u s))))
    (λ n t. absurd (w.free g.next_dir m n none t))

-- a command is a delivery, or it is none
delivery_or : (c : Command) → ((n : ℕ) × (c ≡ command.Deliver n)) ⊎ ((n : ℕ) → c ≡ command.Deliver n → ⊥)
delivery_or (command.Deliver n) = inl (n, refl)
delivery_or (command.House h node) = inr (λ n e. absurd (cc))
delivery_or (command.Clock h time) = inr (λ n e. absurd (cc))
delivery_or (command.Root m rs ss) = inr (λ n e. absurd (cc))
delivery_or (command.Mkdir h d o m rs ss) = inr (λ n e. absurd (cc))
delivery_or (command.Repoint h d o m rs) = inr (λ n e. absurd (cc))
delivery_or (command.Accept h d u) = inr (λ n e. absurd (cc))
delivery_or (command.Epoch d m rs ss) = inr (λ n e. absurd (cc))
delivery_or (command.Skulk h d) = inr (λ n e. absurd (cc))
delivery_or (command.Lose o) = inr (λ n e. absurd (cc))
delivery_or (command.Crash h) = inr (λ n e. absurd (cc))
delivery_or (command.Start h) = inr (λ n e. absurd (cc))

-- what becomes of each replica in each step of a run
pub fates_lem : (commands : List Command) (c : Command) → Fates (replay commands) c (outcome (replay commands) c).cell
fates_lem commands c = ⊎_elim
    (λ (w : (n : ℕ) × (c ≡ command.Deliver n)).
    subst (λ (z : Command). Fates g z (outcome g z).cell) (sym w.1) (deliver_fates g w.0 (message_at g w.0) refl))
    (λ (other : (n : ℕ) → c ≡ command.Deliver n → ⊥).
    steps_fates g (outcome g c).cell c (place_of g c) (outcome g c).answer (outcome g c).accepted ground (numbers.unknown g.next_dir (inr (le_refl _)))
    (λ ns e. let w = taken_by g c ns e in other w.0 w.1) (outcome_steps g c))
    (delivery_or c)
  where
    g : Cell
    g = replay commands

    numbers : NumbersHold (replay commands)
    numbers = numbers_lem commands

    ground : Ground (replay commands)
    ground = record {
      unmade = (numbers_lem commands).unmade;
      free = λ d x r none at. let z : Absent ≡ Held r = sym (((numbers_lem commands).nothing d none).absent x) ∙ at in absurd (cc);
    }
