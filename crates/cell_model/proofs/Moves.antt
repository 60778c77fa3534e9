-- Each command is one of these moves, or two of them.
use Rattle.std.proofs.Common.{◌≡◌, ◌≢◌, ℕ, ◌+◌, ◌-◌, ◌<◌, ◌≤◌, Bool, true, false, ◌||◌, not, eqb, cond, List, [], ◌∷◌, Option, Some, None}
use Rattle.std.proofs.Common.{refl, subst, arith, nat_le}
use Rattle.std.specs.Prelude.{slice_get}
use Rattle.std.specs.Option.{option_map}
use Rattle.cds_stamps.specs.declared.stamp.Stamp.{Stamp}
use Rattle.cds_stamps.specs.Members.{Member, master_of, others_of, is_listed, since_in}
use Rattle.directory.specs.declared.update.UpdateRefusal.{UpdateRefusal}
use Rattle.directory.specs.Histories.{Mark}
use Rattle.directory.specs.Shown.{shown_of_name, marks_of}
use Rattle.directory.specs.Updates as changes
use Rattle.directory.specs.Updates.{Change, changed_name}
use Rattle.cell_model.specs.Cells.{Idle, Gathering, Spreading, Replica, Slot, Absent, Gone, Held, Copy, Body, Update, Gather, Gathered}
use Rattle.cell_model.specs.Cells.{Spread, SpreadAck, Advance, Join, Leave, Message, Cell, IsHeld}
use Rattle.cell_model.specs.Commands as commands
use Rattle.cell_model.specs.Commands.{Command, Refusal, NoHouse, NoDirectory, BadMembers, NotMember, Down, Answer, Done, Posted, Made, Stamped}
use Rattle.cell_model.specs.Commands.{NotJoined, NewEpoch, Taken, Late, Early, Stale, Foreign, Complete, Refused, Accepted}
use Rattle.cell_model.specs.Sets.{In, has}
use Rattle.cell_model.specs.Turns.{HouseStep, Stays, unless_refused, turn_without_updates, with_slot, with_marks, copy_of, merge_copy, later_up_to, to_each, stamp_at, accept_at}
use Rattle.cell_model.specs.Turns.{update_refusal, accept_in, begin, skulk_at, skulk_in, epoch_replica, epoch_posts, first_joins, new_epoch_in}
use Rattle.cell_model.specs.Turns.{floor_after, reply, to_others, replica_of_copy, kept_at_join, take}
use Rattle.cell_model.specs.Steps.{Outcome, first_refusal, unless, is_missing, is_taken, is_down, is_unknown, move_house, at_house, sorted_houses, member_list_of}
use Rattle.cell_model.specs.Steps.{left_members, new_house, set_clock, note_epoch, cell_with_directory, with_directory, with_epoch, message_at, deliver, lose, crash, start}
use Rattle.cell_model.specs.Steps.{refusals_of, effect, outcome}
use Rattle.cell_model.specs.Agreement.{place_of}
use Rattle.cell_model.proofs.Rows as rows
use Rattle.cell_model.proofs.Rows.{le_from}
use Rattle.cell_model.proofs.Terms.{since_kept}
use Rattle.cell_model.proofs.Lists.{In-from_get, or_left, or_right, not_true, eq_from}

-- the marks of an update
abbrev pub new_marks : Replica → Change → Stamp → List Mark
new_marks r u s = marks_of (shown_of_name r.history (changed_name u)) u s

-- the house is up
abbrev pub IsUp : Cell → ℕ → Type 0
IsUp g h = (g.house h).up ≡ true

-- a message that the house takes as one of its epoch
pub record Taking (g : Cell) (m : Message) (b : Body) (r : Replica) : Type 0 where
  pub posted : In m g.bag
  pub is : m.body ≡ b
  pub up : IsUp g m.receiver
  pub held : IsHeld g m.receiver m.dir r
  pub epoch : m.epoch ≡ r.epoch
  pub member : is_listed m.sender r.members ≡ true

-- a Join or a Leave that is not late
pub record Entering (g : Cell) (m : Message) (b : Body) : Type 0 where
  pub posted : In m g.bag
  pub is : m.body ≡ b
  pub up : IsUp g m.receiver
  pub gone : (e : ℕ) → (g.house m.receiver).slots m.dir ≡ Gone e → e < m.epoch

-- a house issues a stamp for a directory that it holds
pub record Issuing (g : Cell) (h d : ℕ) (r : Replica) (s : Stamp) : Type 0 where
  pub up : IsUp g h
  pub held : IsHeld g h d r
  pub next : stamp_at (g.house h) ≡ Some s

-- the update that the house accepts
abbrev pub accepting : (h d : ℕ) → Change → Replica → Stamp → Accepted
accepting h d u r s = record { by = h; dir = d; epoch = r.epoch; since = since_in r.members h 0; stamp = s; marks = new_marks r u s }

-- the floor that a message leaves at its receiver
abbrev pub floor_at : Cell → Message → ℕ
floor_at g m = floor_after (g.house m.receiver) m

-- what its receiver answers to the sender
abbrev pub reply_at : Cell → Message → Body → List Message
reply_at g m body = reply (g.house m.receiver) m body

-- and what it posts to each other member
abbrev pub others_at : Cell → Message → Replica → Body → List Message
others_at g m r body = to_others (g.house m.receiver) m r body

-- what a house does in one directory: its new floor and slot, what it posts, the answer, and what
-- it accepted
pub data Act (g : Cell) : (h d floor : ℕ) → Slot → List Message → Answer → List Accepted → Type 0 where
  accepts : (h d : ℕ) (u : Change) (r : Replica) (s : Stamp) (ns : List ℕ) → Issuing g h d r s → update_refusal h u r ≡ None
      → Act g h d s.time (Held (with_marks r (new_marks r u s))) (to_each (others_of h r.members) d h r.epoch s.time (Update (new_marks r u s))) (Stamped s ns)
      (accepting h d u r s ∷ [])
  skulks : (h d : ℕ) (r : Replica) (t : Stamp) (ns : List ℕ) → Issuing g h d r t → master_of r.members ≡ h
      → Act g h d t.time (Held (record r { phase = Gathering t [] })) (to_each (others_of h r.members) d h r.epoch t.time (Gather t)) (Stamped t ns) []
  lone : (h d : ℕ) (r : Replica) (t : Stamp) → Issuing g h d r t → master_of r.members ≡ h → others_of h r.members ≡ []
      → Act g h d t.time (Held (record r { all_up_to = later_up_to r.all_up_to t; phase = Idle })) [] (Complete t []) []
  updates : (m : Message) (marks : List Mark) (r : Replica) (ns : List ℕ) → Taking g m (Update marks) r
      → Act g m.receiver m.dir (floor_at g m) (Held (with_marks r marks)) [] (Taken ns) []
  gives : (m : Message) (t : Stamp) (r : Replica) (ns : List ℕ) → Taking g m (Gather t) r
      → Act g m.receiver m.dir (floor_at g m) (Held r) (reply_at g m (Gathered t (copy_of r))) (Taken ns) []
  gathers : (m : Message) (t : Stamp) (copy : Copy) (a : List ℕ) (r : Replica) (ns : List ℕ) → Taking g m (Gathered t copy) r → r.phase ≡ Gathering t a
      → Act g m.receiver m.dir (floor_at g m) (Held (record (merge_copy r copy) { phase = Gathering t (m.sender ∷ a) })) [] (Taken ns) []
  turns : (m : Message) (t : Stamp) (copy : Copy) (a : List ℕ) (r : Replica) (ns : List ℕ) → Taking g m (Gathered t copy) r → r.phase ≡ Gathering t a
      → ((x : ℕ) → In x (others_of m.receiver r.members) → In x (m.sender ∷ a))
      → Act g m.receiver m.dir (floor_at g m) (Held (record (merge_copy r copy) { phase = Spreading t [] }))
      (others_at g m r (Spread t (copy_of (merge_copy r copy)))) (Taken ns) []
  gathers_again : (m : Message) (t : Stamp) (copy : Copy) (a : List ℕ) (r : Replica) (ns : List ℕ) → Taking g m (Gathered t copy) r → r.phase ≡ Spreading t a
      → Act g m.receiver m.dir (floor_at g m) (Held (merge_copy r copy)) [] (Taken ns) []
  spreads : (m : Message) (t : Stamp) (copy : Copy) (r : Replica) (ns : List ℕ) → Taking g m (Spread t copy) r
      → Act g m.receiver m.dir (floor_at g m) (Held (merge_copy r copy)) (reply_at g m (SpreadAck t)) (Taken ns) []
  acks_early : (m : Message) (t : Stamp) (a : List ℕ) (r : Replica) (ns : List ℕ) → Taking g m (SpreadAck t) r → r.phase ≡ Gathering t a
      → Act g m.receiver m.dir (floor_at g m) (Held r) [] (Taken ns) []
  acks : (m : Message) (t : Stamp) (a : List ℕ) (r : Replica) (ns : List ℕ) → Taking g m (SpreadAck t) r → r.phase ≡ Spreading t a
      → Act g m.receiver m.dir (floor_at g m) (Held (record r { phase = Spreading t (m.sender ∷ a) })) [] (Taken ns) []
  completes : (m : Message) (t : Stamp) (a : List ℕ) (r : Replica) (ns : List ℕ) → Taking g m (SpreadAck t) r → r.phase ≡ Spreading t a
      → ((x : ℕ) → In x (others_of m.receiver r.members) → In x (m.sender ∷ a))
      → Act g m.receiver m.dir (floor_at g m) (Held (record r { all_up_to = later_up_to r.all_up_to t; phase = Idle })) (others_at g m r (Advance t))
      (Complete t ns) []
  advances : (m : Message) (t : Stamp) (r : Replica) (ns : List ℕ) → Taking g m (Advance t) r
      → Act g m.receiver m.dir (floor_at g m) (Held (record r { all_up_to = later_up_to r.all_up_to t })) [] (Taken ns) []
  copies : (m : Message) (ms : List Member) (copy : Copy) (ns : List ℕ) → Entering g m (Join ms copy)
      → ((r : Replica) → IsHeld g m.receiver m.dir r → (r.epoch ≤ m.epoch) × (r.epoch < since_in ms m.receiver 0))
      → Act g m.receiver m.dir (floor_at g m) (Held (replica_of_copy m ms copy)) [] (Taken ns) []
  keeps : (m : Message) (ms : List Member) (copy : Copy) (r : Replica) (ns : List ℕ) → Entering g m (Join ms copy) → IsHeld g m.receiver m.dir r
      → r.epoch ≤ m.epoch → since_in ms m.receiver 0 ≤ r.epoch → Act g m.receiver m.dir (floor_at g m) (Held (kept_at_join m ms copy r)) [] (Taken ns) []
  leaves : (m : Message) (ns : List ℕ) → Entering g m Leave → ((r : Replica) → IsHeld g m.receiver m.dir r → r.epoch < m.epoch)
      → Act g m.receiver m.dir (floor_at g m) (Gone m.epoch) [] (Taken ns) []

-- answers with no stamp that was issued and none of a skulk that completed
abbrev pub IsQuiet : Answer → Type 0
IsQuiet (Stamped s ns) = ⊥
IsQuiet (Made d s ns) = ⊥
IsQuiet (Complete t ns) = ⊥
IsQuiet _ = Unit {0}

-- what the master of a new directory posts
abbrev pub first_told : Cell → (d m : ℕ) → List Member → List Message
first_told g d m ms = first_joins (g.house m).floor d m ms

-- what the new master posts, to those that the console lists no more too
abbrev pub epoch_told : Cell → (d m k : ℕ) → List Member → Replica → List Message
epoch_told g d m k ms r = epoch_posts (g.house m).floor d m k ms (left_members (g.present d) ms) r

-- the new master takes the epoch, and the console knows it
abbrev pub promote : Cell → (d m k : ℕ) → List Member → Replica → Outcome
promote g d m k ms r =
    let o : Outcome = at_house g m
    (turn_without_updates (with_slot (g.house m) d (g.house m).floor (Held (epoch_replica k ms r)))
    (epoch_told g d m k ms r) (NewEpoch k)) in
    record o { cell = note_epoch o.cell d k ms }

-- p is the house and the directory that the command acts at
pub data Move (g : Cell) (p : Option (ℕ × ℕ)) : Cell → Answer → List Accepted → Type 0 where
  stays : (a : Answer) → IsQuiet a → Move g p g a []
  houses : (h node : ℕ) → is_taken g h node ≡ false → Move g p (new_house g h node) Done []
  clocks : (h time : ℕ) → has h g.made ≡ true → Move g p (set_clock g h time) Done []
  loses : (n : ℕ) → Move g p (record g { lost = n ∷ g.lost }) Done []
  crashes : (h : ℕ) → IsUp g h → Move g p (crash g h) Done []
  starts : (h : ℕ) → has h g.made ≡ true → Move g p (start g h) Done []
  acts : (h d : ℕ) → p ≡ Some (h, d) → (floor : ℕ) (s : Slot) (posts : List Message) (a : Answer) (n : List Accepted) → Act g h d floor s posts a n
      → Move g p (move_house g h (with_slot (g.house h) d floor s) posts) a n
  founds : (d m : ℕ) (rs ss ns : List ℕ) → d ≡ 1 → IsUp g m → g.top d ≡ 0 → Move g p (cell_with_directory g d m (member_list_of [] 1 m rs ss)) (Posted ns) []
  crowns : (d m : ℕ) (rs ss : List ℕ) (r : Replica) → IsUp g m → g.top d ≢ 0 → IsHeld g m d r → is_listed m (g.present d) ≡ true
      → since_in (g.present d) m 0 ≤ r.epoch
      → Move g p (promote g d m (g.top d + 1) (member_list_of (g.present d) (g.top d + 1) m rs ss) r).cell
      (promote g d m (g.top d + 1) (member_list_of (g.present d) (g.top d + 1) m rs ss) r).answer []

-- a command is a move; or the update of a parent, and then the directory of the child
pub data Steps (g : Cell) (p : Option (ℕ × ℕ)) : Cell → Answer → List Accepted → Type 0 where
  one : (g' : Cell) (a : Answer) (n : List Accepted) → Move g p g' a n → Steps g p g' a n
  mkdirs : (h d m : ℕ) (u : Change) (rs ss : List ℕ) (r : Replica) (s : Stamp) (ns : List ℕ) → p ≡ Some (h, d) → Issuing g h d r s → update_refusal h u r ≡ None
      → IsUp g m → g.top d ≢ 0
      → Steps g p (record (cell_with_directory
      (move_house g h (with_slot (g.house h) d s.time (Held (with_marks r (new_marks r u s))))
      (to_each (others_of h r.members) d h r.epoch s.time (Update (new_marks r u s)))) g.next_dir m (member_list_of [] 1 m rs ss)) { next_dir = g.next_dir + 1 })
      (Made g.next_dir s ns) (accepting h d u r s ∷ [])

abbrev pub Moves : Cell → Option (ℕ × ℕ) → Outcome → Type 0
Moves g p o = Move g p o.cell o.answer o.accepted

abbrev pub StepsOf : Cell → Option (ℕ × ℕ) → Outcome → Type 0
StepsOf g p o = Steps g p o.cell o.answer o.accepted

if_moves : (g : Cell) (p : Option (ℕ × ℕ)) (b : Bool) (x y : Outcome) → (b ≡ true → Moves g p x) → (b ≡ false → Moves g p y) → Moves g p (cond b x y)
if_moves g p true x y k l = k refl
if_moves g p false x y k l = l refl

-- a house's step is a move
abbrev Turned : Cell → (h d : ℕ) → HouseStep → Type 0
Turned g h d s = Moves g (Some (h, d)) (at_house g h s)

if_turned : (g : Cell) (h d : ℕ) (b : Bool) (x y : HouseStep) → (b ≡ true → Turned g h d x) → (b ≡ false → Turned g h d y) → Turned g h d (cond b x y)
if_turned g h d true x y k l = k refl
if_turned g h d false x y k l = l refl

unless_turned : (g : Cell) (h d : ℕ) (r : Option UpdateRefusal) (x : HouseStep) → (r ≡ None → Turned g h d x) → Turned g h d (unless_refused r x)
unless_turned g h d None x k = k refl
unless_turned g h d (Some r) x k = stays (Refused (commands.Update r)) tt

-- the first test of a list of refusals fails, and so do the others
first_fails : (b : Bool) (r : Refusal) (ts : List (Bool × Refusal)) → cond b (Some r) (first_refusal ts) ≡ None → (b ≡ false) × (first_refusal ts ≡ None)
first_fails true r ts e = absurd (cc)
first_fails false r ts e = (refl, e)

-- a message that is taken, of the epoch that is held
taking : (g : Cell) (m : Message) (b : Body) (r : Replica) → In m g.bag → IsUp g m.receiver → rows.Own (g.house m.receiver) m b r → Taking g m b r
taking g m b r at up k = record { posted = at; is = k.is; up = up; held = k.held; epoch = k.epoch; member = k.member }

-- a Join or a Leave that is taken
entering : (g : Cell) (m : Message) (b : Body) → In m g.bag → IsUp g m.receiver → rows.Timely (g.house m.receiver) m b → Entering g m b
entering g m b at up k = record { posted = at; is = k.is; up = up; gone = k.gone }

passed_quiet : (a : Answer) → rows.IsPassed a → IsQuiet a
passed_quiet (Late k e) q = tt
passed_quiet (Early k e) q = tt
passed_quiet (Stale t r) q = tt
passed_quiet commands.NoReplica q = tt
passed_quiet Done q = tt
passed_quiet (Posted ns) q = tt
passed_quiet (Made d s ns) q = q
passed_quiet (Stamped s ns) q = q
passed_quiet (NewEpoch e ns) q = tt
passed_quiet (Taken ns) q = tt
passed_quiet Foreign q = tt
passed_quiet (Complete t ns) q = q
passed_quiet (Refused r) q = tt

-- each row of a message is a move
module _ (g : Cell) (m : Message) (at : In m g.bag) (up : IsUp g m.receiver) where
  abbrev floor : ℕ
  floor = floor_at g m

  row_moves : (s : HouseStep) → rows.Row (g.house m.receiver) m s → Turned g m.receiver m.dir s
  row_moves s (rows.passes a q) = stays a (passed_quiet a q)
  row_moves s (rows.unlisted r held epoch out) = stays Foreign tt
  row_moves s (rows.outside ms copy is out) = stays Foreign tt
  row_moves s (rows.updates marks r k) = acts m.receiver m.dir refl floor _ [] _ [] (updates m marks r _ (taking g m _ r at up k))
  row_moves s (rows.gives t r k) = acts m.receiver m.dir refl floor _ _ _ [] (gives m t r _ (taking g m _ r at up k))
  row_moves s (rows.gathers t copy a r k run) = acts m.receiver m.dir refl floor _ [] _ [] (gathers m t copy a r _ (taking g m _ r at up k) run)
  row_moves s (rows.turns t copy a r k run all) = acts m.receiver m.dir refl floor _ _ _ [] (turns m t copy a r _ (taking g m _ r at up k) run all)
  row_moves s (rows.gathers_again t copy a r k run) =
      acts m.receiver m.dir refl floor _ [] _ [] (gathers_again m t copy a r _ (taking g m _ r at up k) run)
  row_moves s (rows.spreads t copy r k) = acts m.receiver m.dir refl floor _ _ _ [] (spreads m t copy r _ (taking g m _ r at up k))
  row_moves s (rows.acks_early t a r k run) = acts m.receiver m.dir refl floor _ [] _ [] (acks_early m t a r _ (taking g m _ r at up k) run)
  row_moves s (rows.acks t a r k run) = acts m.receiver m.dir refl floor _ [] _ [] (acks m t a r _ (taking g m _ r at up k) run)
  row_moves s (rows.completes t a r k run all) = acts m.receiver m.dir refl floor _ _ _ [] (completes m t a r _ (taking g m _ r at up k) run all)
  row_moves s (rows.advances t r k) = acts m.receiver m.dir refl floor _ [] _ [] (advances m t r _ (taking g m _ r at up k))
  row_moves s (rows.copies ms copy k low) = acts m.receiver m.dir refl floor _ [] _ [] (copies m ms copy _ (entering g m _ at up k) low)
  row_moves s (rows.keeps ms copy r k held le since) =
      acts m.receiver m.dir refl floor _ [] _ [] (keeps m ms copy r _ (entering g m _ at up k) held le since)
  row_moves s (rows.leaves k low) = acts m.receiver m.dir refl floor _ [] _ [] (leaves m _ (entering g m _ at up k) low)

  take_moves : Turned g m.receiver m.dir (take (g.house m.receiver) m)
  take_moves = row_moves (take (g.house m.receiver) m) (rows.take_row (g.house m.receiver) m)

-- a message of a serial was posted
pub message_posted : (g : Cell) (n : ℕ) (b : Bool) (m : Message) → cond b None (slice_get g.bag (n - 1)) ≡ Some m → In m g.bag
message_posted g n true m e = absurd (cc)
message_posted g n false m e = In-from_get m g.bag (n - 1) e

deliver_moves : (g : Cell) (n : ℕ) (o : Option Message) → message_at g n ≡ o → Moves g (option_map (λ (m : Message). (m.receiver, m.dir)) o) (deliver g o)
deliver_moves g n None e = stays _ tt
deliver_moves g n (Some m) e =
    if_moves g _ (is_down g m.receiver) _ _ (λ _. stays _ tt)
    (λ up. take_moves g m (message_posted g n ((eqb n 0) || has n g.lost) m e) (not_true _ up))

lose_moves : (g : Cell) (n : ℕ) (o : Option Message) → Moves g None (lose g n o)
lose_moves g n None = stays _ tt
lose_moves g n (Some m) = loses n

accept_at_moves : (g : Cell) (h d : ℕ) (u : Change) (r : Replica) (o : Option Stamp) → IsUp g h → IsHeld g h d r → update_refusal h u r ≡ None
    → stamp_at (g.house h) ≡ o → Turned g h d (accept_at h (g.house h) d u r o)
accept_at_moves g h d u r None up at fine e = stays _ tt
accept_at_moves g h d u r (Some s) up at fine e = acts h d refl s.time _ _ _ _ (accepts h d u r s _ (record { up = up; held = at; next = e }) fine)

accept_moves : (g : Cell) (h d : ℕ) (u : Change) (s : Slot) → IsUp g h → (g.house h).slots d ≡ s → Turned g h d (accept_in h (g.house h) d u s)
accept_moves g h d u Absent up e = stays _ tt
accept_moves g h d u (Gone k) up e = stays _ tt
accept_moves g h d u (Held r) up e =
    unless_turned g _ _ (update_refusal h u r) _ (λ fine. accept_at_moves g h d u r (stamp_at (g.house h)) up e fine refl)

begin_moves : (g : Cell) (h d : ℕ) (r : Replica) (t : Stamp) (os : List ℕ) → Issuing g h d r t → master_of r.members ≡ h → others_of h r.members ≡ os
    → Turned g h d (begin h (g.house h) d r t os)
begin_moves g h d r t [] i head o = acts h d refl t.time _ [] _ [] (lone h d r t i head o)
begin_moves g h d r t (y ∷ ys) i head o =
    subst (λ (l : List ℕ).
    Turned g h d
    (turn_without_updates (with_slot (g.house h) d t.time (Held (record r { phase = Gathering t [] }))) (to_each l d h r.epoch t.time (Gather t)) (Stamped t)))
    o (acts h d refl t.time _ _ _ [] (skulks h d r t _ i head))

skulk_at_moves : (g : Cell) (h d : ℕ) (r : Replica) (o : Option Stamp) → IsUp g h → IsHeld g h d r → master_of r.members ≡ h → stamp_at (g.house h) ≡ o
    → Turned g h d (skulk_at h (g.house h) d r o)
skulk_at_moves g h d r None up at head e = stays _ tt
skulk_at_moves g h d r (Some t) up at head e = begin_moves g h d r t (others_of h r.members) (record { up = up; held = at; next = e }) head refl

skulk_moves : (g : Cell) (h d : ℕ) (s : Slot) → IsUp g h → (g.house h).slots d ≡ s → Turned g h d (skulk_in h (g.house h) d s)
skulk_moves g h d Absent up e = stays _ tt
skulk_moves g h d (Gone k) up e = stays _ tt
skulk_moves g h d (Held r) up e =
    if_turned g _ _ (eqb (master_of r.members) h) _ _ (λ q. skulk_at_moves g h d r (stamp_at (g.house h)) up e (eq_from _ _ q) refl) (λ _. stays _ tt)

-- the console notes what its new master took
abbrev Noted : Cell → (d m : ℕ) → List Member → HouseStep → Type 0
Noted g d m ms s = Moves g (Some (m, d)) (with_epoch (at_house g m s) d ms (at_house g m s).answer)

epoch_moves : (g : Cell) (d m : ℕ) (rs ss : List ℕ) (s : Slot) → IsUp g m → g.top d ≢ 0 → is_listed m (g.present d) ≡ true → (g.house m).slots d ≡ s
    → Noted g d m (member_list_of (g.present d) (g.top d + 1) m rs ss)
    (new_epoch_in m (g.house m) d (g.top d + 1) (member_list_of (g.present d) (g.top d + 1) m rs ss)
    (left_members (g.present d) (member_list_of (g.present d) (g.top d + 1) m rs ss)) s)
epoch_moves g d m rs ss Absent up known l e = stays _ tt
epoch_moves g d m rs ss (Gone k) up known l e = stays _ tt
epoch_moves g d m rs ss (Held r) up known l e = by_since (nat_le (since_in ms m 0) r.epoch) refl
  where
    ms : List Member
    ms = member_list_of (g.present d) (g.top d + 1) m rs ss

    left : List ℕ
    left = left_members (g.present d) ms

    by_since : (b : Bool) → nat_le (since_in ms m 0) r.epoch ≡ b
        → Noted g d m ms
        (cond b
        (turn_without_updates (with_slot (g.house m) d (g.house m).floor (Held (epoch_replica (g.top d + 1) ms r)))
        (epoch_posts (g.house m).floor d m (g.top d + 1) ms left r) (NewEpoch (g.top d + 1)))
        (Stays (Refused (NotJoined r.epoch (since_in ms m 0)))))
    by_since true q =
        crowns d m rs ss r up known e l (subst (λ (z : ℕ). z ≤ r.epoch) (since_kept (g.present d) (g.top d + 1) m rs ss l) (le_from _ _ q))
    by_since false q = stays _ tt

-- the update of a parent, and then the directory of the child
abbrev Mkdirs : Cell → (h d m : ℕ) → (rs ss : List ℕ) → HouseStep → Type 0
Mkdirs g h d m rs ss s = StepsOf g (Some (h, d)) (with_directory (at_house g h s) g.next_dir m (member_list_of [] 1 m rs ss) (at_house g h s).answer)

mkdir_stamp : (g : Cell) (h d m : ℕ) (u : Change) (rs ss : List ℕ) (r : Replica) (o : Option Stamp) → IsUp g h → IsUp g m → g.top d ≢ 0 → IsHeld g h d r
    → update_refusal h u r ≡ None → stamp_at (g.house h) ≡ o → Mkdirs g h d m rs ss (accept_at h (g.house h) d u r o)
mkdir_stamp g h d m u rs ss r None up up' known at fine e = one _ _ _ (stays _ tt)
mkdir_stamp g h d m u rs ss r (Some s) up up' known at fine e = mkdirs h d m u rs ss r s _ refl (record { up = up; held = at; next = e }) fine up' known

mkdir_unless : (g : Cell) (h d m : ℕ) (u : Change) (rs ss : List ℕ) (r : Replica) (q : Option UpdateRefusal) → IsUp g h → IsUp g m → g.top d ≢ 0
    → IsHeld g h d r → update_refusal h u r ≡ q → Mkdirs g h d m rs ss (unless_refused q (accept_at h (g.house h) d u r (stamp_at (g.house h))))
mkdir_unless g h d m u rs ss r None up up' known at fine = mkdir_stamp g h d m u rs ss r (stamp_at (g.house h)) up up' known at fine refl
mkdir_unless g h d m u rs ss r (Some q) up up' known at fine = one _ _ _ (stays _ tt)

mkdir_steps : (g : Cell) (h d m : ℕ) (u : Change) (rs ss : List ℕ) (s : Slot) → IsUp g h → IsUp g m → g.top d ≢ 0 → (g.house h).slots d ≡ s
    → Mkdirs g h d m rs ss (accept_in h (g.house h) d u s)
mkdir_steps g h d m u rs ss Absent up up' known e = one _ _ _ (stays _ tt)
mkdir_steps g h d m u rs ss (Gone k) up up' known e = one _ _ _ (stays _ tt)
mkdir_steps g h d m u rs ss (Held r) up up' known e = mkdir_unless g h d m u rs ss r (update_refusal h u r) up up' known e refl

unless_steps : (g : Cell) (p : Option (ℕ × ℕ)) (r : Option Refusal) (x : Outcome) → (r ≡ None → StepsOf g p x) → StepsOf g p (unless g r x)
unless_steps g p None x k = k refl
unless_steps g p (Some r) x k = one _ _ _ (stays (Refused r) tt)

one_of : (g : Cell) (p : Option (ℕ × ℕ)) (x : Outcome) → Moves g p x → StepsOf g p x
one_of g p x m = one x.cell x.answer x.accepted m

-- each test of a list of refusals fails
abbrev AllFail : List (Bool × Refusal) → Type 0
AllFail [] = Unit {0}
AllFail (t ∷ ts) = (t.0 ≡ false) × AllFail ts

all_fail : (ts : List (Bool × Refusal)) → first_refusal ts ≡ None → AllFail ts
all_fail [] e = tt
all_fail (t ∷ ts) e = let p = first_fails t.0 t.1 ts e in (p.0, all_fail ts p.1)

is_known : (g : Cell) (d : ℕ) → is_unknown g d ≡ false → g.top d ≢ 0
is_known g d e = grind arith

is_new : (g : Cell) (d : ℕ) → not (is_unknown g d) ≡ false → g.top d ≡ 0
is_new g d e = eq_from _ _ (not_true _ e)

made_of : (g : Cell) (h : ℕ) → is_missing g (h ∷ []) ≡ false → has h g.made ≡ true
made_of g h e = not_true _ (or_left (not (has h g.made)) _ e)

effect_steps : (g : Cell) (c : Command) → AllFail (refusals_of g c) → StepsOf g (place_of g c) (effect g c)
effect_steps g (commands.House h node) p = one_of g _ _ (houses h node p.0)
effect_steps g (commands.Clock h time) p = one_of g _ _ (clocks h time (made_of g h p.0))
effect_steps g (commands.Root m rs ss) p = one_of g _ _ (founds 1 m rs ss _ refl (not_true _ p.1.1.1.0) (is_new g 1 p.0))
effect_steps g (commands.Mkdir h d n m rs ss) p =
    let down = p.1.1.1.0 in
    mkdir_steps g h d m (changes.MakeChild n (record { dir = g.next_dir; master = m; others = sorted_houses rs })) rs ss _ (not_true _ (or_left _ (is_down g m) down))
    (not_true _ (or_right (is_down g h) _ down)) (is_known g d p.0) refl
effect_steps g (commands.Repoint h d n m rs) p = one_of g _ _ (accept_moves g h d (changes.Repoint n m (sorted_houses rs)) _ (not_true _ p.1.1.1.0) refl)
effect_steps g (commands.Accept h d u) p = one_of g _ _ (accept_moves g h d u _ (not_true _ p.1.1.0) refl)
effect_steps g (commands.Epoch d m rs ss) p = one_of g _ _ (epoch_moves g d m rs ss _ (not_true _ p.1.1.1.1.0) (is_known g d p.0) (not_true _ p.1.1.1.0) refl)
effect_steps g (commands.Skulk h d) p = one_of g _ _ (skulk_moves g h d _ (not_true _ p.1.1.0) refl)
effect_steps g (commands.Deliver n) p = one_of g _ _ (deliver_moves g n (message_at g n) refl)
effect_steps g (commands.Lose n) p = one_of g _ _ (lose_moves g n (message_at g n))
effect_steps g (commands.Crash h) p = one_of g _ _ (crashes h (not_true _ p.1.0))
effect_steps g (commands.Start h) p = one_of g _ _ (starts h (made_of g h p.0))

-- each command is a move, or two
pub outcome_steps : (g : Cell) (c : Command) → StepsOf g (place_of g c) (outcome g c)
outcome_steps g c = unless_steps g _ (first_refusal (refusals_of g c)) (effect g c) (λ e. effect_steps g c (all_fail (refusals_of g c) e))
