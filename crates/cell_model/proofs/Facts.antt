-- One directory of a cell, what holds of it in every cell that is reached, and what any step does
-- to it.
use Rattle.std.proofs.Common.{◌≡◌, ℕ, suc, ◌<◌, ◌≤◌, ◌⊎◌, eqb, cond, List, [], ◌∷◌, Some}
use Rattle.cds_stamps.specs.declared.stamp.Stamp.{Stamp}
use Rattle.cds_stamps.specs.Members.{Member, master_of}
use Rattle.directory.specs.Histories.{Mark, stamp_in}
use Rattle.cell_model.specs.Cells.{Idle, Gathering, Spreading, Replica, Slot, Absent, Gone, Held, Copy, Body, Update, Gather, Gathered, Spread}
use Rattle.cell_model.specs.Cells.{SpreadAck, Advance, Join, Leave, Message, Cell}
pub use Rattle.cell_model.specs.Bodies.{marks_in, round_of, up_to_in, copy_in}
use Rattle.cell_model.specs.Commands.{Accepted}
use Rattle.cell_model.specs.Sets.{In, IsPart}
use Rattle.cell_model.specs.Turns.{running_skulk_stamp, copy_of}
use Rattle.cell_model.proofs.Terms.{Listed, others}

-- ---- one directory

-- a house, as one directory sees it
pub record Seat : Type 0 where
  pub floor : ℕ
  pub slot : Slot

-- one directory of a cell: a seat for each house, its messages, its last epoch and its present list
pub record View : Type 0 where
  pub house : ℕ → Seat
  pub bag : List Message
  pub top : ℕ
  pub present : List Member

-- the messages of a directory
abbrev pub of_dir : ℕ → List Message → List Message
of_dir d [] = []
of_dir d (m ∷ ms) = cond (eqb m.dir d) (m ∷ of_dir d ms) (of_dir d ms)

-- how a house of a cell is seated at a directory
abbrev pub seat : ℕ → Cell → ℕ → Seat
seat d g x = record { floor = (g.house x).floor; slot = (g.house x).slots d }

-- a cell, as one directory sees it
abbrev pub view : ℕ → Cell → View
view d g = record { house = seat d g; bag = of_dir d g.bag; top = g.top d; present = g.present d }

-- the message is in the bag
abbrev pub IsPosted : View → Message → Type 0
IsPosted g m = In m g.bag

-- the house holds this replica
abbrev pub Holds : View → ℕ → Replica → Type 0
Holds g x r = (g.house x).slot ≡ Held r

-- what a whole run says: the directory's number, the member list of each of its epochs, and the
-- house of each node
pub record Roll : Type 0 where
  pub dir : ℕ
  pub list : ℕ → List Member
  pub home : ℕ → ℕ

-- ---- reading messages and slots

-- the house holds this epoch or a later one, or is gone at it
abbrev pub Reached : ℕ → Slot → Type 0
Reached e Absent = ⊥
Reached e (Gone d) = e ≤ d
Reached e (Held r) = e ≤ r.epoch

-- ---- what holds of every cell that is reached

-- the member lists of all epochs up to the last: none is listed before epoch 1; a since is not
-- later than the epoch; a term is unbroken; the master of an epoch was listed in the one before
pub record Good (roll : Roll) (top : ℕ) : Type 0 where
  pub none : (x s : ℕ) → Listed (roll.list 0) x s → ⊥
  pub order : (e x s : ℕ) → e ≤ top → Listed (roll.list e) x s → s ≤ e
  pub term : (d e x s : ℕ) → d ≤ e → e ≤ top → s ≤ d → Listed (roll.list e) x s → Listed (roll.list d) x s
  pub chain : (e : ℕ) → 1 ≤ e → suc e ≤ top → (s : ℕ) × Listed (roll.list e) (master_of (roll.list (suc e))) s

-- a replica that a house holds
pub record HeldOk (roll : Roll) (g : View) (x : ℕ) (r : Replica) : Type 0 where
  pub top : r.epoch ≤ g.top
  pub members : r.members ≡ roll.list r.epoch
  pub listed : (s : ℕ) × Listed (roll.list r.epoch) x s
  pub floors : (k : Mark) → In k r.history → (stamp_in k).time ≤ (g.house x).floor
  pub phase : (t : Stamp) → running_skulk_stamp r.phase ≡ Some t → (master_of r.members ≡ x) × (roll.home t.node ≡ x) × (t.time ≤ (g.house x).floor)
  pub own : (t : Stamp) → running_skulk_stamp r.phase ≡ Some t → (m : Message) → IsPosted g m → round_of m.body ≡ Some t → m.epoch ≡ r.epoch

-- what a posted message is, by its body
abbrev pub Kind : Roll → Message → Body → Type 0
Kind roll m (Update marks) = Unit {0}
Kind roll m (Gather t) = Unit {0}
Kind roll m (Gathered t copy) = Unit {0}
Kind roll m (Spread t copy) = Unit {0}
Kind roll m (SpreadAck t) = Unit {0}
Kind roll m (Advance t) = Unit {0}
Kind roll m (Join ms copy) = (ms ≡ roll.list m.epoch) × ((s : ℕ) × Listed (roll.list m.epoch) m.receiver s)
Kind roll m Leave = (s : ℕ) → Listed (roll.list m.epoch) m.receiver s → ⊥

-- a message that was posted
pub record Lawful (roll : Roll) (g : View) (m : Message) : Type 0 where
  pub top : m.epoch ≤ g.top
  pub by : (s : ℕ) × Listed (roll.list m.epoch) m.sender s
  pub sent : Reached m.epoch (g.house m.sender).slot
  pub floor : m.floor ≤ (g.house m.sender).floor
  pub held : (r : Replica) → Holds g m.sender r → r.epoch ≡ m.epoch → IsPart (marks_in m.body) r.history
  pub bound : (k : Mark) → In k (marks_in m.body) → (stamp_in k).time ≤ m.floor
  pub round : (t : Stamp) → round_of m.body ≡ Some t → (t.time ≤ m.floor) × (t.time ≤ (g.house (roll.home t.node)).floor)
  pub kind : Kind roll m m.body

-- what holds of a directory in every cell that is reached
pub record Sound (roll : Roll) (g : View) : Type 0 where
  pub good : Good roll g.top
  pub present : g.present ≡ roll.list g.top
  pub held : (x : ℕ) (r : Replica) → Holds g x r → HeldOk roll g x r
  pub gone : (x e : ℕ) → (g.house x).slot ≡ Gone e → (1 ≤ e) × (e ≤ g.top) × ((s : ℕ) → Listed (roll.list e) x s → ⊥)
  pub messages : (m : Message) → IsPosted g m → Lawful roll g m
  pub heads : (e : ℕ) → suc e ≤ g.top → Reached (suc e) (g.house (master_of (roll.list (suc e)))).slot

-- ---- what any step does

-- how the phase of a house goes on within an epoch
pub data Turn (roll : Roll) (g : View) (x floor : ℕ) (r r' : Replica) : Type 0 where
  same : r'.phase ≡ r.phase → Turn roll g x floor r r'
  idle : r'.phase ≡ Idle → Turn roll g x floor r r'
  begins : (t : Stamp) → r'.phase ≡ Gathering t [] → master_of r.members ≡ x → roll.home t.node ≡ x → (g.house x).floor < t.time → t.time ≤ floor
      → IsPart r'.history r.history → Turn roll g x floor r r'
  answered : (t : Stamp) (a : List ℕ) (m : Message) (copy : Copy) → r.phase ≡ Gathering t a → r'.phase ≡ Gathering t (m.sender ∷ a) → IsPosted g m
      → m.body ≡ Gathered t copy → IsPart copy.history r'.history → Turn roll g x floor r r'
  turned : (t : Stamp) (a : List ℕ) (m : Message) (copy : Copy) → r.phase ≡ Gathering t a → r'.phase ≡ Spreading t [] → IsPosted g m
      → m.body ≡ Gathered t copy → IsPart copy.history r'.history → ((y : ℕ) → In y (others r.members) → In y (m.sender ∷ a)) → Turn roll g x floor r r'
  acked : (t : Stamp) (a : List ℕ) (m : Message) → r.phase ≡ Spreading t a → r'.phase ≡ Spreading t (m.sender ∷ a) → IsPosted g m → m.body ≡ SpreadAck t
      → Turn roll g x floor r r'

-- a house takes a Join: its marks, its list, its floor
pub record Took (g : View) (m : Message) (ms : List Member) (copy : Copy) (r' : Replica) (floor : ℕ) : Type 0 where
  pub posted : IsPosted g m
  pub is : m.body ≡ Join ms copy
  pub epoch : m.epoch ≡ r'.epoch
  pub members : r'.members ≡ ms
  pub marks : IsPart copy.history r'.history
  pub raised : m.floor ≤ floor
  pub idle : r'.phase ≡ Idle

-- how a house that holds the directory after a step came to do so
pub data Past (roll : Roll) (g g' : View) (x floor : ℕ) (r' : Replica) : Type 0 where
  grew : (r : Replica) → Holds g x r → r.epoch ≡ r'.epoch → r'.members ≡ r.members → IsPart r.history r'.history → Turn roll g x floor r r'
      → Past roll g g' x floor r'
  rose : (r : Replica) (m : Message) (ms : List Member) (copy : Copy) → Holds g x r → r.epoch < r'.epoch → IsPart r.history r'.history → m.receiver ≡ x
      → ((s : ℕ) → Listed (roll.list r'.epoch) x s → s ≤ r.epoch) → Took g m ms copy r' floor → Past roll g g' x floor r'
  crowned : (r : Replica) → Holds g x r → r.epoch < r'.epoch → IsPart r.history r'.history → ((s : ℕ) → Listed (roll.list r'.epoch) x s → s ≤ r.epoch)
      → g.top < r'.epoch → r'.epoch ≡ g'.top → r'.members ≡ g'.present → ((s : ℕ) × Listed (roll.list r'.epoch) x s) → r'.phase ≡ Idle
      → Past roll g g' x floor r'
  copied : (m : Message) (ms : List Member) (copy : Copy) → m.receiver ≡ x → ((e : ℕ) → Reached e (g.house x).slot → e < r'.epoch)
      → ((r : Replica) (s : ℕ) → Holds g x r → Listed (roll.list r'.epoch) x s → r.epoch < s) → Took g m ms copy r' floor → Past roll g g' x floor r'
  founded : g.top ≡ 0 → r'.epoch ≡ g'.top → r'.members ≡ g'.present → r'.history ≡ [] → ((s : ℕ) × Listed (roll.list r'.epoch) x s) → r'.phase ≡ Idle
      → Past roll g g' x floor r'

-- where a mark that a house holds after a step comes from
pub data Came (roll : Roll) (g g' : View) (new : List Accepted) (x floor : ℕ) (r' : Replica) (k : Mark) : Type 0 where
  own : (r : Replica) → Holds g x r → In k r.history → r.epoch ≤ r'.epoch → ((s : ℕ) → Listed (roll.list r'.epoch) x s → s ≤ r.epoch)
      → IsPart r.history r'.history → Came roll g g' new x floor r' k
  sent : (m : Message) → IsPosted g m → m.epoch ≡ r'.epoch → In k (marks_in m.body) → m.floor ≤ floor → IsPart (marks_in m.body) r'.history
      → Came roll g g' new x floor r' k
  fresh : (r : Replica) (a : Accepted) → Holds g x r → r.epoch ≡ r'.epoch → (g.house x).floor < (stamp_in k).time → (stamp_in k).time ≤ floor → In a new
      → a.dir ≡ roll.dir → In k a.marks → stamp_in k ≡ a.stamp → IsPart a.marks r'.history
      → ((m : Message) (t : Stamp) → IsPosted g' m → round_of m.body ≡ Some t → IsPosted g m) → Came roll g g' new x floor r' k

-- a message that answers another: that one, and what the sender held when it took it
pub record Answers (g : View) (m : Message) (b : Body) : Type 0 where
  pub to : Message
  pub held : Replica
  pub posted : IsPosted g to
  pub is : to.body ≡ b
  pub epoch : to.epoch ≡ m.epoch
  pub floor : to.floor ≤ m.floor
  pub holds : Holds g m.sender held
  pub holds_epoch : held.epoch ≡ m.epoch

-- what a message that a step posts is, by its body, and from which replica
abbrev pub NewKind : Roll → View → Message → Replica → Body → Type 0
NewKind roll g m q (Update marks) = Unit {0}
NewKind roll g m q (Gather t) = q.phase ≡ Gathering t []
NewKind roll g m q (Gathered t copy) = (a : Answers g m (Gather t)) × IsPart a.held.history copy.history
NewKind roll g m q (Spread t copy) = (q.phase ≡ Spreading t []) × IsPart q.history copy.history
NewKind roll g m q (SpreadAck t) = (copy : Copy) × Answers g m (Spread t copy) × IsPart copy.history q.history
NewKind roll g m q (Advance t) = (p : Message) × IsPosted g p × (p.body ≡ SpreadAck t) × (p.epoch ≡ m.epoch) × (p.floor ≤ m.floor)
NewKind roll g m q (Join ms copy) = (ms ≡ roll.list m.epoch) × ((s : ℕ) × Listed (roll.list m.epoch) m.receiver s) × IsPart q.history copy.history
NewKind roll g m q Leave = (s : ℕ) → Listed (roll.list m.epoch) m.receiver s → ⊥

-- an update of this step has the mark, and the list has all of that update
pub record Brings (d : ℕ) (new : List Accepted) (marks : List Mark) (k : Mark) : Type 0 where
  pub by : Accepted
  pub logged : In by new
  pub dir : by.dir ≡ d
  pub has : In k by.marks
  pub part : IsPart by.marks marks

-- a message that a step posts: its marks are all that its sender has, or those of updates of this
-- step
pub record New (roll : Roll) (g g' : View) (new : List Accepted) (m : Message) : Type 0 where
  pub q : Replica
  pub held : Holds g' m.sender q
  pub epoch : q.epoch ≡ m.epoch
  pub floor : m.floor ≡ (g'.house m.sender).floor
  pub marks : IsPart (marks_in m.body) q.history
  pub source : IsPart q.history (marks_in m.body) ⊎ ((k : Mark) → In k (marks_in m.body) → Brings roll.dir new (marks_in m.body) k)
  pub copied : (c : Copy) → copy_in m.body ≡ Some c → c ≡ copy_of q
  pub kind : NewKind roll g m q m.body

-- what any step does, to each house and each message
pub record Frame (roll : Roll) (g g' : View) (new : List Accepted) : Type 0 where
  pub rises : (x : ℕ) → (g.house x).floor ≤ (g'.house x).floor
  pub climbs : (x e : ℕ) → Reached e (g.house x).slot → Reached e (g'.house x).slot
  pub past : (x : ℕ) (r' : Replica) → Holds g' x r' → Past roll g g' x (g'.house x).floor r'
  pub comes : (x : ℕ) (r' : Replica) (k : Mark) → Holds g' x r' → In k r'.history → Came roll g g' new x (g'.house x).floor r' k
  pub next : (x : ℕ) (r : Replica) → Holds g x r → ((r' : Replica) × Holds g' x r') ⊎ ((e : ℕ) × ((g'.house x).slot ≡ Gone e))
  pub gone : (x e : ℕ) → (g'.house x).slot ≡ Gone e → ((g.house x).slot ≡ Gone e)
      ⊎ ((m : Message) × IsPosted g m × (m.body ≡ Leave) × (m.epoch ≡ e) × (m.receiver ≡ x))
  pub stays : (m : Message) → IsPosted g m → IsPosted g' m
  pub posts : (m : Message) → IsPosted g' m → IsPosted g m ⊎ New roll g g' new m
  pub top : g.top ≤ g'.top
  pub good : Good roll g'.top
  pub present : g'.present ≡ roll.list g'.top
  pub heads : (e : ℕ) → suc e ≤ g'.top → (suc e ≤ g.top) ⊎ Reached (suc e) (g'.house (master_of (roll.list (suc e)))).slot
