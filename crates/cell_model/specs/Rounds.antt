-- The two rounds of a skulk, at every moment of a run (own, after C705, skulks).
use Rattle.std.specs.Prelude.{◌≡◌, ℕ, ◌<◌, ◌≤◌, Bool, true, false, ◌&&◌, ◌==◌, if◌then◌else◌, List, [], ◌∷◌, ◌++◌, Option, Some, None}
use Rattle.cds_stamps.specs.declared.stamp.Stamp.{Stamp}
use Rattle.cds_stamps.specs.Members.{Member, others_of, is_listed, since_in}
use Rattle.cds_stamps.specs.Stamps.{is_stamp}
use Rattle.directory.specs.Histories.{Mark, stamp_in}
use Rattle.cell_model.specs.Cells.{Gathering, Spreading, Replica, Copy, Body, Gathered, SpreadAck, Join, Message, Cell, IsHeld}
use Rattle.cell_model.specs.Bodies.{marks_in}
use Rattle.cell_model.specs.Commands.{Command, Skulk, Complete, Accepted}
use Rattle.cell_model.specs.Sets.{In, IsUpTo}
use Rattle.cell_model.specs.Steps.{outcome, replay, accepted_updates}
use Rattle.cell_model.specs.Agreement.{place_of}
use Rattle.cell_model.specs.Provenance.{HasPassed}

-- the house took the Gather of t, and posted its answer (own)
pub record TookGather (g : Cell) (d : ℕ) (t : Stamp) (y : ℕ) : Type 0 where
  pub message : Message
  pub copy : Copy
  pub posted : In message g.bag
  pub dir : message.dir ≡ d
  pub sender : message.sender ≡ y
  pub body : message.body ≡ Gathered t copy

-- the house took the Spread of t, and posted its answer (own)
pub record TookSpread (g : Cell) (d : ℕ) (t : Stamp) (y : ℕ) : Type 0 where
  pub message : Message
  pub posted : In message g.bag
  pub dir : message.dir ≡ d
  pub sender : message.sender ≡ y
  pub body : message.body ≡ SpreadAck t

-- the copy in an answer to the Gather of t (own)
abbrev pub answer_in : Body → Stamp → Option Copy
answer_in (Gathered u copy) t = if is_stamp u t then Some copy else None
answer_in _ t = None

-- the copy, where the test holds and it is there, or else the rest (own)
abbrev pub or_first : Bool → Option Copy → Option Copy → Option Copy
or_first true (Some copy) rest = Some copy
or_first true None rest = rest
or_first false o rest = rest

-- the first answer of the house y to the Gather of t, lost or not (own)
abbrev pub first_answer : List Message → (d y : ℕ) → Stamp → Option Copy
first_answer [] d y t = None
first_answer (m ∷ ms) d y t = or_first ((m.dir == d) && (m.sender == y)) (answer_in m.body t) (first_answer ms d y t)

-- while the master h, which holds r, gathers t: the mark is in its history, in that of a continuing
-- member that has not answered, or in a member's first answer (own)
pub data InGathering (g : Cell) (h d : ℕ) (r : Replica) (t : Stamp) (j : Mark) : Type 0 where
  at_master : In j r.history → InGathering g h d r t j
  at_member : (y : ℕ) (q : Replica) → In y (others_of h r.members) → IsHeld g y d q → since_in r.members y 0 ≤ q.epoch → (TookGather g d t y → ⊥)
      → In j q.history → InGathering g h d r t j
  in_answer : (y : ℕ) (copy : Copy) → In y (others_of h r.members) → first_answer g.bag d y t ≡ Some copy → In j copy.history → InGathering g h d r t j

-- of the marks up to t, houses and messages of epoch k and later have those of W alone, so do the
-- updates that such a house accepted in its present term, and what is of a later epoch has a floor
-- of at least the time of t (own)
pub record Sentences (commands : List Command) (d k : ℕ) (t : Stamp) (W : Mark → Type 0) : Type 0 where
  pub houses : (x : ℕ) (q : Replica) (j : Mark) → IsHeld (replay commands) x d q → k ≤ q.epoch → In j q.history → IsUpTo (stamp_in j) t → W j
  pub messages : (m : Message) (j : Mark) → In m (replay commands).bag → m.dir ≡ d → k ≤ m.epoch → In j (marks_in m.body) → IsUpTo (stamp_in j) t → W j
  pub updates : (a : Accepted) (q : Replica) (j : Mark) → In a (accepted_updates commands) → a.dir ≡ d → IsHeld (replay commands) a.by d q → k ≤ q.epoch
      → a.since ≡ since_in q.members a.by 0 → IsUpTo a.stamp t → In j a.marks → W j
  pub later_houses : (x : ℕ) (q : Replica) → IsHeld (replay commands) x d q → k < q.epoch → t.time ≤ ((replay commands).house x).floor
  pub later_messages : (m : Message) → In m (replay commands).bag → m.dir ≡ d → k < m.epoch → t.time ≤ m.floor

-- while h, which holds r, gathers t, and no other member passed its epoch without taking the Gather
-- of t (own)
pub record WhileGathering (commands : List Command) (h d : ℕ) (r : Replica) (t : Stamp) : Type 0 where
  pub sentences : Sentences commands d r.epoch t (InGathering (replay commands) h d r t)
  pub master : t.time ≤ ((replay commands).house h).floor
  pub answered : (y : ℕ) → In y (others_of h r.members) → TookGather (replay commands) d t y → t.time ≤ ((replay commands).house y).floor

-- at each moment of a run at which a skulk gathers, and no other member passed its epoch without
-- taking the Gather (own)
abbrev pub GatheringHolds : List Command → Type 0
GatheringHolds commands =
    (h d : ℕ) (r : Replica) (t : Stamp) (answered : List ℕ) → IsHeld (replay commands) h d r → r.phase ≡ Gathering t answered →
    ((y : ℕ) → In y (others_of h r.members) → HasPassed (replay commands) y d r.epoch → TookGather (replay commands) d t y) →
    WhileGathering commands h d r t

-- the step c starts the second round of t at the house h, which then holds r: with the last answer
-- of the first round, or, at a master that is alone, with the skulk itself (own)
pub data StartsSecond (early : List Command) (c : Command) (h d : ℕ) (r : Replica) (t : Stamp) : Type 0 where
  with_last : (q : Replica) (answered : List ℕ) → IsHeld (replay early) h d q → q.phase ≡ Gathering t answered → IsHeld (replay (early ++ c ∷ [])) h d r
      → r.phase ≡ Spreading t [] → StartsSecond early c h d r t
  alone : (ns : List ℕ) → c ≡ Skulk h d → (outcome (replay early) c).answer ≡ Complete t ns → IsHeld (replay (early ++ c ∷ [])) h d r
      → StartsSecond early c h d r t

-- the house held the directory at epoch k at some moment of the run (own)
pub record HasHeld (commands : List Command) (y d k : ℕ) : Type 0 where
  pub early : List Command
  pub late : List Command
  pub replica : Replica
  pub parts : early ++ late ≡ commands
  pub held : IsHeld (replay early) y d replica
  pub epoch : replica.epoch ≡ k

-- from that start on, for good: the sentences with what the master had then; the floors of those at
-- its epoch and later ones, and of each of its members, also of one that has left since; and each
-- member held the epoch (own)
pub record FromSecond (commands : List Command) (d : ℕ) (r : Replica) (t : Stamp) : Type 0 where
  pub sentences : Sentences commands d r.epoch t (λ j. In j r.history)
  pub floors : (x : ℕ) (q : Replica) → IsHeld (replay commands) x d q → r.epoch ≤ q.epoch → t.time ≤ ((replay commands).house x).floor
  pub answered : (y : ℕ) → is_listed y r.members ≡ true → t.time ≤ ((replay commands).house y).floor
  pub members : (y : ℕ) → is_listed y r.members ≡ true → HasHeld commands y d r.epoch

-- at each moment from the start of a second round on (own)
abbrev pub SecondHolds : List Command → Type 0
SecondHolds all =
    (early late : List Command) (c : Command) (h d : ℕ) (r : Replica) (t : Stamp) → early ++ c ∷ late ≡ all → StartsSecond early c h d r t
    → FromSecond all d r t

-- the history has each mark of x up to t (own)
abbrev pub HasUpTo : Stamp → List Mark → List Mark → Type 0
HasUpTo t x h = (j : Mark) → In j x → IsUpTo (stamp_in j) t → In j h

-- what spreading has brought about: the master, those who took the Spread, the houses of later
-- epochs and the Joins of later epochs have the marks up to t that the master had at the start
-- (own)
pub record WhileSpreading (g : Cell) (h d : ℕ) (r : Replica) (t : Stamp) : Type 0 where
  pub master : (q : Replica) → IsHeld g h d q → HasUpTo t r.history q.history
  pub members : (y : ℕ) (q : Replica) → TookSpread g d t y → IsHeld g y d q → HasUpTo t r.history q.history
  pub later : (x : ℕ) (q : Replica) → IsHeld g x d q → r.epoch < q.epoch → HasUpTo t r.history q.history
  pub joins : (m : Message) (members : List Member) (copy : Copy) → In m g.bag → m.dir ≡ d → m.body ≡ Join members copy → r.epoch < m.epoch
      → HasUpTo t r.history copy.history

-- from the start on, while no other member passed the epoch without taking the Spread of t (own)
abbrev pub SpreadingHolds : List Command → Type 0
SpreadingHolds all =
    (early late : List Command) (c : Command) (h d : ℕ) (r : Replica) (t : Stamp) → early ++ c ∷ late ≡ all → StartsSecond early c h d r t →
    ((y : ℕ) → In y (others_of h r.members) → HasPassed (replay all) y d r.epoch → TookSpread (replay all) d t y) →
    WhileSpreading (replay all) h d r t

-- what a skulk that completed leaves for good: the houses of its epoch and of later ones, and the
-- Joins of later ones (own)
pub record AfterSpreading (g : Cell) (d : ℕ) (r : Replica) (t : Stamp) : Type 0 where
  pub houses : (x : ℕ) (q : Replica) → IsHeld g x d q → r.epoch ≤ q.epoch → HasUpTo t r.history q.history
  pub joins : (m : Message) (members : List Member) (copy : Copy) → In m g.bag → m.dir ≡ d → m.body ≡ Join members copy → r.epoch < m.epoch
      → HasUpTo t r.history copy.history

-- from completion on: in the step that starts the second round, or in a later one (own)
abbrev pub CompletedHolds : List Command → Type 0
CompletedHolds all =
    (early mid late : List Command) (c e : Command) (h x d : ℕ) (r : Replica) (t : Stamp) (ns : List ℕ) →
    early ++ c ∷ (mid ++ e ∷ late) ≡ all → StartsSecond early c h d r t →
    (outcome (replay (early ++ c ∷ mid)) e).answer ≡ Complete t ns → place_of (replay (early ++ c ∷ mid)) e ≡ Some (x, d) →
    AfterSpreading (replay all) d r t

-- likewise of a skulk that completes in the step that begins it (own)
abbrev pub CompletedAtOnce : List Command → Type 0
CompletedAtOnce all =
    (early late : List Command) (h d : ℕ) (r : Replica) (t : Stamp) (ns : List ℕ) →
    early ++ Skulk h d ∷ late ≡ all → (outcome (replay early) (Skulk h d)).answer ≡ Complete t ns → IsHeld (replay (early ++ Skulk h d ∷ [])) h d r →
    AfterSpreading (replay all) d r t
