-- What a house does at each call, by what it has and what it is given: no other house counts, and
-- no message but the one that it takes (own, after C705, updates, skulks and new epochs).
use Rattle.std.specs.Prelude.{ℕ, max, Bool, true, false, ◌&&◌, ◌==◌, nat_lt, nat_le, if◌then◌else◌, List, [], ◌∷◌, ◌++◌, map, Option, Some, None}
use Rattle.std.specs.List.{list_all}
use Rattle.cds_stamps.specs.declared.stamp.Stamp.{Stamp}
use Rattle.cds_stamps.specs.Members.{Member, master_of, others_of, is_listed, is_accepting, since_in}
use Rattle.cds_stamps.specs.Semilattice.{maybe}
use Rattle.cds_stamps.specs.Stamps.{is_stamp, later_stamp, next_stamp}
use Rattle.directory.specs.declared.update.UpdateRefusal.{UpdateRefusal}
use Rattle.directory.specs.declared.update.UpdateRefusal.TheVariants as why
use Rattle.directory.specs.Histories.{Mark}
use Rattle.directory.specs.Shown.{shown_of_name, refusal_of, marks_of}
use Rattle.directory.specs.Updates.{Change, changed_name}
use Rattle.cell_model.specs.Sets.{has}
use Rattle.cell_model.specs.Cells.{Phase, Idle, Gathering, Spreading, Replica, Slot, Absent, Gone, Held, House, Body, Update, Gather, Gathered}
use Rattle.cell_model.specs.Cells.{Spread, SpreadAck, Advance, Join, Leave, Copy, Message, put}
use Rattle.cell_model.specs.Commands as commands
use Rattle.cell_model.specs.Commands.{NotJoined, Answer, Posted, Stamped, NewEpoch, Taken, Late, Early, Stale, Foreign, Complete, Refused, Accepted}

-- a turn of a house: the house after, the messages that it posts, its answer by their serials, and
-- the updates that it accepted (own)
pub record Turn : Type 0 where
  pub house : House
  pub posts : List Message
  pub answer : List ℕ → Answer
  pub accepted : List Accepted

-- what a call comes to at a house: an answer, and nothing changes; or a turn (own)
pub data HouseStep : Type 0 where
  Stays : (answer : Answer) → HouseStep
  Turns : (turn : Turn) → HouseStep

-- a refusal of what a master does (own)
abbrev pub refuses : UpdateRefusal → HouseStep
refuses r = Stays (Refused (commands.Update r))

-- refused, or else this (own)
abbrev pub unless_refused : Option UpdateRefusal → HouseStep → HouseStep
unless_refused None s = s
unless_refused (Some r) s = refuses r

-- a turn in which no update is accepted (own)
abbrev pub turn_without_updates : House → List Message → (List ℕ → Answer) → HouseStep
turn_without_updates house posts answer = Turns (record { house = house; posts = posts; answer = answer; accepted = [] })

-- ---- changes of a house, and messages

-- a house with another floor, and another slot for a directory (own)
abbrev pub with_slot : House → ℕ → ℕ → Slot → House
with_slot now d floor s = record now { floor = floor; slots = put now.slots d s }

-- a replica with more marks (own)
abbrev pub with_marks : Replica → List Mark → Replica
with_marks r marks = record r { history = r.history ++ marks }

-- the copy of a replica, to send (own)
abbrev pub copy_of : Replica → Copy
copy_of r = record { history = r.history; all_up_to = r.all_up_to }

-- the marks of both, and the later AllUpTo (own, after C705, merging of replicas)
abbrev pub merge_copy : Replica → Copy → Replica
merge_copy r copy = record r { history = r.history ++ copy.history; all_up_to = maybe later_stamp r.all_up_to copy.all_up_to }

-- the later of an AllUpTo and a stamp (own)
abbrev pub later_up_to : Option Stamp → Stamp → Option Stamp
later_up_to all_up_to t = maybe later_stamp all_up_to (Some t)

-- one message to each receiver, in their order (own)
abbrev pub to_each : List ℕ → (dir sender epoch floor : ℕ) → Body → List Message
to_each receivers dir sender epoch floor body =
    map (λ x. record { receiver = x; dir = dir; sender = sender; epoch = epoch; floor = floor; body = body }) receivers

-- the stamp that a house issues next, if it has one left (own)
abbrev pub stamp_at : House → Option Stamp
stamp_at now = next_stamp now.clock now.floor now.node

-- the stamp of the skulk that runs (own)
abbrev pub running_skulk_stamp : Phase → Option Stamp
running_skulk_stamp Idle = None
running_skulk_stamp (Gathering t answered) = Some t
running_skulk_stamp (Spreading t answered) = Some t

-- ---- new directories and updates

-- what the master of a new directory holds: epoch 1 and an empty history (own, after C705, creating
-- a directory)
abbrev pub first_replica : List Member → Replica
first_replica ms = record { epoch = 1; members = ms; history = []; all_up_to = None; phase = Idle }

-- the Joins that the master of a new directory posts, with its floor (own)
abbrev pub first_joins : (floor d m : ℕ) → List Member → List Message
first_joins floor d m ms = to_each (others_of m ms) d m 1 floor (Join ms (copy_of (first_replica ms)))

-- the house makes a directory, of which it is the master (own, after C705, creating a directory)
abbrev pub found_directory : (m : ℕ) → House → (d : ℕ) → List Member → Turn
found_directory m now d ms =
    record { house = with_slot now d now.floor (Held (first_replica ms)); posts = first_joins now.floor d m ms; answer = Posted; accepted = [] }

-- a house that accepts updates issues a stamp, adds the marks, and posts them to each other member
-- (own, after C705, updates)
abbrev pub accept_at : (h : ℕ) → House → (d : ℕ) → Change → Replica → Option Stamp → HouseStep
accept_at h now d u r None = refuses why.StampsSpent
accept_at h now d u r (Some s) =
    let marks : List Mark = marks_of (shown_of_name r.history (changed_name u)) u s in
    Turns (record {
      house = with_slot now d s.time (Held (with_marks r marks));
      posts = to_each (others_of h r.members) d h r.epoch s.time (Update marks);
      answer = Stamped s;
      accepted = record { by = h; dir = d; epoch = r.epoch; since = since_in r.members h 0; stamp = s; marks = marks } ∷ [];
    })

-- why a house that holds the directory refuses an update, but for the stamps (own)
abbrev pub update_refusal : ℕ → Change → Replica → Option UpdateRefusal
update_refusal h u r = if is_accepting h r.members then refusal_of (shown_of_name r.history (changed_name u)) u else Some why.NotMaster

-- an update, by what the house has of the directory (own)
abbrev pub accept_in : (h : ℕ) → House → (d : ℕ) → Change → Slot → HouseStep
accept_in h now d u Absent = refuses why.NoReplica
accept_in h now d u (Gone e) = refuses why.NoReplica
accept_in h now d u (Held r) = unless_refused (update_refusal h u r) (accept_at h now d u r (stamp_at now))

-- an update of a directory at a house (own, after C705, updates)
abbrev pub accept : (h : ℕ) → House → (d : ℕ) → Change → HouseStep
accept h now d u = accept_in h now d u (now.slots d)

-- ---- skulks and epochs

-- a master begins a skulk; one that is alone ends it too (own, after C705, skulks)
abbrev pub begin : (h : ℕ) → House → (d : ℕ) → Replica → Stamp → List ℕ → HouseStep
begin h now d r t [] = turn_without_updates (with_slot now d t.time (Held (record r { all_up_to = later_up_to r.all_up_to t; phase = Idle }))) [] (Complete t)
begin h now d r t (y ∷ ys) =
    turn_without_updates (with_slot now d t.time (Held (record r { phase = Gathering t [] }))) (to_each (y ∷ ys) d h r.epoch t.time (Gather t)) (Stamped t)

-- a skulk with the stamp that is issued, if any (own)
abbrev pub skulk_at : (h : ℕ) → House → (d : ℕ) → Replica → Option Stamp → HouseStep
skulk_at h now d r None = refuses why.StampsSpent
skulk_at h now d r (Some t) = begin h now d r t (others_of h r.members)

-- a skulk, by what the house has of the directory (own)
abbrev pub skulk_in : (h : ℕ) → House → (d : ℕ) → Slot → HouseStep
skulk_in h now d Absent = refuses why.NoReplica
skulk_in h now d (Gone e) = refuses why.NoReplica
skulk_in h now d (Held r) = if master_of r.members == h then skulk_at h now d r (stamp_at now) else refuses why.NotMaster

-- a skulk of a directory at a house (own, after C705, skulks)
abbrev pub skulk : (h : ℕ) → House → (d : ℕ) → HouseStep
skulk h now d = skulk_in h now d (now.slots d)

-- the new master takes the new epoch and its list, keeps its history, and ends its skulk (own,
-- after C705, new epochs)
abbrev pub epoch_replica : ℕ → List Member → Replica → Replica
epoch_replica k ms r = record r { epoch = k; members = ms; phase = Idle }

-- its Joins to the other members, and its Leaves to those that are listed no more, with its floor
-- (own, after C705, new epochs)
abbrev pub epoch_posts : (floor d m k : ℕ) → List Member → List ℕ → Replica → List Message
epoch_posts floor d m k ms left r =
    to_each (others_of m ms) d m k floor (Join ms (copy_of r)) ++ to_each left d m k floor Leave

-- a new epoch, by what the new master has of the directory: its own epoch is in its present term
-- (own)
abbrev pub new_epoch_in : (m : ℕ) → House → (d k : ℕ) → List Member → List ℕ → Slot → HouseStep
new_epoch_in m now d k ms left Absent = refuses why.NoReplica
new_epoch_in m now d k ms left (Gone e) = refuses why.NoReplica
new_epoch_in m now d k ms left (Held r) =
    if nat_le (since_in ms m 0) r.epoch
    then turn_without_updates (with_slot now d now.floor (Held (epoch_replica k ms r))) (epoch_posts now.floor d m k ms left r) (NewEpoch k)
    else Stays (Refused (NotJoined r.epoch (since_in ms m 0)))

-- the epoch k of a directory with these members, told to those that are left out, at its new master
-- (own, after C705, new epochs)
abbrev pub new_epoch : (m : ℕ) → House → (d k : ℕ) → List Member → (left : List ℕ) → HouseStep
new_epoch m now d k ms left = new_epoch_in m now d k ms left (now.slots d)

-- ---- taking messages

-- the floor that a message leaves at its receiver (own)
abbrev pub floor_after : House → Message → ℕ
floor_after now m = max now.floor m.floor

-- the receiver takes a message: its floor rises to the message's, it holds this, posts these, and
-- answers so (own)
abbrev pub takes : House → Message → Slot → List Message → (List ℕ → Answer) → HouseStep
takes now m s posts answer = turn_without_updates (with_slot now m.dir (floor_after now m) s) posts answer

-- the message is taken, and answered so (own)
abbrev pub take_and_answer : House → Message → Slot → List Message → HouseStep
take_and_answer now m s posts = takes now m s posts Taken

-- what the receiver answers to the sender (own)
abbrev pub reply : House → Message → Body → List Message
reply now m body =
    record { receiver = m.sender; dir = m.dir; sender = m.receiver; epoch = m.epoch; floor = floor_after now m; body = body } ∷ []

-- something to each other member (own)
abbrev pub to_others : House → Message → Replica → Body → List Message
to_others now m r body = to_each (others_of m.receiver r.members) m.dir m.receiver r.epoch (floor_after now m) body

-- each of these has answered (own)
abbrev pub all_answered : List ℕ → List ℕ → Bool
all_answered hs answered = list_all (λ x. has x answered) hs

-- an answer to a skulk that does not run (own)
abbrev pub stale : Stamp → Phase → HouseStep
stale t phase = Stays (Stale t (running_skulk_stamp phase))

-- an answer of the first round; the last one missing begins the second (own, after C705, skulks)
abbrev pub take_gathered_answer : House → Message → Replica → Stamp → Replica → List ℕ → HouseStep
take_gathered_answer now m r t r' answered =
    if all_answered (others_of m.receiver r.members) answered
    then take_and_answer now m (Held (record r' { phase = Spreading t [] })) (to_others now m r (Spread t (copy_of r')))
    else take_and_answer now m (Held (record r' { phase = Gathering t answered })) []

-- an answer of the first round, by the phase; in the second round it is joined in (own, after C705,
-- skulks)
abbrev pub take_gathered : House → Message → Stamp → Copy → Replica → Phase → HouseStep
take_gathered now m t copy r Idle = stale t Idle
take_gathered now m t copy r (Gathering u answered) =
    if is_stamp t u then take_gathered_answer now m r u (merge_copy r copy) (m.sender ∷ answered) else stale t (Gathering u answered)
take_gathered now m t copy r (Spreading u answered) =
    if is_stamp t u then take_and_answer now m (Held (merge_copy r copy)) [] else stale t (Spreading u answered)

-- an answer of the second round; the last one missing completes the skulk (own, after C705, skulks)
abbrev pub spread : House → Message → Replica → Stamp → List ℕ → HouseStep
spread now m r t answered =
    if all_answered (others_of m.receiver r.members) answered
    then takes now m (Held (record r { all_up_to = later_up_to r.all_up_to t; phase = Idle })) (to_others now m r (Advance t)) (Complete t)
    else take_and_answer now m (Held (record r { phase = Spreading t answered })) []

-- while a skulk gathers, no member has its second round's message to answer: that row is for
-- completeness (own)
abbrev pub take_ack : House → Message → Stamp → Replica → Phase → HouseStep
take_ack now m t r Idle = stale t Idle
take_ack now m t r (Gathering u answered) = if is_stamp t u then take_and_answer now m (Held r) [] else stale t (Gathering u answered)
take_ack now m t r (Spreading u answered) =
    if is_stamp t u then spread now m r u (m.sender ∷ answered) else stale t (Spreading u answered)

-- a message of the epoch that the receiver holds, from a member (own, after C705, updates and
-- skulks)
abbrev pub take_own : House → Message → Replica → Body → HouseStep
take_own now m r (Update marks) = take_and_answer now m (Held (with_marks r marks)) []
take_own now m r (Gather t) = take_and_answer now m (Held r) (reply now m (Gathered t (copy_of r)))
take_own now m r (Gathered t copy) = take_gathered now m t copy r r.phase
take_own now m r (Spread t copy) = take_and_answer now m (Held (merge_copy r copy)) (reply now m (SpreadAck t))
take_own now m r (SpreadAck t) = take_ack now m t r r.phase
take_own now m r (Advance t) = take_and_answer now m (Held (record r { all_up_to = later_up_to r.all_up_to t })) []
take_own now m r (Join members copy) = Stays Foreign
take_own now m r Leave = Stays Foreign

-- any message but a Join or a Leave (own)
abbrev pub take_other : House → Message → Body → Slot → HouseStep
take_other now m body Absent = Stays commands.NoReplica
take_other now m body (Gone e) = Stays commands.NoReplica
take_other now m body (Held r) =
    if nat_lt m.epoch r.epoch then Stays (Late m.epoch r.epoch)
    else
    (if nat_lt r.epoch m.epoch then Stays (Early m.epoch r.epoch)
    else (if is_listed m.sender r.members then take_own now m r body else Stays Foreign))

-- the replica that is a copy (own)
abbrev pub replica_of_copy : Message → List Member → Copy → Replica
replica_of_copy m members copy = record { epoch = m.epoch; members = members; history = copy.history; all_up_to = copy.all_up_to; phase = Idle }

-- the replica that a house keeps at a Join: the copy is joined in (own)
abbrev pub kept_at_join : Message → List Member → Copy → Replica → Replica
kept_at_join m members copy r = record (merge_copy r copy) { epoch = m.epoch; members = members; phase = Idle }

-- a house keeps its replica where it held the directory in its present term, and else takes the
-- copy (own, after C705, new epochs)
abbrev pub join_replica : Message → List Member → Copy → Slot → Replica
join_replica m members copy Absent = replica_of_copy m members copy
join_replica m members copy (Gone e) = replica_of_copy m members copy
join_replica m members copy (Held r) =
    if nat_le (since_in members m.receiver 0) r.epoch then kept_at_join m members copy r else replica_of_copy m members copy

-- the epoch of a Join is passed: which epoch the house has (own)
abbrev pub late_join : ℕ → Slot → Option ℕ
late_join k Absent = None
late_join k (Gone e) = if nat_le k e then Some e else None
late_join k (Held r) = if nat_lt k r.epoch then Some r.epoch else None

-- the epoch of a Leave is passed, or held (own)
abbrev pub late_leave : ℕ → Slot → Option ℕ
late_leave k Absent = None
late_leave k (Gone e) = if nat_le k e then Some e else None
late_leave k (Held r) = if nat_le k r.epoch then Some r.epoch else None

-- late, or else this (own)
abbrev pub unless_late : Message → Option ℕ → HouseStep → HouseStep
unless_late m None s = s
unless_late m (Some e) s = Stays (Late m.epoch e)

-- a Join, by what the receiver has (own, after C705, new epochs)
abbrev pub take_join : House → Message → List Member → Copy → Slot → HouseStep
take_join now m members copy s =
    unless_late m (late_join m.epoch s)
    (if is_listed m.receiver members && is_listed m.sender members then take_and_answer now m (Held (join_replica m members copy s)) [] else Stays Foreign)

-- a Leave, by what the receiver has (own, after C705, new epochs)
abbrev pub take_leave : House → Message → Slot → HouseStep
take_leave now m s = unless_late m (late_leave m.epoch s) (take_and_answer now m (Gone m.epoch) [])

-- any message, by what the receiver has of its directory (own)
abbrev pub take_in : House → Message → Body → Slot → HouseStep
take_in now m (Join members copy) s = take_join now m members copy s
take_in now m Leave s = take_leave now m s
take_in now m (Update marks) s = take_other now m (Update marks) s
take_in now m (Gather t) s = take_other now m (Gather t) s
take_in now m (Gathered t copy) s = take_other now m (Gathered t copy) s
take_in now m (Spread t copy) s = take_other now m (Spread t copy) s
take_in now m (SpreadAck t) s = take_other now m (SpreadAck t) s
take_in now m (Advance t) s = take_other now m (Advance t) s

-- a message at the house that it is for (own, after C705, updates, skulks and new epochs)
abbrev pub take : House → Message → HouseStep
take now m = take_in now m m.body (now.slots m.dir)

-- ---- crashes

-- a crash ends the running skulk (own)
abbrev pub crash_slot : Slot → Slot
crash_slot Absent = Absent
crash_slot (Gone e) = Gone e
crash_slot (Held r) = Held (record r { phase = Idle })

-- the house is down, and runs no skulk (own)
abbrev pub crashed_house : House → House
crashed_house now = record now { up = false; slots = λ d. crash_slot (now.slots d) }

-- the house is up again (own)
abbrev pub started_house : House → House
started_house now = record now { up = true }
