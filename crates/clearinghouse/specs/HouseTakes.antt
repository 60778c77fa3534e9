-- What a message makes of a clearinghouse, without any model (own, after C705, updates, skulks and
-- new epochs).
use Rattle.std.specs.Prelude.{◌≡◌, ℕ, max, nat_le, if◌then◌else◌, List, Option, None}
use Rattle.std.specs.Prelude.{MatchBool, MatchOption}
use Rattle.std.specs.FinMap.{get, insert}
use Rattle.cds_stamps.specs.declared.members.Member as declared
use Rattle.cds_stamps.specs.Members.{members_of, since_in}
use Rattle.purge_rule.specs.declared.replica.Replica.{Replica}
use Rattle.cds_messages.specs.declared.message.Message.{Message}
use Rattle.clearinghouse.specs.declared.house.Clearinghouse.{Clearinghouse}
use Rattle.house_directory.specs.declared.states.Held.{Held}
use Rattle.house_directory.specs.declared.states.DirState.{DirState}
use Rattle.house_directory.specs.declared.states.DirState.TheVariants as state
use Rattle.house_directory.specs.declared.outgoing.Outgoing.{Outgoing}
use Rattle.house_directory.specs.declared.taking.Taken.{Taken}
use Rattle.house_directory.specs.declared.taking.Taken.TheVariants as taken
use Rattle.house_directory.specs.declared.posted.Posted.{Posted}
use Rattle.clearinghouse.specs.HouseLetters.{posts_at}
use Rattle.house_directory.specs.DirectorySteps.{is_taken}
use Rattle.house_directory.specs.Times.{latest_in_message}
use Rattle.cds_messages.specs.declared.message.Body.{Body}
use Rattle.cds_messages.specs.declared.message.Body.TheVariants as body
use Rattle.house_directory.specs.DirectoryTakes.{held_in, copy_of, JoinsCopy, Answers, TakesHere, join_bar, leave_passed}

-- ---- messages but Joins and Leaves

-- the clearinghouse with this floor, or a higher one that it had, and this of the directory (own)
abbrev pub with_directory_state : Clearinghouse → Message → (time : ℕ) → DirState → Clearinghouse
with_directory_state c m time s = record c { floor = record { time = max c.floor.time time }; dirs = insert c.dirs m.dir s }

-- what is held becomes this, and the floor rises where the message is taken (own)
pub record TakesAt (m : Message) (old new : Clearinghouse) (h : Held) (a : Taken) (o : Option Outgoing) : Type 0 where
  pub held : Held
  pub takes : TakesHere old.house m h held a o
  pub after : new ≡ with_directory_state old m (if is_taken a then latest_in_message m else 0) (state.Held held)

-- any message but a Join or a Leave (own)
abbrev pub TakesOther : Message → (old new : Clearinghouse) → Taken → Option Outgoing → Type 0
TakesOther m old new a o = MatchOption (held_in (get old.dirs m.dir)) (Answers old new taken.NoReplica a o) (λ h. TakesAt m old new h a o)

-- ---- Joins

-- a copy is merged into what is held (own)
pub record Merges (m : Message) (ms : List declared.Member) (copy : Replica) (old new : Clearinghouse) (h : Held) : Type 0 where
  pub held : Held
  pub joins : JoinsCopy m.epoch ms copy h held
  pub after : new ≡ record old { dirs = insert old.dirs m.dir (state.Held held) }

-- or it is had in the place of what there was (own)
abbrev pub Copies : Message → List declared.Member → Replica → (old new : Clearinghouse) → Type 0
Copies m ms copy old new = new ≡ record old { dirs = insert old.dirs m.dir (state.Held (copy_of m.epoch ms copy)) }

-- a house that held the directory in its present term merges the copy in, and any other has it
-- (own)
abbrev pub HasCopy : Message → List declared.Member → Replica → (old new : Clearinghouse) → Type 0
HasCopy m ms copy old new =
    MatchOption (held_in (get old.dirs m.dir)) (Copies m ms copy old new)
    (λ h. MatchBool (nat_le (since_in (members_of ms) old.house.0 0) h.epoch.0) (Merges m ms copy old new h) (Copies m ms copy old new))

-- a Join that is taken: the house has its copy, and its floor is raised (own)
pub record HasJoined (m : Message) (ms : List declared.Member) (copy : Replica) (old new : Clearinghouse) (a : Taken) (o : Option Outgoing) : Type 0 where
  pub between : Clearinghouse
  pub has : HasCopy m ms copy old between
  pub after : new ≡ record between { floor = record { time = max old.floor.time (latest_in_message m) } }
  pub answer : a ≡ taken.Taken
  pub posts : o ≡ None

-- a Join with these members and this copy (own)
abbrev pub TakesJoin : Message → List declared.Member → Replica → (old new : Clearinghouse) → Taken → Option Outgoing → Type 0
TakesJoin m ms copy old new a o =
    MatchOption (join_bar old.house.0 m (members_of ms) (get old.dirs m.dir)) (HasJoined m ms copy old new a o) (λ answer. Answers old new answer a o)

-- ---- Leaves

-- a Leave that is taken (own)
pub record HasLeft (m : Message) (old new : Clearinghouse) (a : Taken) (o : Option Outgoing) : Type 0 where
  pub after : new ≡ with_directory_state old m m.floor (state.Gone m.epoch)
  pub answer : a ≡ taken.Taken
  pub posts : o ≡ None

-- a Leave (own)
abbrev pub TakesLeave : Message → (old new : Clearinghouse) → Taken → Option Outgoing → Type 0
TakesLeave m old new a o =
    MatchOption (leave_passed m.epoch (get old.dirs m.dir)) (HasLeft m old new a o) (λ e. Answers old new (taken.Late m.epoch e) a o)

-- ---- any message

-- by what the message carries (own)
abbrev pub TakesBody : Body → Message → (old new : Clearinghouse) → Taken → Option Outgoing → Type 0
TakesBody (body.Join ms r) m old new a o = TakesJoin m ms r old new a o
TakesBody body.Leave m old new a o = TakesLeave m old new a o
TakesBody (body.Update f) m old new a o = TakesOther m old new a o
TakesBody (body.Gather t) m old new a o = TakesOther m old new a o
TakesBody (body.Gathered t r) m old new a o = TakesOther m old new a o
TakesBody (body.Spread t r) m old new a o = TakesOther m old new a o
TakesBody (body.SpreadAck t) m old new a o = TakesOther m old new a o
TakesBody (body.Advance t) m old new a o = TakesOther m old new a o

-- what a message makes of a clearinghouse, what it answers, and what is to be posted (own)
abbrev pub Takes : Message → (old new : Clearinghouse) → Taken → Option Outgoing → Type 0
Takes m old new a o = TakesBody m.body m old new a o

-- so where it is posted (own)
pub record TakesPosting (m : Message) (old new : Clearinghouse) (a : Taken) (posted : List Posted) : Type 0 where
  pub outgoing : Option Outgoing
  pub takes : Takes m old new a outgoing
  pub posts : posted ≡ posts_at new m.dir outgoing
