-- Messages that houses post, and which messages of the model they stand for (own, after C705,
-- updates, skulks and new epochs).
use Rattle.std.specs.Prelude.{◌≡◌, ℕ, List, [], ◌∷◌, map, Option, Some, None}
use Rattle.cds_stamps.specs.declared.numbers.EpochNo.{EpochNo}
use Rattle.cds_stamps.specs.declared.numbers.HouseNo.{HouseNo}
use Rattle.cds_stamps.specs.Members.{members_of, others_of}
use Rattle.cds_messages.specs.declared.message.Head.{Head}
use Rattle.cds_messages.specs.declared.message.Message.{Message}
use Rattle.cds_messages.specs.declared.message.Body.{Body}
use Rattle.cds_messages.specs.declared.message.Body.TheVariants as body
use Rattle.purge_rule.specs.declared.delta.Delta.{Delta}
use Rattle.purge_rule.specs.declared.replica.Replica.{Replica}
use Rattle.purge_rule.specs.Replicas.{replica_of, delta_in, delta_of, IsFragmentOf}
use Rattle.cell_model.specs.Cells as model
use Rattle.house_directory.specs.declared.posted.Posted.{Posted}
use Rattle.house_directory.specs.declared.outgoing.Outgoing.{Outgoing}
use Rattle.house_directory.specs.declared.outgoing.Outgoing.TheVariants as out
use Rattle.house_directory.specs.declared.outgoing.Sender.{Sender}
use Rattle.house_directory.specs.declared.states.Held.{Held}
use Rattle.house_directory.specs.declared.states.DirState.{DirState}
use Rattle.house_directory.specs.declared.states.DirState.TheVariants as state

-- the numbers of houses (own)
abbrev pub numbers_of : List HouseNo → List ℕ
numbers_of = map (λ h. h.0)

-- ---- what is posted

-- a message to each of these houses, in their order (own)
abbrev pub posts_to : List ℕ → Message → List Posted
posts_to houses m = map (λ h. record { to = record { 0 = h }; message = m }) houses

-- what a message carries that says this of a directory that is held so (own)
abbrev pub body_of : Held → Outgoing → Body
body_of h (out.Update f) = body.Update f
body_of h (out.Gather t) = body.Gather t
body_of h (out.Gathered t to) = body.Gathered t (delta_in h.replica)
body_of h (out.Spread t) = body.Spread t (delta_in h.replica)
body_of h (out.SpreadAck t to) = body.SpreadAck t
body_of h (out.Advance t) = body.Advance t
body_of h out.Join = body.Join h.members h.replica

-- the one house that it goes to, if it is not for each other member (own)
abbrev pub receiver_of : Outgoing → Option ℕ
receiver_of (out.Gathered t to) = Some to.0
receiver_of (out.SpreadAck t to) = Some to.0
receiver_of (out.Update f) = None
receiver_of (out.Gather t) = None
receiver_of (out.Spread t) = None
receiver_of (out.Advance t) = None
receiver_of out.Join = None

-- this house alone, or else those (own)
abbrev pub receivers_of : Option ℕ → List ℕ → List ℕ
receivers_of (Some to) others = to ∷ []
receivers_of None others = others

-- the message of a house that says this, of the epoch that it holds (own)
abbrev pub message_of : Sender → Held → Outgoing → Message
message_of s h o = record { dir = s.dir; from = s.house; epoch = h.epoch; floor = s.floor; body = body_of h o }

-- it goes to each receiver, in ascending order (own)
abbrev pub posts_of : Sender → Held → Outgoing → List Posted
posts_of s h o = posts_to (receivers_of (receiver_of o) (others_of s.house.0 (members_of h.members))) (message_of s h o)

-- that a house is a member no more since this epoch (own)
abbrev pub leave_of : Sender → EpochNo → Message
leave_of s k = record { dir = s.dir; from = s.house; epoch = k; floor = s.floor; body = body.Leave }

-- so where there is something to say about what it has of a directory (own)
abbrev pub posts_if : Sender → Option DirState → Option Outgoing → List Posted
posts_if s (Some (state.Held h)) (Some o) = posts_of s h o
posts_if s _ _ = []

-- what is before what a message of this epoch carries (own)
abbrev pub head_from : Sender → EpochNo → Head
head_from s k = record { dir = s.dir; from = s.house; epoch = k; floor = s.floor }

-- ---- what it stands for

-- a replica is that of a copy's history (own)
abbrev pub StandsCopy : Replica → model.Copy → Type 0
StandsCopy r c = r ≡ replica_of c.history c.all_up_to

-- a delta is that of a copy's history (own)
abbrev pub StandsDelta : Delta → model.Copy → Type 0
StandsDelta d c = d ≡ delta_of c.history c.all_up_to

-- what a message carries stands for what a message of the model says (own)
abbrev pub StandsBody : Body → model.Body → Type 0
StandsBody (body.Update f) (model.Update marks) = IsFragmentOf marks f
StandsBody (body.Gather t) (model.Gather u) = t ≡ u
StandsBody (body.Gathered t d) (model.Gathered u c) = (t ≡ u) × StandsDelta d c
StandsBody (body.Spread t d) (model.Spread u c) = (t ≡ u) × StandsDelta d c
StandsBody (body.SpreadAck t) (model.SpreadAck u) = t ≡ u
StandsBody (body.Advance t) (model.Advance u) = t ≡ u
StandsBody (body.Join ms r) (model.Join ns c) = (members_of ms ≡ ns) × StandsCopy r c
StandsBody body.Leave model.Leave = Unit {0}
StandsBody _ _ = ⊥

-- what it carries looks like that: the tag, the stamp of a skulk, and the members of a Join (own)
abbrev pub LooksBody : Body → model.Body → Type 0
LooksBody (body.Update f) (model.Update marks) = Unit {0}
LooksBody (body.Gather t) (model.Gather u) = t ≡ u
LooksBody (body.Gathered t d) (model.Gathered u c) = t ≡ u
LooksBody (body.Spread t d) (model.Spread u c) = t ≡ u
LooksBody (body.SpreadAck t) (model.SpreadAck u) = t ≡ u
LooksBody (body.Advance t) (model.Advance u) = t ≡ u
LooksBody (body.Join ms r) (model.Join ns c) = members_of ms ≡ ns
LooksBody body.Leave model.Leave = Unit {0}
LooksBody _ _ = ⊥

-- a message to a house has the head of one of the model (own)
pub record StandsHead (to : ℕ) (m : Message) (n : model.Message) : Type 0 where
  pub receiver : n.receiver ≡ to
  pub dir : n.dir ≡ m.dir.0
  pub sender : n.sender ≡ m.from.0
  pub epoch : n.epoch ≡ m.epoch.0
  pub floor : n.floor ≡ m.floor

-- a message to a house stands for one of the model (own)
pub record StandsMessage (to : ℕ) (m : Message) (n : model.Message) : Type 0 where
  pub head : StandsHead to m n
  pub body : StandsBody m.body n.body

-- it looks like one (own)
pub record LooksMessage (to : ℕ) (m : Message) (n : model.Message) : Type 0 where
  pub head : StandsHead to m n
  pub body : LooksBody m.body n.body

-- posted messages stand for messages of the model, one by one (own)
abbrev pub StandEach : List Posted → List model.Message → Type 0
StandEach [] [] = Unit {0}
StandEach (p ∷ ps) (m ∷ ms) = StandsMessage p.to.0 p.message m × StandEach ps ms
StandEach _ _ = ⊥
