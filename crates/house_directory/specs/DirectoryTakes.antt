-- What a message makes of what is held of a directory, without any model (own, after C705, updates,
-- skulks and new epochs).
use Rattle.std.specs.Prelude.{◌≡◌, ℕ, ◌≤◌, ◌||◌, ◌++◌, not, nat_lt, nat_le, if◌then◌else◌, length, unwrap_or, List, Option, Some, None}
use Rattle.std.specs.Prelude.{IfSome, MatchBool, MatchOption}
use Rattle.std.specs.FinMap.{get}
use Rattle.cds_stamps.specs.declared.numbers.EpochNo.{EpochNo}
use Rattle.cds_stamps.specs.declared.numbers.HouseNo.{HouseNo}
use Rattle.cds_stamps.specs.declared.members.Member as declared
use Rattle.cds_stamps.specs.Members.{Member, members_of, place_of, is_listed, members_fault}
use Rattle.cds_stamps.specs.Octets.{is_octets}
use Rattle.purge_rule.specs.declared.delta.Delta.{Delta}
use Rattle.purge_rule.specs.declared.replica.Replica.{Replica}
use Rattle.cds_messages.specs.declared.message.Message.{Message}
use Rattle.house_directory.specs.declared.states.Held.{Held}
use Rattle.house_directory.specs.declared.states.DirState.{DirState}
use Rattle.house_directory.specs.declared.states.DirState.TheVariants as state
use Rattle.house_directory.specs.declared.outgoing.Outgoing.{Outgoing}
use Rattle.house_directory.specs.declared.taking.Taken.{Taken}
use Rattle.house_directory.specs.declared.taking.Taken.TheVariants as taken
use Rattle.cds_stamps.specs.declared.stamp.Stamp.{Stamp}
use Rattle.directory.specs.declared.entry.Fragment.{Fragment}
use Rattle.directory.specs.Entries.{IsValidEntry, IsValidTable}
use Rattle.directory.specs.Histories.{Mark, CanMerge}
use Rattle.directory.specs.Purges.{purged_table}
use Rattle.purge_rule.specs.Latest.{EntryUpTo, ReplicaUpTo, DeltaUpTo}
use Rattle.purge_rule.specs.Replicas.{replica_of, delta_of, together, merged_entry, merged_table, IsFragmentOf}
use Rattle.skulk_core.specs.declared.skulk.Skulk.{Skulk}
use Rattle.skulk_core.specs.declared.skulk.Skulk.TheVariants as skulk
use Rattle.skulk_core.specs.declared.skulk.Next.{Next}
use Rattle.skulk_core.specs.declared.skulk.Next.TheVariants as next
use Rattle.skulk_core.specs.MasterRounds.{IsPhaseOf, TakesGathered, TakesSpread}
use Rattle.cds_messages.specs.declared.message.Body.{Body}
use Rattle.cds_messages.specs.declared.message.Body.TheVariants as body
use Rattle.house_directory.specs.declared.outgoing.Outgoing.TheVariants as out

-- what is held of a directory, if it is (own)
abbrev pub held_of : DirState → Option Held
held_of (state.Gone e) = None
held_of (state.Held h) = Some h

-- so of what a house has of it, if it has something (own)
abbrev pub held_in : Option DirState → Option Held
held_in None = None
held_in (Some s) = held_of s

-- the place of a house in a member list; 0 where it is not listed (own)
abbrev pub place_in : HouseNo → List declared.Member → ℕ
place_in house ms = unwrap_or (place_of house.0 (members_of ms)) 0

-- ---- what becomes of replicas

-- a replica into which a fragment is merged (own)
pub record TakesFragment (old : Replica) (f : Fragment) (new : Replica) : Type 0 where
  pub merged : (h marks : List Mark) → CanMerge h marks old.all_up_to → IsFragmentOf marks f → old ≡ replica_of h old.all_up_to
      → new ≡ replica_of (h ++ marks) old.all_up_to
  pub joined : IfSome (get old.table f.name) IsValidEntry → IsValidEntry f.entry → (q : List ℕ)
      → get new.table q ≡ merged_entry old.all_up_to (get old.table q) (if is_octets q f.name then Some f.entry else None)
  pub up_to : new.all_up_to ≡ old.all_up_to
  pub valid : IsValidTable old.table → IsValidEntry f.entry → IsValidTable new.table
  pub below : (n : ℕ) → IsValidTable old.table → IsValidEntry f.entry → ReplicaUpTo n old → EntryUpTo n f.entry → ReplicaUpTo n new

-- a replica into which another is merged (own)
pub record TakesReplica (old other new : Replica) : Type 0 where
  pub merged : (h g : List Mark) → CanMerge h g (together old.all_up_to other.all_up_to)
      → old ≡ replica_of h old.all_up_to → other ≡ replica_of g other.all_up_to → new ≡ replica_of (h ++ g) (together old.all_up_to other.all_up_to)
  pub joined : IsValidTable old.table → IsValidTable other.table
      → new.table ≡ merged_table (together old.all_up_to other.all_up_to) old.table other.table
  pub up_to : new.all_up_to ≡ together old.all_up_to other.all_up_to
  pub valid : IsValidTable old.table → IsValidTable other.table → IsValidTable new.table
  pub below : (n : ℕ) → IsValidTable old.table → IsValidTable other.table → ReplicaUpTo n old → ReplicaUpTo n other → ReplicaUpTo n new

-- a replica into which a delta is merged (own)
pub record TakesDelta (old : Replica) (other : Delta) (new : Replica) : Type 0 where
  pub merged : (h g : List Mark) → CanMerge h g (together old.all_up_to other.above)
      → old ≡ replica_of h old.all_up_to → other ≡ delta_of g other.above → new ≡ replica_of (h ++ g) (together old.all_up_to other.above)
  pub joined : IsValidTable old.table → IsValidTable other.table → new.table ≡ merged_table (together old.all_up_to other.above) old.table other.table
  pub up_to : new.all_up_to ≡ together old.all_up_to other.above
  pub valid : IsValidTable old.table → IsValidTable other.table → IsValidTable new.table
  pub below : (n : ℕ) → IsValidTable old.table → IsValidTable other.table → ReplicaUpTo n old → DeltaUpTo n other → ReplicaUpTo n new

-- a replica whose AllUpTo is raised to this stamp: of a valid table the deletions up to it are
-- dropped (own)
pub record Advances (old : Replica) (t : Stamp) (new : Replica) : Type 0 where
  pub merged : (h : List Mark) → old ≡ replica_of h old.all_up_to → new ≡ replica_of h (together old.all_up_to (Some t))
  pub up_to : new.all_up_to ≡ together old.all_up_to (Some t)
  pub dropped : IsValidTable old.table → IfSome new.all_up_to (λ u. new.table ≡ purged_table u old.table)
  pub valid : IsValidTable old.table → IsValidTable new.table
  pub below : (n : ℕ) → IsValidTable old.table → ReplicaUpTo n old → t.time ≤ n → ReplicaUpTo n new

-- ---- messages of the epoch that is held, from a member

-- the second round of this stamp, where it begins (own)
abbrev pub second_round_of : Next → Stamp → Option Outgoing
second_round_of next.SendSpread t = Some (out.Spread t)
second_round_of next.Nothing t = None
second_round_of (next.Stale running) t = None
second_round_of (next.Complete u) t = None

-- a delta that answers a skulk is merged in, and the phase is this (own)
pub record JoinsAnswer (t : Stamp) (d : Delta) (phase : Skulk) (n : Next) (old new : Held) (a : Taken) (o : Option Outgoing) : Type 0 where
  pub replica : TakesDelta old.replica d new.replica
  pub rest : new ≡ record old { replica = new.replica; skulk = phase }
  pub answer : a ≡ taken.Taken
  pub posts : o ≡ second_round_of n t

-- what comes of an answer of the first round, by what is next: a stale one changes nothing (own)
abbrev pub AfterGathered : (t : Stamp) → Delta → (phase : Skulk) → Next → (old new : Held) → Taken → Option Outgoing → Type 0
AfterGathered t d phase (next.Stale running) old new a o = (new ≡ old) × (a ≡ taken.Stale t running) × (o ≡ None)
AfterGathered t d phase next.Nothing old new a o = JoinsAnswer t d phase next.Nothing old new a o
AfterGathered t d phase next.SendSpread old new a o = JoinsAnswer t d phase next.SendSpread old new a o
AfterGathered t d phase (next.Complete u) old new a o = JoinsAnswer t d phase (next.Complete u) old new a o

-- an answer of the first round, with this delta (own)
pub record TakesFirst (me : HouseNo) (from : ℕ) (t : Stamp) (d : Delta) (old new : Held) (a : Taken) (o : Option Outgoing) : Type 0 where
  pub lawful : members_fault (members_of old.members) ≡ None
  pub next : Next
  pub phase : Skulk
  pub does : TakesGathered t from (length old.members) (place_in me old.members) old.skulk phase next
  pub keeps : IsPhaseOf (length old.members) (place_in me old.members) old.skulk → IsPhaseOf (length old.members) (place_in me old.members) phase
  pub after : AfterGathered t d phase next old new a o

-- what comes of an answer of the second round, by what is next (own)
abbrev pub AfterSpread : (t : Stamp) → Next → (old new : Held) → Taken → Option Outgoing → Type 0
AfterSpread t (next.Stale running) old new a o = (new ≡ record old { skulk = new.skulk }) × (a ≡ taken.Stale t running) × (o ≡ None)
AfterSpread t next.Nothing old new a o = (new ≡ record old { skulk = new.skulk }) × (a ≡ taken.Taken) × (o ≡ None)
AfterSpread t next.SendSpread old new a o = (new ≡ record old { skulk = new.skulk }) × (a ≡ taken.Taken) × (o ≡ None)
AfterSpread t (next.Complete u) old new a o =
    Advances old.replica t new.replica × (new ≡ record old { replica = new.replica; skulk = new.skulk }) × (a ≡ taken.Complete t) × (o ≡ Some (out.Advance t))

-- an answer of the second round (own)
pub record TakesSecond (from : ℕ) (t : Stamp) (old new : Held) (a : Taken) (o : Option Outgoing) : Type 0 where
  pub lawful : members_fault (members_of old.members) ≡ None
  pub next : Next
  pub does : TakesSpread t from (length old.members) old.skulk new.skulk next
  pub keeps : (me : ℕ) → IsPhaseOf (length old.members) me old.skulk → IsPhaseOf (length old.members) me new.skulk
  pub after : AfterSpread t next old new a o

-- nothing is changed or posted (own)
abbrev pub LeavesAll : (old new : Held) → Option Outgoing → Type 0
LeavesAll old new o = (new ≡ old) × (o ≡ None)

-- what a house `me` makes of a message of the epoch that it holds, from the member `sender` at the
-- place `from` (own)
abbrev pub TakesOwn : (me : HouseNo) → (from : ℕ) → (sender : HouseNo) → Body → (old new : Held) → Taken → Option Outgoing → Type 0
TakesOwn me from sender (body.Update f) old new a o =
    TakesFragment old.replica f new.replica × (new ≡ record old { replica = new.replica }) × (a ≡ taken.Taken) × (o ≡ None)
TakesOwn me from sender (body.Gather t) old new a o = (new ≡ old) × (a ≡ taken.Taken) × (o ≡ Some (out.Gathered t sender))
TakesOwn me from sender (body.Gathered t d) old new a o = TakesFirst me from t d old new a o
TakesOwn me from sender (body.Spread t d) old new a o =
    TakesDelta old.replica d new.replica × (new ≡ record old { replica = new.replica }) × (a ≡ taken.Taken) × (o ≡ Some (out.SpreadAck t sender))
TakesOwn me from sender (body.SpreadAck t) old new a o = TakesSecond from t old new a o
TakesOwn me from sender (body.Advance t) old new a o =
    Advances old.replica t new.replica × (new ≡ record old { replica = new.replica }) × (a ≡ taken.Taken) × (o ≡ None)
TakesOwn me from sender (body.Join ms r) old new a o = LeavesAll old new o × (a ≡ taken.Foreign)
TakesOwn me from sender body.Leave old new a o = LeavesAll old new o × (a ≡ taken.Foreign)

-- what is held of a copy that came with a Join (own)
abbrev pub copy_of : EpochNo → List declared.Member → Replica → Held
copy_of k ms copy = record { epoch = k; members = ms; replica = copy; skulk = skulk.Idle }

-- what is held after a Join of the present term: the copy is merged in, in the epoch and with the
-- list of the Join (own)
pub record JoinsCopy (k : EpochNo) (ms : List declared.Member) (copy : Replica) (old new : Held) : Type 0 where
  pub replica : TakesReplica old.replica copy new.replica
  pub rest : new ≡ copy_of k ms new.replica

-- nothing is changed or posted, and the answer is this (own)
abbrev pub Answers : {A : Type 0} → (old new : A) → (answer a : Taken) → Option Outgoing → Type 0
Answers old new answer a o = (new ≡ old) × (a ≡ answer) × (o ≡ None)

-- ---- messages but Joins and Leaves

-- what becomes of what is held: of another epoch, or of no member, the message changes nothing
-- (own)
abbrev pub TakesHere : (me : HouseNo) → Message → (old new : Held) → Taken → Option Outgoing → Type 0
TakesHere me m old new a o =
    MatchBool (nat_lt m.epoch.0 old.epoch.0) (Answers old new (taken.Late m.epoch old.epoch) a o)
    (MatchBool (nat_lt old.epoch.0 m.epoch.0) (Answers old new (taken.Early m.epoch old.epoch) a o)
    (MatchOption (place_of m.from.0 (members_of old.members)) (Answers old new taken.Foreign a o) (λ from. TakesOwn me from m.from m.body old new a o)))

-- ---- Joins

-- the epoch for which a Join of this epoch comes too late (own)
abbrev pub join_passed : EpochNo → Option DirState → Option EpochNo
join_passed k None = None
join_passed k (Some (state.Gone e)) = if nat_le k.0 e.0 then Some e else None
join_passed k (Some (state.Held h)) = if nat_lt k.0 h.epoch.0 then Some h.epoch else None

-- why a Join is not taken that does not come too late: its receiver or its sender is not in its
-- list (own)
abbrev pub join_foreign : (me : ℕ) → Message → List Member → Option EpochNo → Option Taken
join_foreign me m ms (Some e) = Some (taken.Late m.epoch e)
join_foreign me m ms None = if not (is_listed me ms) || not (is_listed m.from.0 ms) then Some taken.Foreign else None

-- why a Join is not taken (own)
abbrev pub join_bar : (me : ℕ) → Message → List Member → Option DirState → Option Taken
join_bar me m ms s = join_foreign me m ms (join_passed m.epoch s)

-- ---- Leaves

-- the epoch for which a Leave of this epoch comes too late (own)
abbrev pub leave_passed : EpochNo → Option DirState → Option EpochNo
leave_passed k None = None
leave_passed k (Some (state.Gone e)) = if nat_le k.0 e.0 then Some e else None
leave_passed k (Some (state.Held h)) = if nat_le k.0 h.epoch.0 then Some h.epoch else None
