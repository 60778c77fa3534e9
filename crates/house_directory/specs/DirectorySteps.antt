-- What comes of calls at what a house has of a directory, and what the model answers (own, after
-- C705, updates, skulks and new epochs).
use Rattle.std.specs.Prelude.{◌≡◌, ℕ, Bool, true, false, List, [], Option, Some, None, Result, Ok, Err}
use Rattle.cds_stamps.specs.declared.members.Member as declared
use Rattle.cds_stamps.specs.declared.stamp.Stamp.{Stamp}
use Rattle.directory.specs.declared.update.UpdateRefusal.{UpdateRefusal}
use Rattle.directory.specs.declared.update.UpdateRefusal.TheVariants as why
use Rattle.cell_model.specs.Commands as command
use Rattle.house_directory.specs.declared.outgoing.Outgoing.{Outgoing}
use Rattle.house_directory.specs.declared.outgoing.Outgoing.TheVariants as out
use Rattle.house_directory.specs.declared.posted.Posted.{Posted}
use Rattle.house_directory.specs.declared.states.Held.{Held}
use Rattle.purge_rule.specs.Replicas.{replica_of}
use Rattle.house_directory.specs.declared.updates.Accepted.{Accepted}
use Rattle.house_directory.specs.declared.updates.Accepted.TheVariants as accepted
use Rattle.house_directory.specs.declared.skulks.Skulked.{Skulked}
use Rattle.house_directory.specs.declared.skulks.Skulked.TheVariants as skulked
use Rattle.house_directory.specs.declared.skulks.Begun.{Begun}
use Rattle.house_directory.specs.declared.skulks.Begun.TheVariants as begun
use Rattle.house_directory.specs.declared.taking.Taken.{Taken}
use Rattle.house_directory.specs.declared.taking.Taken.TheVariants as taken
use Rattle.house_directory.specs.declared.epochs.EpochSet.{EpochSet}
use Rattle.house_directory.specs.declared.epochs.EpochSet.TheVariants as epoch_set
use Rattle.house_directory.specs.declared.epochs.EpochRefusal.{EpochRefusal}
use Rattle.house_directory.specs.declared.epochs.EpochRefusal.TheVariants as epoch_refusal
use Rattle.skulk_core.specs.declared.skulk.Skulk.TheVariants as skulk

-- ---- answers

-- an update's stamp, or why it is refused, is what the model answers (own)
abbrev pub IsStampAnswer : Result Stamp UpdateRefusal → command.Answer → Type 0
IsStampAnswer (Ok s) (command.Stamped t ns) = s ≡ t
IsStampAnswer (Err r) (command.Refused (command.Update q)) = r ≡ q
IsStampAnswer _ _ = ⊥

-- what came of an update, but for what was posted (own)
abbrev pub accept_result : Accepted → Result Stamp UpdateRefusal
accept_result (accepted.Done s posted) = Ok s
accept_result (accepted.Refused r) = Err r

-- it is what the model answers (own)
abbrev pub IsAcceptAnswer : Accepted → command.Answer → Type 0
IsAcceptAnswer a = IsStampAnswer (accept_result a)

-- what a skulk begins with is what the model answers (own)
abbrev pub IsBegunAnswer : Result Begun UpdateRefusal → command.Answer → Type 0
IsBegunAnswer (Ok (begun.Started s)) (command.Stamped t ns) = s ≡ t
IsBegunAnswer (Ok (begun.Complete s)) (command.Complete t ns) = s ≡ t
IsBegunAnswer (Err r) (command.Refused (command.Update q)) = r ≡ q
IsBegunAnswer _ _ = ⊥

-- what there is to post where a skulk begins (own)
abbrev pub begun_outgoing : Result Begun UpdateRefusal → Option Outgoing
begun_outgoing (Ok (begun.Started t)) = Some (out.Gather t)
begun_outgoing (Ok (begun.Complete t)) = None
begun_outgoing (Err r) = None

-- what came of a skulk that was to begin, but for what was posted (own)
abbrev pub skulk_result : Skulked → Result Begun UpdateRefusal
skulk_result (skulked.Started t posted) = Ok (begun.Started t)
skulk_result (skulked.Complete t) = Ok (begun.Complete t)
skulk_result (skulked.Refused r) = Err r

-- it is what the model answers (own)
abbrev pub IsSkulkAnswer : Skulked → command.Answer → Type 0
IsSkulkAnswer s = IsBegunAnswer (skulk_result s)

-- what comes of a message is what the model answers (own)
abbrev pub IsTakeAnswer : Taken → command.Answer → Type 0
IsTakeAnswer taken.Taken (command.Taken ns) = Unit {0}
IsTakeAnswer (taken.Late a b) (command.Late k e) = (a.0 ≡ k) × (b.0 ≡ e)
IsTakeAnswer (taken.Early a b) (command.Early k e) = (a.0 ≡ k) × (b.0 ≡ e)
IsTakeAnswer (taken.Stale a b) (command.Stale t r) = (a ≡ t) × (b ≡ r)
IsTakeAnswer taken.NoReplica command.NoReplica = Unit {0}
IsTakeAnswer taken.Foreign command.Foreign = Unit {0}
IsTakeAnswer (taken.Complete s) (command.Complete t ns) = s ≡ t
IsTakeAnswer _ _ = ⊥

-- why a new epoch was not taken, if it was not (own)
abbrev pub epoch_result : EpochSet → Option EpochRefusal
epoch_result (epoch_set.Done posted) = None
epoch_result (epoch_set.Refused r) = Some r

-- a new epoch k that a house takes, or refuses for this reason, is what the model answers; of the
-- model none is asked that is not later than the held one (own)
abbrev pub IsEpochAnswer : (k : ℕ) → Option EpochRefusal → command.Answer → Type 0
IsEpochAnswer k None (command.NewEpoch e ns) = k ≡ e
IsEpochAnswer k (Some epoch_refusal.NoReplica) (command.Refused (command.Update why.NoReplica)) = Unit {0}
IsEpochAnswer k (Some (epoch_refusal.NotJoined held since)) (command.Refused (command.NotJoined e s)) = (held.0 ≡ e) × (since.0 ≡ s)
IsEpochAnswer k _ _ = ⊥

-- ---- what is taken, and what the master of a new directory holds

-- the message is taken (own)
abbrev pub is_taken : Taken → Bool
is_taken taken.Taken = true
is_taken (taken.Complete t) = true
is_taken (taken.Late a b) = false
is_taken (taken.Early a b) = false
is_taken (taken.Stale a b) = false
is_taken taken.NoReplica = false
is_taken taken.Foreign = false

-- where a message was taken (own)
abbrev pub IfTaken : Taken → Type 0 → Type 0
IfTaken taken.Taken P = P
IfTaken (taken.Complete t) P = P
IfTaken _ P = Unit {0}

-- where it was not (own)
abbrev pub UnlessTaken : Taken → Type 0 → Type 0
UnlessTaken taken.Taken P = Unit {0}
UnlessTaken (taken.Complete t) P = Unit {0}
UnlessTaken _ P = P

-- what the master of a new directory holds (own)
abbrev pub first_held : List declared.Member → Held
first_held ms = record { epoch = record { 0 = 1 }; members = ms; replica = replica_of [] None; skulk = skulk.Idle }

-- ---- what was posted

-- for an update (own)
abbrev pub accept_posts : Accepted → List Posted
accept_posts (accepted.Done s posted) = posted
accept_posts (accepted.Refused r) = []

-- for a skulk (own)
abbrev pub skulk_posts : Skulked → List Posted
skulk_posts (skulked.Started t posted) = posted
skulk_posts (skulked.Complete t) = []
skulk_posts (skulked.Refused r) = []

-- for a new epoch (own)
abbrev pub epoch_posts : EpochSet → List Posted
epoch_posts (epoch_set.Done posted) = posted
epoch_posts (epoch_set.Refused r) = []
