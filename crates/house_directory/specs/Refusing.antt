-- What a clearinghouse answers, told of what it has and of what it is given, without any model
-- (own, after C705, updates, skulks and new epochs).
use Rattle.std.specs.Prelude.{ℕ, ◌==◌, ◌<◌, nat_lt, nat_le, if◌then◌else◌, length, List, Option, Some, None, Result, Ok, Err}
use Rattle.cds_stamps.specs.declared.members.Member as declared
use Rattle.cds_stamps.specs.declared.stamp.Stamp.{Stamp}
use Rattle.cds_stamps.specs.Members.{Member, members_of, is_accepting, master_of, since_in}
use Rattle.directory.specs.declared.update.UpdateRefusal.{UpdateRefusal}
use Rattle.directory.specs.declared.update.UpdateRefusal.TheVariants as why
use Rattle.directory.specs.Shown.{shown_in, refusal_of}
use Rattle.directory.specs.Updates.{Change, changed_name}
use Rattle.house_directory.specs.declared.epochs.EpochRefusal.{EpochRefusal}
use Rattle.house_directory.specs.declared.epochs.EpochRefusal.TheVariants as epoch_refusal
use Rattle.house_directory.specs.declared.skulks.Begun.{Begun}
use Rattle.house_directory.specs.declared.skulks.Begun.TheVariants as begun
use Rattle.house_directory.specs.declared.states.Held.{Held}
use Rattle.house_directory.specs.declared.states.DirState.{DirState}
use Rattle.house_directory.specs.declared.states.DirState.TheVariants as state

-- ---- updates

-- the stamp that is issued, or why none is: for this reason, or since none is left (own)
abbrev pub stamp_unless : Option UpdateRefusal → Option Stamp → Result Stamp UpdateRefusal
stamp_unless (Some r) stamp = Err r
stamp_unless None (Some s) = Ok s
stamp_unless None None = Err why.StampsSpent

-- why a house refuses an update of a directory that it holds, but for the stamps: it accepts none,
-- or the table refuses it (own)
abbrev pub held_refusal : (me : ℕ) → Change → Held → Option UpdateRefusal
held_refusal me u h =
    if is_accepting me (members_of h.members) then refusal_of (shown_in h.replica.table (changed_name u)) u else Some why.NotMaster

-- what a house answers to an update, by what it has of the directory and the stamp that it issues
-- next (own)
abbrev pub accept_answer : (me : ℕ) → Option Stamp → Change → Option DirState → Result Stamp UpdateRefusal
accept_answer me stamp u None = Err why.NoReplica
accept_answer me stamp u (Some (state.Gone e)) = Err why.NoReplica
accept_answer me stamp u (Some (state.Held h)) = stamp_unless (held_refusal me u h) stamp

-- ---- skulks

-- a skulk that begins is complete at once where the master is the only member (own)
abbrev pub begun_among : List declared.Member → Result Stamp UpdateRefusal → Result Begun UpdateRefusal
begun_among ms (Err r) = Err r
begun_among ms (Ok t) = if length ms == 1 then Ok (begun.Complete t) else Ok (begun.Started t)

-- why a house that holds a directory begins no skulk of it, but for the stamps (own)
abbrev pub not_master : (me : ℕ) → Held → Option UpdateRefusal
not_master me h = if master_of (members_of h.members) == me then None else Some why.NotMaster

-- what a house answers that is to begin a skulk, by what it has of the directory and the stamp that
-- it issues next (own)
abbrev pub skulk_answer : (me : ℕ) → Option Stamp → Option DirState → Result Begun UpdateRefusal
skulk_answer me stamp None = Err why.NoReplica
skulk_answer me stamp (Some (state.Gone e)) = Err why.NoReplica
skulk_answer me stamp (Some (state.Held h)) = begun_among h.members (stamp_unless (not_master me h) stamp)

-- ---- epochs

-- why an epoch is not taken where this one is held and the house is a member since that one (own,
-- after C705, new epochs)
abbrev pub epoch_fault : (held given since : ℕ) → Option EpochRefusal
epoch_fault held given since =
    if nat_le given held then Some (epoch_refusal.StaleEpoch (record { 0 = held }) (record { 0 = given }))
    else (if nat_lt held since then Some (epoch_refusal.NotJoined (record { 0 = held }) (record { 0 = since })) else None)

-- why a house does not take a new epoch with these members, by what it has of the directory (own)
abbrev pub epoch_refused : (me given : ℕ) → List Member → Option DirState → Option EpochRefusal
epoch_refused me given ms None = Some epoch_refusal.NoReplica
epoch_refused me given ms (Some (state.Gone e)) = Some epoch_refusal.NoReplica
epoch_refused me given ms (Some (state.Held h)) = epoch_fault h.epoch.0 given (since_in ms me 0)

-- the epoch is later than the one that is held, if one is (own)
abbrev pub IsLater : (given : ℕ) → Option DirState → Type 0
IsLater given None = Unit {0}
IsLater given (Some (state.Gone e)) = Unit {0}
IsLater given (Some (state.Held h)) = h.epoch.0 < given
