-- Which replica or slot of the model stands for what a house has of a directory (own, after C705,
-- clearinghouses and replicas).
use Rattle.std.specs.Prelude.{◌≡◌, ℕ, true, ◌||◌, ◌==◌, List, Option, Some, None, slice_get}
use Rattle.cds_stamps.specs.declared.mask.MemberMask.{MemberMask}
use Rattle.cds_stamps.specs.declared.stamp.Stamp.{Stamp}
use Rattle.cds_stamps.specs.Members.{Member, members_of, is_listed}
use Rattle.cds_stamps.specs.Places.{has_place}
use Rattle.directory.specs.Histories.{IsHistory}
use Rattle.purge_rule.specs.Replicas.{replica_of}
use Rattle.skulk_core.specs.declared.skulk.Skulk.{Skulk}
use Rattle.skulk_core.specs.declared.skulk.Skulk.TheVariants as skulk
use Rattle.cell_model.specs.Cells as model
use Rattle.cell_model.specs.Floors.{ReplicaBelow}
use Rattle.cell_model.specs.Sets.{has}
use Rattle.house_directory.specs.declared.states.Held.{Held}
use Rattle.house_directory.specs.declared.states.DirState.{DirState}
use Rattle.house_directory.specs.declared.states.DirState.TheVariants as state

-- ---- skulks

-- a round of the house `me`, a member: of the members those have answered that the model names, and
-- the house itself (own)
pub record StandsRound (me : ℕ) (ms : List Member) (t : Stamp) (mask : MemberMask) (u : Stamp) (answered : List ℕ) : Type 0 where
  pub listed : is_listed me ms ≡ true
  pub stamp : t ≡ u
  pub places : (p : ℕ) (m : Member) → slice_get ms p ≡ Some m → has_place mask p ≡ ((m.house == me) || has m.house answered)

-- what a house does about its skulk stands for a phase (own)
abbrev pub StandsPhase : (me : ℕ) → List Member → Skulk → model.Phase → Type 0
StandsPhase me ms skulk.Idle model.Idle = Unit {0}
StandsPhase me ms (skulk.Gathering t mask) (model.Gathering u answered) = StandsRound me ms t mask u answered
StandsPhase me ms (skulk.Spreading t mask) (model.Spreading u answered) = StandsRound me ms t mask u answered
StandsPhase me ms _ _ = ⊥

-- ---- what is held

-- what is held of a directory looks like a replica of the model: its epoch, its members and its
-- phase (own)
pub record LooksHeld (me : ℕ) (h : Held) (r : model.Replica) : Type 0 where
  pub epoch : r.epoch ≡ h.epoch.0
  pub members : r.members ≡ members_of h.members
  pub phase : StandsPhase me (members_of h.members) h.skulk r.phase

-- it stands for one: it is also the replica of that one's history, without the deletions up to
-- AllUpTo, and no time of it is above the floor (own)
pub record StandsHeld (me floor : ℕ) (h : Held) (r : model.Replica) : Type 0 where
  pub looks : LooksHeld me h r
  pub replica : h.replica ≡ replica_of r.history r.all_up_to
  pub history : IsHistory r.history
  pub below : ReplicaBelow r floor

-- what a house has of a directory looks like a slot (own)
abbrev pub LooksSlot : (me : ℕ) → Option DirState → model.Slot → Type 0
LooksSlot me None model.Absent = Unit {0}
LooksSlot me (Some (state.Gone e)) (model.Gone k) = k ≡ e.0
LooksSlot me (Some (state.Held h)) (model.Held r) = LooksHeld me h r
LooksSlot me _ _ = ⊥

-- it stands for one (own)
abbrev pub StandsSlot : (me floor : ℕ) → Option DirState → model.Slot → Type 0
StandsSlot me floor None model.Absent = Unit {0}
StandsSlot me floor (Some (state.Gone e)) (model.Gone k) = k ≡ e.0
StandsSlot me floor (Some (state.Held h)) (model.Held r) = StandsHeld me floor h r
StandsSlot me floor _ _ = ⊥
