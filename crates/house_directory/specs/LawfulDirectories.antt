-- What is held of a directory: its table is valid, no time of it is above the floor, and its skulk
-- is its own (own, after C705, timestamps and skulks).
use Rattle.std.specs.Prelude.{◌≡◌, ℕ, ◌≤◌, length, List, Some}
use Rattle.cds_stamps.specs.declared.members.Member.{Member}
use Rattle.cds_stamps.specs.declared.stamp.Stamp.{Stamp}
use Rattle.cds_stamps.specs.Members.{members_of, place_of}
use Rattle.directory.specs.Entries.{IsValidTable}
use Rattle.purge_rule.specs.Latest.{ReplicaUpTo}
use Rattle.skulk_core.specs.declared.skulk.Skulk.{Skulk}
use Rattle.skulk_core.specs.MasterRounds.{IsPhaseOf, running_stamp}
use Rattle.house_directory.specs.declared.states.Held.{Held}

-- the skulk of t at the house `me`: its time is not later than this, and the house is a member and
-- has answered in it (own)
pub record RunsSkulk (me floor : ℕ) (ms : List Member) (s : Skulk) (t : Stamp) : Type 0 where
  pub time : t.time ≤ floor
  pub place : ℕ
  pub member : place_of me (members_of ms) ≡ Some place
  pub round : IsPhaseOf (length ms) place s

-- what the house `me` holds is valid, no time of its replica is later than this, and a skulk that
-- runs is its own (own)
pub record IsLawfulHeld (me floor : ℕ) (h : Held) : Type 0 where
  pub valid : IsValidTable h.replica.table
  pub replica : ReplicaUpTo floor h.replica
  pub skulk : (t : Stamp) → running_stamp h.skulk ≡ Some t → RunsSkulk me floor h.members h.skulk t
