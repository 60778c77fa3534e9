-- The commands of a cell, its answers, and what it accepts (own, after C705, control programs).
use Rattle.std.specs.Prelude.{ℕ, List, Option}
use Rattle.cds_stamps.specs.declared.stamp.Stamp.{Stamp}
use Rattle.directory.specs.declared.update.UpdateRefusal.{UpdateRefusal}
use Rattle.directory.specs.Histories.{Mark}
use Rattle.directory.specs.Updates.{Change}

-- h is a house, d a directory, n the simple name of a child or the serial of a message, m a master
-- and rs the other houses of a replica set, of which ss are secondary and the others read-only.
-- Accept is each command of one update: create, link, delete, add, remove, put and clear (own)
pub data Command : Type 0 where
  House : (h node : ℕ) → Command
  Clock : (h time : ℕ) → Command
  Root : (m : ℕ) → (rs ss : List ℕ) → Command
  Mkdir : (h d : ℕ) → (n : List ℕ) → (m : ℕ) → (rs ss : List ℕ) → Command
  Repoint : (h d : ℕ) → (n : List ℕ) → (m : ℕ) → (rs : List ℕ) → Command
  Accept : (h d : ℕ) → (u : Change) → Command
  Epoch : (d m : ℕ) → (rs ss : List ℕ) → Command
  Skulk : (h d : ℕ) → Command
  Deliver : (n : ℕ) → Command
  Lose : (n : ℕ) → Command
  Crash : (h : ℕ) → Command
  Start : (h : ℕ) → Command

-- why a command is refused (own)
pub data Refusal : Type 0 where
  HouseExists NoHouse NoDirectory DirectoryExists BadMembers NotMember Down Up NoMessage : Refusal
  Update : (r : UpdateRefusal) → Refusal
  NotJoined : (held since : ℕ) → Refusal

-- ns are the serials of the messages that the command posted; k is a message's epoch and e the
-- house's, t a skulk's stamp and r the running one's, s an update's stamp (own)
pub data Answer : Type 0 where
  Done : Answer
  Posted : (ns : List ℕ) → Answer
  Made : (d : ℕ) → (s : Stamp) → (ns : List ℕ) → Answer
  Stamped : (s : Stamp) → (ns : List ℕ) → Answer
  NewEpoch : (e : ℕ) → (ns : List ℕ) → Answer
  Taken : (ns : List ℕ) → Answer
  Late : (k e : ℕ) → Answer
  Early : (k e : ℕ) → Answer
  Stale : (t : Stamp) → (r : Option Stamp) → Answer
  NoReplica : Answer
  Foreign : Answer
  Complete : (t : Stamp) → (ns : List ℕ) → Answer
  Refused : (r : Refusal) → Answer

-- an update that a house accepted, in which epoch and term of its own, with its marks and the birth
-- (own)
pub record Accepted : Type 0 where
  pub by : ℕ
  pub dir : ℕ
  pub epoch : ℕ
  pub since : ℕ
  pub stamp : Stamp
  pub marks : List Mark
