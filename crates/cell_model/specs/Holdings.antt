-- What holds of houses, directories and messages in every cell that is reached.
use Rattle.std.specs.Prelude.{◌≡◌, ℕ, ◌<◌, ◌≤◌, ◌⊎◌, true, false, [], Some}
use Rattle.cds_stamps.specs.declared.stamp.Stamp.{Stamp}
use Rattle.cds_stamps.specs.Members.{master_of, is_listed}
use Rattle.directory.specs.Histories.{IsHistory}
use Rattle.cell_model.specs.Sets.{In, has}
use Rattle.cell_model.specs.Cells.{Idle, Replica, Absent, Message, Cell, IsHeld, no_house}
use Rattle.cell_model.specs.Bodies.{marks_in}
use Rattle.cell_model.specs.Turns.{running_skulk_stamp}

-- every house's history, and every posted message's marks, are a history
pub record HistoriesHold (g : Cell) : Type 0 where
  pub houses : (x d : ℕ) (r : Replica) → IsHeld g x d r → IsHistory r.history
  pub messages : (m : Message) → In m g.bag → IsHistory (marks_in m.body)

-- who holds a directory is a member by the list that it holds; a skulk runs at the master of that
-- list alone, and at no house that is down
pub record MembersHold (g : Cell) : Type 0 where
  pub listed : (x d : ℕ) (r : Replica) → IsHeld g x d r → is_listed x r.members ≡ true
  pub master : (x d : ℕ) (r : Replica) (t : Stamp) → IsHeld g x d r → running_skulk_stamp r.phase ≡ Some t → master_of r.members ≡ x
  pub idle : (x d : ℕ) (r : Replica) → IsHeld g x d r → (g.house x).up ≡ false → r.phase ≡ Idle

-- no `root` or `mkdir` gave the directory's number: it has no epoch and no list, no house ever had
-- it, and no message is about it
pub record IsUnknown (g : Cell) (d : ℕ) : Type 0 where
  pub top : g.top d ≡ 0
  pub present : g.present d ≡ []
  pub absent : (x : ℕ) → (g.house x).slots d ≡ Absent
  pub unposted : (m : Message) → In m g.bag → m.dir ≡ d → ⊥

-- how houses, nodes and directories are numbered
pub record NumbersHold (g : Cell) : Type 0 where
  -- a house that was not made is none, and each node is one house's
  pub unmade : (x : ℕ) → has x g.made ≡ false → g.house x ≡ no_house
  pub nodes : (x y : ℕ) → has x g.made ≡ true → has y g.made ≡ true → (g.house x).node ≡ (g.house y).node → x ≡ y
  -- the directories are 1 to next_dir - 1, but for the root's before it is made; and no other
  pub two : 2 ≤ g.next_dir
  pub known : (d : ℕ) → 2 ≤ d → d < g.next_dir → 1 ≤ g.top d
  pub unknown : (d : ℕ) → (d ≡ 0) ⊎ (g.next_dir ≤ d) → g.top d ≡ 0
  -- where there is no directory, nothing is
  pub nothing : (d : ℕ) → g.top d ≡ 0 → IsUnknown g d
  -- and where there is one, there is the root
  pub root : (d : ℕ) → 1 ≤ g.top d → 1 ≤ g.top 1
