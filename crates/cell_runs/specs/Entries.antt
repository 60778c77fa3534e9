-- What a house did, as its journal has it.
use Rattle.std.specs.Prelude.{ℕ, List}
use Rattle.cds_stamps.specs.Members.{Member}
use Rattle.directory.specs.Updates.{Change}

-- what a house was told to do: rs are the other houses of a directory, of which ss are secondary;
-- made is the number of the child's own directory; ms are the members of epoch k, and left those
-- that leave; Accept is each update, and so is Repoint (own, after C705, updates, skulks and new
-- epochs)
pub data Order : Type 0 where
  Root : (rs ss : List ℕ) → Order
  Mkdir : (d : ℕ) → (n : List ℕ) → (made : ℕ) → (rs ss : List ℕ) → Order
  Accept : (d : ℕ) → (u : Change) → Order
  Skulk : (d : ℕ) → Order
  Epoch : (d k : ℕ) → (ms : List Member) → (left : List ℕ) → Order
  Take : (octets : List ℕ) → Order

-- a message as octets, and the house that it goes to
pub record Post : Type 0 where
  pub to : ℕ
  pub octets : List ℕ

-- a turn of a house: its clock, its order, the messages that it posted, its answer, and the octets
-- of its image after it
pub record TurnEntry : Type 0 where
  pub clock : ℕ
  pub order : Order
  pub posts : List Post
  pub answer : List ℕ
  pub image : List ℕ

-- an entry of a journal: a process began, with this image; or a turn
pub data Entry : Type 0 where
  Started : (image : List ℕ) → Entry
  Turned : (turn : TurnEntry) → Entry
