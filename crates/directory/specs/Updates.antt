-- The nine updates of a directory (own, after C705, updates to replicas).
use Rattle.std.specs.Prelude.{ℕ, List}
use Rattle.cell_names.specs.ChildPointers.{Pointer, pointer_in}
use Rattle.directory.specs.declared.update.Update.{Update}
use Rattle.directory.specs.declared.update.Update.TheVariants as update

-- n is the entry's simple name, a an attribute's name, v a value
pub data Change : Type 0 where
  Create : (n : List ℕ) → Change
  MakeLink : (n : List ℕ) → (target : List (List ℕ)) → Change
  MakeChild : (n : List ℕ) → (pointer : Pointer) → Change
  Delete : (n : List ℕ) → Change
  Add : (n a v : List ℕ) → Change
  Remove : (n a v : List ℕ) → Change
  Put : (n a v : List ℕ) → Change
  Clear : (n a : List ℕ) → Change
  Repoint : (n : List ℕ) → (master : ℕ) → (others : List ℕ) → Change

-- the entry that an update is about (own)
abbrev pub changed_name : Change → List ℕ
changed_name (Create n) = n
changed_name (MakeLink n target) = n
changed_name (MakeChild n pointer) = n
changed_name (Delete n) = n
changed_name (Add n a v) = n
changed_name (Remove n a v) = n
changed_name (Put n a v) = n
changed_name (Clear n a) = n
changed_name (Repoint n master others) = n

-- what an update of the program is (own)
abbrev pub change_of : Update → Change
change_of (update.Create n) = Create n
change_of (update.MakeLink n target) = MakeLink n target
change_of (update.MakeChild n pointer) = MakeChild n (pointer_in pointer)
change_of (update.Delete n) = Delete n
change_of (update.Add n a v) = Add n a v
change_of (update.Remove n a v) = Remove n a v
change_of (update.Put n a v) = Put n a v
change_of (update.Clear n a) = Clear n a
change_of (update.Repoint n houses) = Repoint n houses.master houses.others
