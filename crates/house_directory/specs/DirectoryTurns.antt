-- What a call makes of one directory at a house, as a step of the house of the model (own, after
-- C705, updates and skulks).
use Rattle.std.specs.Prelude.{◌≡◌, ℕ, max, List, [], Option, Some, None}
use Rattle.cds_stamps.specs.declared.numbers.DirId.{DirId}
use Rattle.cds_stamps.specs.declared.numbers.HouseNo.{HouseNo}
use Rattle.cds_stamps.specs.declared.stamp.Stamp.{Stamp}
use Rattle.cds_stamps.specs.Members.{others_of}
use Rattle.directory.specs.declared.entry.Fragment.{Fragment}
use Rattle.directory.specs.Histories.{Mark}
use Rattle.directory.specs.Shown.{shown_of_name, marks_of}
use Rattle.directory.specs.Updates.{Change, changed_name}
use Rattle.purge_rule.specs.Replicas.{IsFragmentOf}
use Rattle.cell_model.specs.Cells as model
use Rattle.cell_model.specs.Commands as command
use Rattle.cell_model.specs.Turns.{Turn, HouseStep, Stays, Turns, with_slot, with_marks}
use Rattle.house_directory.specs.declared.states.Held.{Held}
use Rattle.house_directory.specs.declared.states.DirState.TheVariants as state
use Rattle.house_directory.specs.declared.outgoing.Outgoing.{Outgoing}
use Rattle.house_directory.specs.declared.outgoing.Outgoing.TheVariants as out
use Rattle.house_directory.specs.declared.taking.Taken.{Taken}
use Rattle.house_directory.specs.declared.taking.Taken.TheVariants as taken
use Rattle.house_directory.specs.declared.updates.Issuer.{Issuer}
use Rattle.house_directory.specs.HouseMessages.{StandEach, posts_if}
use Rattle.house_directory.specs.ModelReplicas.{LooksHeld, StandsHeld}

-- ---- steps at one directory

-- the house of the model that issues a stamp: its node, its clock, its floor, and the replica for
-- which what is held is (own)
pub record IssuesAt (now : model.House) (by : Issuer) (low : ℕ) (dir : DirId) (held : Held) (r : model.Replica) : Type 0 where
  pub node : now.node ≡ by.node
  pub clock : now.clock ≡ by.clock
  pub floor : now.floor ≡ low
  pub here : now.slots dir.0 ≡ model.Held r
  pub stands : StandsHeld by.house.0 low held r

-- after a turn the house holds this of the directory, its floor is this, and it has this to post;
-- nothing else of it is changed (own)
pub record HeldTurn (turn : Turn) (now : model.House) (me : HouseNo) (dir : DirId) (new : Held) (floor : ℕ) (o : Option Outgoing) : Type 0 where
  pub replica : model.Replica
  pub house : turn.house ≡ with_slot now dir.0 floor (model.Held replica)
  pub stands : StandsHeld me.0 floor new replica
  pub each : StandEach (posts_if (record { house = me; dir = dir; floor = floor }) (Some (state.Held new)) o) turn.posts

-- a call at a directory is a step of the house: what it answers passes the test, and what is held
-- and the floor stay as they were, or it is the turn (own)
abbrev pub HeldStep : (command.Answer → Type 0) → HouseStep → model.House → HouseNo → DirId → (old new : Held) → (floor : ℕ) → Option Outgoing → Type 0
HeldStep Answers (Stays answer) now me dir old new floor o = Answers answer × (new ≡ old) × (floor ≡ now.floor) × (o ≡ None)
HeldStep Answers (Turns turn) now me dir old new floor o = ((ns : List ℕ) → Answers (turn.answer ns)) × HeldTurn turn now me dir new floor o

-- after a turn what is held looks like the replica that the house of the model has (own)
pub record HeldLooks (turn : Turn) (now : model.House) (me dir : ℕ) (new : Held) : Type 0 where
  pub replica : model.Replica
  pub floor : ℕ
  pub house : turn.house ≡ with_slot now dir floor (model.Held replica)
  pub looks : LooksHeld me new replica

-- a call at a directory answers as the step does, and then what is held looks so (own)
abbrev pub LooksAfter : (command.Answer → Type 0) → HouseStep → model.House → (me dir : ℕ) → (new : Held) → Type 0
LooksAfter Answers (Stays answer) now me dir new = Answers answer
LooksAfter Answers (Turns turn) now me dir new = ((ns : List ℕ) → Answers (turn.answer ns)) × HeldLooks turn now me dir new

-- ---- updates

-- the marks of an update that is accepted with this stamp (own)
abbrev pub new_marks : model.Replica → Change → Stamp → List Mark
new_marks r u s = marks_of (shown_of_name r.history (changed_name u)) u s

-- a fragment with these marks is to be posted, where there is another house (own)
abbrev pub PostsFragment : (others : List ℕ) → List Mark → Option Outgoing → Type 0
PostsFragment others marks None = others ≡ []
PostsFragment others marks (Some o) = (f : Fragment) × (o ≡ out.Update f) × IsFragmentOf marks f

-- what is held stands for the replica with the marks of the update, which are to be posted (own)
pub record AddsMarks (me : ℕ) (r : model.Replica) (u : Change) (s : Stamp) (new : Held) (o : Option Outgoing) : Type 0 where
  pub stands : StandsHeld me s.time new (with_marks r (new_marks r u s))
  pub posts : PostsFragment (others_of me r.members) (new_marks r u s) o

-- the floor after a message of this floor, by what comes of it (own)
abbrev pub floor_taken : Taken → (now floor : ℕ) → ℕ
floor_taken taken.Taken now floor = max now floor
floor_taken (taken.Complete t) now floor = max now floor
floor_taken (taken.Late a b) now floor = now
floor_taken (taken.Early a b) now floor = now
floor_taken (taken.Stale a b) now floor = now
floor_taken taken.NoReplica now floor = now
floor_taken taken.Foreign now floor = now
