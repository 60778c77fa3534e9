-- That a call of a clearinghouse is a step of the house of the model for which it is (own, after
-- C705, clearinghouses and replicas).
use Rattle.std.specs.Prelude.{◌≡◌, ℕ, false, List, [], Some, Result, IfOk, is_err}
use Rattle.std.specs.FinMap.{get, insert}
use Rattle.std.specs.declared.alloc.AllocError.{AllocError}
use Rattle.cds_stamps.specs.declared.members.Member as declared
use Rattle.cds_stamps.specs.declared.numbers.DirId.{DirId}
use Rattle.cds_stamps.specs.declared.numbers.EpochNo.{EpochNo}
use Rattle.cell_model.specs.Commands as command
use Rattle.cell_model.specs.Turns.{Turn, HouseStep, Stays, Turns}
use Rattle.clearinghouse.specs.declared.house.Clearinghouse.{Clearinghouse}
use Rattle.house_directory.specs.declared.posted.Posted.{Posted}
use Rattle.house_directory.specs.declared.states.Held.{Held}
use Rattle.house_directory.specs.declared.states.DirState.TheVariants as state
use Rattle.house_directory.specs.HouseMessages.{StandEach}
use Rattle.clearinghouse.specs.ModelHouses.{LooksHouse, StandsHouse}
use Rattle.skulk_core.specs.declared.skulk.Skulk.TheVariants as skulk
use Rattle.house_directory.specs.DirectorySteps.{first_held}

-- a clearinghouse after a call, and what it posted, are those of a turn (own)
pub record IsTurn (turn : Turn) (new : Clearinghouse) (posted : List Posted) : Type 0 where
  pub stands : StandsHouse new turn.house
  pub each : StandEach posted turn.posts

-- a call is a step of the house: what it answers passes the test, and all stays as it was and
-- nothing is posted, or it is the turn (own)
abbrev pub IsStep : (command.Answer → Type 0) → HouseStep → (old new : Clearinghouse) → List Posted → Type 0
IsStep Answers (Stays answer) old new posted = Answers answer × (new ≡ old) × (posted ≡ [])
IsStep Answers (Turns turn) old new posted = ((ns : List ℕ) → Answers (turn.answer ns)) × IsTurn turn new posted

-- a call answers as the step does, and then the directory looks as after the turn (own)
abbrev pub LooksStep : (command.Answer → Type 0) → HouseStep → DirId → (new : Clearinghouse) → Type 0
LooksStep Answers (Stays answer) dir new = Answers answer
LooksStep Answers (Turns turn) dir new = ((ns : List ℕ) → Answers (turn.answer ns)) × LooksHouse new dir turn.house

-- a call leaves who the clearinghouse is; it is Ok only where that was not spent, which it is then
-- exactly after it ran out of memory (own)
pub record IsCall {T : Type 0} (old new : Clearinghouse) (result : Result T AllocError) : Type 0 where
  pub house : new.house ≡ old.house
  pub node : new.node ≡ old.node
  pub spent : new.spent ≡ is_err result
  pub usable : IfOk result (λ _. old.spent ≡ false)

-- the directory that was held is held in this epoch with these members, and no skulk runs; nothing
-- else is changed (own)
pub record Enters (old new : Clearinghouse) (dir : DirId) (epoch : EpochNo) (members : List declared.Member) : Type 0 where
  pub held : Held
  pub before : get old.dirs dir ≡ Some (state.Held held)
  pub after : new.dirs ≡ insert old.dirs dir (state.Held (record held { epoch = epoch; members = members; skulk = skulk.Idle }))
  pub floor : new.floor ≡ old.floor

-- the clearinghouse that holds a new directory, as its master does, besides what it has (own)
abbrev pub with_new_directory : Clearinghouse → DirId → List declared.Member → Clearinghouse
with_new_directory c dir ms = record c { dirs = insert c.dirs dir (state.Held (first_held ms)) }
