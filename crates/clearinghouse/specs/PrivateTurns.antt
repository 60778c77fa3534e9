-- Words of private contracts: what a part of a call leaves of a clearinghouse.
use Rattle.std.specs.Prelude.{◌≡◌, ℕ, List, true, Result, IfOk, OnOk, OnErr}
use Rattle.std.specs.FinMap as map
use Rattle.std.specs.Result.{result_err}
use Rattle.std.specs.declared.alloc.AllocError.{AllocError}
use Rattle.cds_stamps.specs.declared.numbers.DirId.{DirId}
use Rattle.cds_stamps.specs.declared.numbers.EpochNo.{EpochNo}
use Rattle.cds_stamps.specs.declared.stamp.Stamp.{Stamp}
use Rattle.cds_stamps.specs.Members.{Member}
use Rattle.cds_stamps.specs.Stamps.{next_stamp}
use Rattle.directory.specs.declared.update.UpdateRefusal.{UpdateRefusal}
use Rattle.directory.specs.Updates.{Change}
use Rattle.cell_model.specs.Cells as model
use Rattle.cell_model.specs.Turns.{accept}
use Rattle.house_directory.specs.declared.epochs.EpochRefusal.{EpochRefusal}
use Rattle.house_directory.specs.declared.outgoing.Turn.{Turn}
use Rattle.house_directory.specs.DirectorySteps.{IsStampAnswer}
use Rattle.house_directory.specs.Refusing.{accept_answer, epoch_refused}
use Rattle.clearinghouse.specs.declared.house.Clearinghouse.{Clearinghouse}
use Rattle.clearinghouse.specs.HouseLetters.{posts_at}
use Rattle.clearinghouse.specs.HouseSteps.{IsStep}
use Rattle.clearinghouse.specs.ModelHouses.{StandsHouse}

-- a clearinghouse is as it was, but that out of memory in a part of a call spends it
pub record Heeds {T : Type 0} (old new : Clearinghouse) (done : Result T AllocError) : Type 0 where
  pub same : OnOk done (new ≡ old)
  pub spent : OnErr done (new ≡ record old { spent = true })

-- who a clearinghouse is, and whether it is spent, stays as it was
pub record SameHouse (old new : Clearinghouse) : Type 0 where
  pub house : new.house ≡ old.house
  pub node : new.node ≡ old.node
  pub spent : new.spent ≡ old.spent

-- what is answered to an update is its stamp, or why it is refused, unless memory runs out
abbrev pub AnswersUpdate : Clearinghouse → (clock : ℕ) → DirId → Change
    → Result (Turn (Result Stamp UpdateRefusal)) AllocError → Type 0
AnswersUpdate old clock dir u result =
    IfOk result (λ turn. turn.answer
    ≡ accept_answer old.house.0 (next_stamp clock old.floor.time old.node) u (map.get old.dirs dir))

-- an update of a directory is a step of the model, unless memory runs out
abbrev pub StepsByUpdate : Clearinghouse → Clearinghouse → (clock : ℕ) → DirId → Change
    → Result (Turn (Result Stamp UpdateRefusal)) AllocError → Type 0
StepsByUpdate old new clock dir u result =
    (now : model.House) → StandsHouse old now → now.clock ≡ clock
    → IfOk result (λ turn. IsStep (IsStampAnswer turn.answer)
    (accept old.house.0 now dir.0 u) old new (posts_at new dir turn.outgoing))

-- what is answered to a new epoch is why it is refused, if it is, unless memory runs out
abbrev pub AnswersEpoch : Clearinghouse → DirId → EpochNo → List Member
    → Result (Result (Unit {0}) EpochRefusal) AllocError → Type 0
AnswersEpoch old dir epoch members result =
    IfOk result (λ e. result_err e
    ≡ epoch_refused old.house.0 epoch.0 members (map.get old.dirs dir))
