-- What an update that is accepted, and a skulk that begins, make of a clearinghouse, without any
-- model (own, after C705, updates and skulks).
use Rattle.std.specs.Prelude.{◌≡◌, List, Option, Some}
use Rattle.std.specs.FinMap.{get, insert}
use Rattle.cds_stamps.specs.declared.numbers.DirId.{DirId}
use Rattle.cds_stamps.specs.declared.stamp.Stamp.{Stamp}
use Rattle.directory.specs.Updates.{Change}
use Rattle.clearinghouse.specs.declared.house.Clearinghouse.{Clearinghouse}
use Rattle.house_directory.specs.declared.outgoing.Outgoing.{Outgoing}
use Rattle.house_directory.specs.declared.posted.Posted.{Posted}
use Rattle.house_directory.specs.declared.skulks.Begun.{Begun}
use Rattle.house_directory.specs.declared.states.Held.{Held}
use Rattle.house_directory.specs.declared.states.DirState.TheVariants as state
use Rattle.clearinghouse.specs.HouseLetters.{posts_at}
use Rattle.house_directory.specs.DirectoryUpdates.{HeldTakes, stamp_of, HeldBegins}

-- an update at a clearinghouse that holds the directory: its floor is the stamp's time, and nothing
-- else of it is changed (own)
pub record TakesUpdate (dir : DirId) (u : Change) (s : Stamp) (old new : Clearinghouse) (o : Option Outgoing) : Type 0 where
  pub before : Held
  pub holds : get old.dirs dir ≡ Some (state.Held before)
  pub held : Held
  pub takes : HeldTakes old.house u s before held o
  pub after : new ≡ record old { floor = record { time = s.time }; dirs = insert old.dirs dir (state.Held held) }

-- so where it is posted (own)
pub record PostsUpdate (dir : DirId) (u : Change) (s : Stamp) (old new : Clearinghouse) (posted : List Posted) : Type 0 where
  pub outgoing : Option Outgoing
  pub takes : TakesUpdate dir u s old new outgoing
  pub posts : posted ≡ posts_at new dir outgoing

-- a skulk that begins at a clearinghouse that holds the directory: its floor is the stamp's time,
-- and nothing else of it is changed (own)
pub record BeginsSkulk (dir : DirId) (b : Begun) (old new : Clearinghouse) : Type 0 where
  pub before : Held
  pub holds : get old.dirs dir ≡ Some (state.Held before)
  pub held : Held
  pub begins : HeldBegins old.house b before held
  pub after : new ≡ record old { floor = record { time = (stamp_of b).time }; dirs = insert old.dirs dir (state.Held held) }
