-- What an update that is accepted, and a skulk that begins, make of what is held of a directory,
-- without any model (own, after C705, updates and skulks).
use Rattle.std.specs.Prelude.{◌≡◌, ◌==◌, Bool, true, false, List, Option, Some, None}
use Rattle.std.specs.List.{list_all}
use Rattle.cds_stamps.specs.declared.members.Member as declared
use Rattle.cds_stamps.specs.declared.numbers.HouseNo.{HouseNo}
use Rattle.cds_stamps.specs.declared.stamp.Stamp.{Stamp}
use Rattle.directory.specs.declared.entry.Fragment.{Fragment}
use Rattle.directory.specs.Applied.{TakesIn, LeavesOthers}
use Rattle.directory.specs.Entries.{Entries}
use Rattle.directory.specs.Histories.{Mark, entry_of}
use Rattle.directory.specs.Shown.{shown_in, marks_of}
use Rattle.directory.specs.Updates.{Change, changed_name}
use Rattle.skulk_core.specs.declared.skulk.Skulk.TheVariants as skulk
use Rattle.skulk_core.specs.MasterRounds.{IsGathering, only}
use Rattle.house_directory.specs.declared.outgoing.Outgoing.{Outgoing}
use Rattle.house_directory.specs.declared.outgoing.Outgoing.TheVariants as out
use Rattle.house_directory.specs.declared.skulks.Begun.{Begun}
use Rattle.house_directory.specs.declared.skulks.Begun.TheVariants as begun
use Rattle.house_directory.specs.declared.states.Held.{Held}
use Rattle.house_directory.specs.DirectoryTakes.{Advances, place_in}

-- the marks of an update with this stamp at a table (own)
abbrev pub marks_at : Entries → Change → Stamp → List Mark
marks_at t u s = marks_of (shown_in t (changed_name u)) u s

-- no house but this one is listed (own)
abbrev pub is_alone : HouseNo → List declared.Member → Bool
is_alone me ms = list_all (λ (m : declared.Member). m.house.0 == me.0) ms

-- the fragment of these marks is to be posted, if the house is not alone (own)
abbrev pub TellsMarks : (alone : Bool) → Entries → Change → Stamp → Option Outgoing → Type 0
TellsMarks true t u s o = o ≡ None
TellsMarks false t u s o = (f : Fragment) × (o ≡ Some (out.Update f)) × (f.name ≡ changed_name u) × (entry_of (marks_at t u s) f.name ≡ Some f.entry)

-- what is held takes in the marks of an update with this stamp, and tells them; nothing else of it
-- is changed (own)
pub record HeldTakes (me : HouseNo) (u : Change) (s : Stamp) (old new : Held) (o : Option Outgoing) : Type 0 where
  pub takes : TakesIn old.replica.table new.replica.table (changed_name u) (marks_at old.replica.table u s)
  pub others : LeavesOthers old.replica.table new.replica.table (changed_name u)
  pub rest : new ≡ record old { replica = record old.replica { table = new.replica.table } }
  pub tells : TellsMarks (is_alone me old.members) old.replica.table u s o

-- ---- skulks

-- its stamp (own)
abbrev pub stamp_of : Begun → Stamp
stamp_of (begun.Started t) = t
stamp_of (begun.Complete t) = t

-- the first round runs, in which the house alone has answered; or, where the skulk is complete,
-- none runs, and AllUpTo is raised (own)
abbrev pub HeldBegins : (me : HouseNo) → Begun → (old new : Held) → Type 0
HeldBegins me (begun.Started t) old new = IsGathering t (only (place_in me old.members)) new.skulk × (new ≡ record old { skulk = new.skulk })
HeldBegins me (begun.Complete t) old new = Advances old.replica t new.replica × (new ≡ record old { replica = new.replica; skulk = skulk.Idle })
