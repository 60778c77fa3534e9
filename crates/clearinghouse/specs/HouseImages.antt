-- What a clearinghouse keeps over a crash, and which one starts of that (own, after C705,
-- clearinghouses).
use Rattle.std.specs.Prelude.{ℕ, false, List, [], ◌∷◌, map, filter_map, Option, None, Some, Result, Ok, Err}
use Rattle.std.specs.FinMap.{FinMap, entries, from_entries, get, insert}
use Rattle.cds_stamps.specs.declared.numbers.DirId.{DirId}
use Rattle.cds_stamps.specs.declared.stamp.Stamp.{Stamp}
use Rattle.cds_stamps.specs.declared.mask.MemberMask.{MemberMask}
use Rattle.cds_messages.specs.Dirs.{dir_cmp}
use Rattle.cds_records.specs.Migration.{whole_image}
use Rattle.record_fields.specs.declared.fault.RecordFault.{RecordFault}
use Rattle.cds_messages.specs.declared.image.Image.{Image}
use Rattle.cds_messages.specs.declared.image.ImageDir.{ImageDir}
use Rattle.cds_messages.specs.declared.image.ImageDir.TheVariants as kept
use Rattle.skulk_core.specs.declared.skulk.Skulk.{Skulk}
use Rattle.skulk_core.specs.declared.skulk.Skulk.TheVariants as skulk
use Rattle.clearinghouse.specs.declared.running.Round.{Round}
use Rattle.clearinghouse.specs.declared.running.Round.TheVariants as round
use Rattle.clearinghouse.specs.declared.running.RunningSkulk.{RunningSkulk}
use Rattle.clearinghouse.specs.declared.images.StartFault.{StartFault}
use Rattle.clearinghouse.specs.declared.images.StartFault.TheVariants.{BadImage}
use Rattle.house_directory.specs.declared.states.DirState.{DirState}
use Rattle.house_directory.specs.declared.states.DirState.TheVariants as state
use Rattle.house_directory.specs.declared.states.Held.{Held}
use Rattle.house_directory.specs.DirectoryTakes.{held_in}
use Rattle.house_directory.specs.Times.{latest_in_image}
use Rattle.clearinghouse.specs.declared.house.Clearinghouse.{Clearinghouse}

-- what is kept of what a house has of a directory: all but its skulk (own)
abbrev pub kept_of : DirState → ImageDir
kept_of (state.Held h) = kept.Held h.epoch h.members h.replica
kept_of (state.Gone e) = kept.Gone e

-- the image of a clearinghouse (own)
abbrev pub image_of : Clearinghouse → Image
image_of c = record { house = c.house; node = c.node; floor = c.floor.time; dirs = from_entries (map (λ e. (e.0, kept_of e.1)) (entries c.dirs)) }

-- what a house has of a directory when it starts: no skulk runs (own)
abbrev pub started_of : ImageDir → DirState
started_of (kept.Held e ms r) = state.Held (record { epoch = e; members = ms; replica = r; skulk = skulk.Idle })
started_of (kept.Gone e) = state.Gone e

-- the clearinghouse that starts of an image: its floor is the greatest time in it (own)
abbrev pub started_from : Image → Clearinghouse
started_from i =
    record {
      house = i.house;
      node = i.node;
      floor = record { time = latest_in_image i };
      dirs = from_entries (map (λ e. (e.0, started_of e.1)) (entries i.dirs));
      spent = false;
    }

-- the clearinghouse that a crash and a start leave: it starts of what it kept (own)
abbrev pub house_after_restart : Clearinghouse → Clearinghouse
house_after_restart c = started_from (image_of c)

-- what comes of an image of either format, or of the first fault of octets that are none (own)
abbrev pub start_of_image : Result Image RecordFault → Result Clearinghouse StartFault
start_of_image (Err fault) = Err (BadImage fault)
start_of_image (Ok i) = Ok (started_from i)

-- so it is of these octets (own)
abbrev pub start_of_octets : List ℕ → Result Clearinghouse StartFault
start_of_octets octets = start_of_image (whole_image octets)

-- ---- skulks that run, which an image leaves out

-- the skulk of a directory, if one runs (own)
abbrev pub running_skulk : DirId → Skulk → Option RunningSkulk
running_skulk dir skulk.Idle = None
running_skulk dir (skulk.Gathering t who) = Some (record { dir = dir; round = round.Gather; t = t; answered = who })
running_skulk dir (skulk.Spreading t who) = Some (record { dir = dir; round = round.Spread; t = t; answered = who })

-- the skulk of what a house has of a directory, if one runs (own)
abbrev pub running_at : DirId × DirState → Option RunningSkulk
running_at (dir, state.Held h) = running_skulk dir h.skulk
running_at (dir, state.Gone e) = None

-- the skulks that run, by their directories, ascending (own)
abbrev pub skulks_of : Clearinghouse → List RunningSkulk
skulks_of c = filter_map running_at (entries c.dirs)

-- what a master does in this round of t, with the members that have answered in it (own)
abbrev pub skulk_in : Round → Stamp → MemberMask → Skulk
skulk_in round.Gather t who = skulk.Gathering t who
skulk_in round.Spread t who = skulk.Spreading t who

-- directories with a skulk at this one, if it is held (own)
abbrev pub dirs_with : RunningSkulk → Option Held → FinMap dir_cmp DirState → FinMap dir_cmp DirState
dirs_with r None dirs = dirs
dirs_with r (Some h) dirs = insert dirs r.dir (state.Held (record h { skulk = skulk_in r.round r.t r.answered }))

-- a clearinghouse whose skulk of a directory runs on, if it holds that (own)
abbrev pub with_skulk : RunningSkulk → Clearinghouse → Clearinghouse
with_skulk r c = record c { dirs = dirs_with r (held_in (get c.dirs r.dir)) c.dirs }

-- one whose skulks run on (own)
abbrev pub with_skulks : List RunningSkulk → Clearinghouse → Clearinghouse
with_skulks [] c = c
with_skulks (r ∷ rs) c = with_skulks rs (with_skulk r c)
