-- The journal of one house on its disk, the images in it, and what a stop of a put leaves.
use Rattle.std.specs.Prelude.{◌≡◌, ◌⊎◌, ℕ, ◌+◌, ◌-◌, ◌^◌, ◌≤◌, ◌<◌, nat_le, Bool, false, if◌then◌else◌, List, [], ◌∷◌, ◌++◌, length, Option, Some, None, Result, Err, OnOk}
use Rattle.std.specs.List.{last_or}
use Rattle.std.specs.Option.{option_map_or}
use Rattle.std.specs.Str.{bytes_eq}
use Rattle.cds_base.specs.Counts.{Rose}
use Rattle.house_journal.specs.Disks.{Told}
use Rattle.house_journal.specs.Faults.{JournalState}
use Rattle.house_journal.specs.MemoryDisks.{MemState, changes_in, left_now, stop_with, told_of}
use Rattle.house_journal.specs.JournalRecords.{IsAtRest, IsOpenable, IsRecordOf, images, last_image}
use Rattle.house_journal.specs.Restarts.{disk_after_restart}
use Rattle.house_journal.specs.Tellings.{open_calls, put_calls, told_after, told_failed}
use Rattle.house_journal.specs.declared.leave.Leave.{Leave}
use Rattle.house_journal.specs.declared.leave.Leave.TheVariants.{Keep, Drop, Torn}
use Rattle.house_journal.specs.declared.step.Stop.TheVariants.{Never, Stopped}
use Rattle.disk_journals.specs.declared.faults.Unkept.{Unkept}
use Rattle.disk_journals.specs.declared.faults.Unkept.TheVariants.{Full}
use Rattle.disk_journals.specs.declared.kept.KeptHouse.{KeptHouse}

-- ---- images

-- an image is the last of a journal
abbrev pub is_last : List ℕ → List (List ℕ) → Bool
is_last image list = option_map_or (bytes_eq image) (last_or None list) false

-- a journal with an image, unless that is its last
abbrev pub noted_image : List ℕ → List (List ℕ) → List (List ℕ)
noted_image image list = if is_last image list then list else list ++ image ∷ []

-- how many octets a journal has: of each image 9 and its own, and a gate
abbrev pub size_of : List (List ℕ) → ℕ
size_of [] = 1
size_of (image ∷ images) = size_of images + 9 + length image

-- a put that is stopped at this call leaves its image: the gate of the record is written, and kept
abbrev pub stops_after : (call : ℕ) → Leave → Bool
stops_after call Keep = nat_le 3 call
stops_after call Drop = false
stops_after call Torn = false

-- ---- disks

-- a journal of these images is on a disk, and can be opened, whatever a crash leaves
abbrev pub Holds : MemState → List (List ℕ) → Type 0
Holds m list = (c : List ℕ) → left_now m.steps m.octets c → (images c ≡ list) × IsOpenable c

-- one of these is
abbrev pub HoldsEither : MemState → (list other : List (List ℕ)) → Type 0
HoldsEither m list other = (c : List ℕ) → left_now m.steps m.octets c → ((images c ≡ list) ⊎ (images c ≡ other)) × IsOpenable c

-- the images on a disk, and one more
abbrev pub with_image : MemState → List ℕ → List (List ℕ)
with_image m image = images m.octets ++ image ∷ []

-- an image is put, unless it is the last, or there is no room for it, or no memory; a crash leaves
-- the images that were there, or this one too
pub record NotesImage (image : List ℕ) (old new : MemState)
    (r : Result (Unit {0}) Unkept) : Type 0 where
  pub list : OnOk r (images new.octets ≡ noted_image image (images old.octets))
  pub crash : HoldsEither new (images old.octets) (noted_image image (images old.octets))
  pub room : OnOk r (is_last image (images old.octets) ≡ false
      → size_of (with_image old image) ≤ 2 ^ 40)
  pub full : r ≡ Err Full
      → (is_last image (images old.octets) ≡ false) × (2 ^ 40 < size_of (with_image old image))
  pub lacking : is_last image (images old.octets) ≡ false → 2 ^ 40 < size_of (with_image old image)
      → r ≡ Err Full

-- a disk as it is made
pub record IsNew (m : MemState) : Type 0 where
  pub octets : m.octets ≡ []
  pub steps : m.steps ≡ []
  pub never : m.stop ≡ Never

-- a journal is open on its disk, which is synced and never stops
pub record IsOpen (j : JournalState) (m : MemState) : Type 0 where
  pub whole : j.broken ≡ false
  pub rest : IsAtRest m.octets j.place
  pub synced : (c : List ℕ) → left_now m.steps m.octets c → c ≡ m.octets
  pub told : changes_in m.steps m.octets ≡ []
  pub small : length m.octets ≤ 2 ^ 40
  pub never : m.stop ≡ Never

-- a house's journal is open on its disk, and its last image is at hand; a house without a journal
-- has a new disk
abbrev pub IsKept : Option KeptHouse → MemState → Type 0
IsKept None m = IsNew m
IsKept (Some k) m = IsOpen k.journal m × (last_image m.octets ≡ Some k.image.items)

-- ---- what disks tell of their calls

-- what a disk tells once its journal was opened
abbrev pub told_opened : MemState → Told
told_opened m = told_after (length (open_calls m.octets)) (open_calls m.octets) m.octets (told_of m)

-- a disk tells that an image was put, where the closed gate of its list was at this place: the four
-- calls were done
pub record TellsPutAt (place : ℕ) (image : List ℕ) (old new : MemState) : Type 0 where
  pub octets : List ℕ
  pub whole : IsRecordOf image octets
  pub told : told_of new ≡ told_after 4 (put_calls place octets) old.octets (told_of old)

-- a disk that is to stop at this call
abbrev pub stopping : (call : ℕ) → Leave → MemState → MemState
stopping call leave m = record m { stop = stop_with call leave m.stop }

-- a put was stopped at this of its calls, counted from 1: those before it were done, it failed, and
-- the disk has stopped by it
pub record StopsPutAt (place : ℕ) (image : List ℕ) (call : ℕ) (leave : Leave) (old new : MemState) : Type 0 where
  pub octets : List ℕ
  pub whole : IsRecordOf image octets
  pub told : told_of new ≡ told_failed (call - 1) (put_calls place octets) old.octets (told_of (stopping call leave old))
  pub stopped : new.stop ≡ Stopped leave
  pub rose : Rose old.faults new.faults

-- a put was stopped so, the disk was restarted, and then its journal was opened
pub record StopsAndOpens (place : ℕ) (image : List ℕ) (call : ℕ) (leave : Leave) (old new : MemState) : Type 0 where
  pub between : MemState
  pub stops : StopsPutAt place image call leave old between
  pub opens : told_of new ≡ told_opened (disk_after_restart between)
  pub read : images new.octets ≡ images (disk_after_restart between).octets
