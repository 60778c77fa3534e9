use Rattle.std.proofs.Common.{◌≡◌, ◌+◌, ◌-◌, ◌≤◌, ℕ, List, length, drop}
use Rattle.std.specs.Prelude.{Option, IfSome}
use Rattle.std.specs.Option.{option_map}
use Rattle.std.specs.List.{last_or}
use Rattle.house_journal.specs.JournalRecords.{gate_of, images, last_image}
use Rattle.house_journal.specs.ListEnds.{IsWithin, octets_of}
use Rattle.house_journal.specs.declared.list_end.Span.{Span}
use Rattle.house_journal.proofs.Readings.{Reads}
use Rattle.house_journal.proofs.list_end.find_end.Given as goal

-- what was read so far are records, and nothing was changed
pub record IsFinding (Quiet Calm : Type 0) (file : List ℕ) (at : ℕ) (image : Option Span) : Type 0 where
  pub quiet : Quiet
  pub calm : Calm
  pub within : at ≤ length file
  pub so_far : gate_of file ≡ at + gate_of (drop at file)
  pub image_within : IfSome image (IsWithin file)
  pub last : last_image file ≡ last_or (option_map (octets_of file) image) (images (drop at file))

abbrev pub invariant-records : goal.invariant-records
invariant-records g l =
    IsFinding (Reads g.D.Disk l.fn.disk l.disk) (g.D.Disk.faults l.disk ≡ g.D.Disk.faults l.fn.disk) (g.D.Disk.reads l.fn.disk)
    l.place l.image

abbrev pub decreases-records : goal.decreases-records
decreases-records g l = l.size - l.place
