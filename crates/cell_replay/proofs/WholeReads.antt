-- A whole input that is read part by part.
use Rattle.std.proofs.Common.{◌≡◌, ◌⊎◌, inl, inr, ℕ, ◌+◌, ◌≤◌, ◌<◌, false, List, ◌++◌, length, ◌∙◌, ap, subst, arith, length-append}
use Rattle.std.specs.Prelude.{Option}
use Rattle.cds_stamps.specs.declared.alloc_or.AllocOr.{AllocOr}
use Rattle.cds_stamps.specs.declared.alloc_or.AllocOr.TheVariants as stop
use Rattle.cds_base.specs.Counts.{Rose}
use Rattle.cds_base.specs.declared.ends.Failed.{Failed}
use Rattle.cds_base.proofs.KnownOctets.{consumes_more}
use Rattle.line_forms.specs.Endings.{side}
use Rattle.cell_replay.specs.PrivateWholes.{IsPartRead, IsRead, StopsWithin}
use Rattle.cell_replay.proofs.Streams.{le_or_lt}

-- a part after which the input goes on is full
pub is_full : (room : ℕ) (left left' : Option (List ℕ)) (held held' : List ℕ) → IsPartRead room left left' held held' false → length held' ≡ length held + room
is_full room left left' held held' part = by_size (le_or_lt (length held + room) (length held'))
  where
    by_size : (length held + room ≤ length held') ⊎ (length held' < length held + room) → length held' ≡ length held + room
    by_size (inl le) = omega (arith, le, part.within)
    by_size (inr less) = let done = part.short.1 less in absurd (cc (done))

-- what was read before reading stops, after what is held
after_part : (spare a room most : ℕ) (first mid last : Option (List ℕ)) (held held' : List ℕ) → IsPartRead a first mid held held' false
    → a + room ≤ most → IsRead spare room mid last → IsRead spare most first last
after_part spare a room most first mid last held held' part fits read =
    let full = is_full a first mid held held' part in
    let all = ap length part.reads.grown ∙ length-append held part.reads.read in record {
      read = part.reads.read ++ read.read;
      taken = consumes_more first mid last part.reads.read read.read part.reads.taken read.taken;
      few = omega (arith, full, all, fits, read.few, length-append part.reads.read read.read);
    }

-- reading stops after a part
pub stops_after : (a room most : ℕ) (first mid last : Option (List ℕ)) (faults now then : ℕ) (held held' : List ℕ) (why : AllocOr Failed)
    → IsPartRead a first mid held held' false → now ≡ faults → a + room ≤ most → StopsWithin room (side mid now) (side last then) why
    → StopsWithin most (side first faults) (side last then) why
stops_after a room most first mid last faults now then held held' stop.OutOfMemory part calm fits stops = (
  after_part 0 a room most first mid last held held' part fits stops.0,
  stops.1 ∙ calm,
)
stops_after a room most first mid last faults now then held held' (stop.Fault failed) part calm fits stops = (
  after_part 1 a room most first mid last held held' part fits stops.0,
  subst (λ (n : ℕ). Rose n then) calm stops.1,
)
