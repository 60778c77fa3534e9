-- What a crash between two syncs may leave, in one sentence on places and sizes.
use Rattle.std.specs.Prelude.{◌≡◌, ◌⊎◌, ℕ, ◌+◌, ◌≤◌, ◌<◌, min, max, List, [], ◌∷◌, length, slice_index}
use Rattle.house_journal.specs.Disks.{Change, Wrote, CutTo}

-- the size after a write or a cut
abbrev pub size_after : Change → ℕ → ℕ
size_after (Wrote at piece) size = max size (at + length piece)
size_after (CutTo end) size = end

-- the least of a size and those after each of these
abbrev pub least_size : ℕ → List Change → ℕ
least_size size [] = size
least_size size (change ∷ later) = min size (least_size (size_after change size) later)

-- the greatest of them
abbrev pub most_size : ℕ → List Change → ℕ
most_size size [] = size
most_size size (change ∷ later) = max size (most_size (size_after change size) later)

-- a place was neither written nor cut off
abbrev pub Spares : ℕ → Change → Type 0
Spares i (Wrote at piece) = (i < at) ⊎ (at + length piece ≤ i)
Spares i (CutTo end) = i < end

-- by none of these
abbrev pub Untouched : ℕ → List Change → Type 0
Untouched i [] = Unit {0}
Untouched i (change ∷ later) = Spares i change × Untouched i later

-- octets that a crash may leave: as many as between the least and the greatest size since the last
-- sync, and those of that sync at each place that was there then, and was neither written nor cut
-- off since
pub record IsLeft (synced : List ℕ) (changes : List Change) (c : List ℕ) : Type 0 where
  pub least : least_size (length synced) changes ≤ length c
  pub most : length c ≤ most_size (length synced) changes
  pub stays : (i : ℕ) → i < length synced → Untouched i changes → slice_index c i ≡ slice_index synced i
