-- Words of private functions alone: cells that are taken back.
use Rattle.std.specs.Prelude.{◌≡◌, ◌≤◌, ◌<◌, ℕ, min, nat_lt, Bool, false, if◌then◌else◌, List, take, Option, Some, None, slice_get, slice_set}
use Rattle.std.specs.Option.{option_map_or}
use Rattle.cds_cell.specs.declared.bag.Bag.{Bag}
use Rattle.cds_cell.specs.declared.console.Listing.{Listing}
use Rattle.cds_cell.specs.Bags.{letter_at}

-- a listing is of an earlier epoch than the one that is there
abbrev pub is_earlier : Listing → Option Listing → Bool
is_earlier l o = option_map_or (λ now. nat_lt l.epoch.0 now.epoch.0) o false

-- listings, of which that of a place is this one again, if it is of an earlier epoch
abbrev pub relisted : ℕ → Listing → List Listing → List Listing
relisted i l ls = if is_earlier l (slice_get ls i) then slice_set ls i l else ls

-- the first listings, so many, of which one may be as it was
abbrev pub listed_again : ℕ → Option (ℕ × Listing) → List Listing → List Listing
listed_again n None ls = take n ls
listed_again n (Some r) ls = relisted r.0 r.1 (take n ls)

-- all messages but the first ones, so many, were never posted
pub record TakesBack (old new : Bag) (kept : ℕ) : Type 0 where
  pub posted : new.posted ≡ min kept old.posted
  pub first : (n : ℕ) → n ≤ kept → letter_at new n ≡ letter_at old n
  pub gone : (n : ℕ) → kept < n → n ≤ old.posted → letter_at new n ≡ None
  pub others : (n : ℕ) → kept < n → old.posted < n → letter_at new n ≡ letter_at old n
