-- How far a cell grows by its steps.
use Rattle.std.proofs.Common.{◌≡◌, ℕ, ◌+◌, ◌≤◌, List, [], ◌∷◌, length, subst, refl, sym, arith}
use Rattle.cell_model.specs.Cells as model
use Rattle.cds_cell.specs.declared.cell.Cell.{Cell}
use Rattle.cds_cell.specs.declared.console.Listing.{Listing}
use Rattle.cds_cell.specs.ModelCells.{GrowsBy, HasRoom, IsWithin, Stands, StandsListing, directory_of, greatest_epoch}

-- ---- cells after some steps

-- there is room for a step in a cell after so many steps
pub within_room : (n : ℕ) (c : Cell) → n ≤ 16777216 → IsWithin n c → HasRoom c
within_room n c few within =
    let messages = within.messages in
    let directories = within.directories in
    let epochs = within.epochs in
    record { messages = omega (arith, few, messages); directories = omega (arith, few, directories); epochs = omega (arith, few, epochs) }

-- one more step is one more
pub within_next : (n : ℕ) (c d : Cell) → GrowsBy c d → IsWithin n c → IsWithin (n + 1) d
within_next n c d grows within =
    let messages = within.messages in
    let directories = within.directories in
    let epochs = within.epochs in
    let more = grows.messages in
    let listed = grows.directories in
    let later = grows.epochs in
    record { messages = omega (arith, messages, more); directories = omega (arith, directories, listed); epochs = omega (arith, epochs, later) }

-- a cell that stands for the empty one is after none
pub within_empty : (c : Cell) → Stands c model.empty_cell → IsWithin 0 c
within_empty c s =
    let none : c.directories.items ≡ [] = unlisted c.directories.items (s.stands.directories 1) in
    let posted = s.stands.bag.posted in
    record {
      messages = omega (arith, posted);
      directories = subst (λ (ls : List Listing). length ls ≤ 0) (sym none) (omega arith);
      epochs = subst (λ (ls : List Listing). greatest_epoch ls ≤ 0) (sym none) (omega arith);
    }
  where
    unlisted : (ls : List Listing) → StandsListing (directory_of ls 1) model.empty_cell 1 → ls ≡ []
    unlisted [] stands = refl
    unlisted (l ∷ ls) stands = let first = stands.0 in let top = stands.1 in absurd (omega (arith, first, top))
