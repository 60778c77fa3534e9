-- How much a cell took in.
use Rattle.std.specs.Prelude.{◌≡◌, ℕ, ◌+◌, ◌*◌, ◌≤◌, length, false}
use Rattle.cds_cell.specs.declared.cell.Cell.{Cell}
use Rattle.cds_cell.specs.ModelCells.{greatest_epoch}
use Rattle.script_replay.specs.declared.limits.TheConstants.{MOST_UPDATES}

-- a cell took at most so many steps and lists of updates, with so many updates in these lists, none
-- of which is too long
pub record TookIn (steps updates : ℕ) (c : Cell) : Type 0 where
  pub messages : c.bag.posted ≤ 128 * steps + 64 * updates
  pub directories : length c.directories.items ≤ steps
  pub epochs : greatest_epoch c.directories.items ≤ steps
  pub lists : updates ≤ MOST_UPDATES * steps

-- unless it is spent: then it takes no more
abbrev pub HasSteps : (steps updates : ℕ) → Cell → Type 0
HasSteps steps updates c = c.spent ≡ false → TookIn steps updates c
