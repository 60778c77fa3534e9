use Rattle.std.proofs.Common.{◌≡◌, ◌≤◌, ◌+◌, ◌*◌, ℕ, true, drop, length}
use Rattle.directory.specs.EntryChanges.{changes}
use Rattle.cell_model.specs.Cells as model
use Rattle.cds_cell.specs.PrivateActs.{KeepsRest}
use Rattle.cds_cell.specs.PrivateSteps.{IsPlaceOf}
use Rattle.cds_cell.specs.ModelCells.{Stands}
use Rattle.cds_cell.proofs.ManyUpdates.{Midway}
use Rattle.cds_cell.proofs.cell.Cell.accept_each.Given as goal

abbrev pub invariant-loop-count : goal.invariant-loop-count
invariant-loop-count l = record {
  places : length l.self.houses.items ≡ length l.initial.self.houses.items;
  kept : KeepsRest l.initial.self l.self;
  few : l.self.bag.posted ≤ l.initial.self.bag.posted + 64 * l.count;
  first : l.count ≡ 0 → l.self ≡ l.initial.self;
  midway : (g : model.Cell) (x : ℕ) → Stands l.initial.self g → IsPlaceOf l.initial.self.houses.items x l.at → (g.house x).up ≡ true
      → Midway l.self g x l.at l.dir.0 l.count l.posted (changes l.updates) (changes (drop l.count l.updates));
}
