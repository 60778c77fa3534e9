use Rattle.std.proofs.Common.{◌≡◌, ◌+◌, length, drop, take}
use Rattle.std.specs.List.{All}
use Rattle.cds_stamps.specs.Names.{IsSimpleName}
use Rattle.cell_names.specs.FullNames.{behind_slashes}
use Rattle.cell_names.proofs.full_name.room_behind.Given as goal

abbrev pub invariant-loop-component : goal.invariant-loop-component
invariant-loop-component l = record {
  left : l.room + length (behind_slashes l.components) ≡ l.fn.room + length (behind_slashes (drop l.component-index l.components));
  simple : All IsSimpleName (take l.component-index l.components);
}
