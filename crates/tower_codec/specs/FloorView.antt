-- What a contract sees of a `FloorView`.
use Rattle.tower_codec.specs.declared.view.FloorView.{FloorView}
use Rattle.tower_codec.specs.Tower.{Floor}

-- The floor whose parts are borrowed.
abbrev pub floor_of : FloorView → Floor
floor_of floor = record { left = floor.left.now; right = floor.right.now }
