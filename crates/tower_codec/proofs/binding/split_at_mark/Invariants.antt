use Rattle.std.proofs.Common.{◌≡◌, take, drop}
use Rattle.tower_codec.specs.BindingReading.{cut_at_mark}
use Rattle.tower_codec.proofs.Cuts.{behind}
use Rattle.tower_codec.proofs.binding.split_at_mark.Given as goal

abbrev pub invariant-loop-i : goal.invariant-loop-i
invariant-loop-i l = behind (take l.i l.text) (cut_at_mark l.mark (drop l.i l.text)) ≡ cut_at_mark l.mark l.text
