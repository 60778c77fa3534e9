use Rattle.std.proofs.Common.{◌≡◌, ◌≤◌, drop}
use Rattle.std.specs.Str.{all_ascii_digits}
use Rattle.tower_codec.specs.BindingReading.{value_after}
use Rattle.tower_codec.proofs.binding.digits_in.Given as goal

abbrev pub invariant-loop-c : goal.invariant-loop-c
invariant-loop-c l = record {
  digits : all_ascii_digits (drop l.c-index l.text) ≡ all_ascii_digits l.text;
  value : value_after l.value (drop l.c-index l.text) ≡ value_after 0 l.text;
  within : l.value ≤ l.most;
}
