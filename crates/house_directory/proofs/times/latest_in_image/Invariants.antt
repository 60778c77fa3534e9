use Rattle.std.proofs.Common.{◌≡◌, max}
use Rattle.purge_rule.specs.Latest.{greatest_of}
use Rattle.house_directory.specs.Times.{latest_in_image, latest_in_kept}
use Rattle.house_directory.proofs.times.latest_in_image.Given as goal

abbrev pub invariant-loop-kept : goal.invariant-loop-kept
invariant-loop-kept l = max l.time (greatest_of (λ e. latest_in_kept e.1) l.kept-iterator) ≡ latest_in_image l.image
