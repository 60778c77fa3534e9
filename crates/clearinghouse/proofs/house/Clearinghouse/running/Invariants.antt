use Rattle.std.proofs.Common.{◌≡◌, ◌++◌}
use Rattle.std.specs.Prelude.{filter_map}
use Rattle.clearinghouse.specs.HouseImages.{running_at, skulks_of}
use Rattle.clearinghouse.proofs.house.Clearinghouse.running.Given as goal

-- the skulks so far, with those of the other directories, are all
abbrev pub invariant-loop-dir : goal.invariant-loop-dir
invariant-loop-dir l = l.skulks.items ++ filter_map running_at l.dir-iterator ≡ skulks_of l.self
