use Rattle.std.proofs.Common.{◌≡◌, take}
use Rattle.std.specs.List.{flat_map}
use Rattle.cds_clerk.specs.Unreached.{unreached_from}
use Rattle.cds_clerk.proofs.reaching.all_unreached.Given as goal

abbrev pub invariant-loop-entry : goal.invariant-loop-entry
invariant-loop-entry l = l.dirs.items ≡ flat_map (unreached_from l.heard l.interface) (take l.entry-index l.entries)
