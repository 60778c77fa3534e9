use Rattle.std.proofs.Common.{◌≡◌, take}
use Rattle.std.specs.List.{filter_map}
use Rattle.cds_clerk.specs.Unreached.{unreached_at}
use Rattle.cds_clerk.proofs.reaching.unreached_among.Given as goal

abbrev pub invariant-loop-name : goal.invariant-loop-name
invariant-loop-name l = l.dirs.items ≡ filter_map (unreached_at l.heard) (take l.name-index l.names)
