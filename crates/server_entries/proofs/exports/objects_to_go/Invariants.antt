use Rattle.std.proofs.Common.{◌≡◌, map, take}
use Rattle.std.specs.Prelude.{filter}
use Rattle.server_entries.specs.Exports.{object_goes}
use Rattle.server_entries.proofs.exports.objects_to_go.Given as goal

abbrev pub invariant-loop-value : goal.invariant-loop-value
invariant-loop-value l = map (λ v. v.now) l.list.items ≡ filter (object_goes l.objects) (take l.value-index l.held)
