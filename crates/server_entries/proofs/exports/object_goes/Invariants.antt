use Rattle.std.proofs.Common.{◌≡◌, false, take}
use Rattle.server_entries.specs.Exports.{object_goes}
use Rattle.server_entries.proofs.exports.object_goes.Given as goal

abbrev pub invariant-loop-object : goal.invariant-loop-object
invariant-loop-object l = object_goes (take l.object-index l.objects) l.value ≡ false
