use Rattle.std.proofs.Common.{◌≡◌, ◌++◌, map, take}
use Rattle.directory.specs.EntryChanges.{changes}
use Rattle.server_entries.specs.Exports.{object_added}
use Rattle.server_entries.proofs.exports.push_objects.Given as goal

abbrev pub invariant-loop-object : goal.invariant-loop-object
invariant-loop-object l =
    changes l.updates.items ≡ changes l.fn.updates.items ++ map (object_added l.name) (take l.object-index l.objects)
