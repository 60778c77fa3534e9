use Rattle.std.proofs.Common.{◌≡◌, ◌++◌, map, take}
use Rattle.directory.specs.EntryChanges.{changes}
use Rattle.server_entries.specs.Exports.{tower_added}
use Rattle.server_entries.proofs.exports.push_towers.Given as goal

abbrev pub invariant-loop-binding : goal.invariant-loop-binding
invariant-loop-binding l =
    changes l.updates.items ≡ changes l.fn.updates.items ++ map (tower_added l.name l.interface) (take l.binding-index l.bindings)
