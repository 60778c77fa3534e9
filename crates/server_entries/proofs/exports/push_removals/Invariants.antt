use Rattle.std.proofs.Common.{◌≡◌, ◌++◌, map, take}
use Rattle.directory.specs.Updates.{Remove}
use Rattle.directory.specs.EntryChanges.{changes}
use Rattle.server_entries.proofs.exports.push_removals.Given as goal

abbrev pub invariant-loop-value : goal.invariant-loop-value
invariant-loop-value l =
    changes l.updates.items ≡ changes l.fn.updates.items ++ map (Remove l.name l.attr) (map (λ v. v.now) (take l.value-index l.values))
