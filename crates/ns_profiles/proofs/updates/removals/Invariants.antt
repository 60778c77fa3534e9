use Rattle.std.proofs.Common.{◌≡◌, map, take}
use Rattle.directory.specs.Updates.{Remove}
use Rattle.directory.specs.EntryChanges.{changes}
use Rattle.ns_profiles.specs.Profiles.{profile}
use Rattle.ns_profiles.proofs.updates.removals.Given as goal

abbrev pub invariant-loop-value : goal.invariant-loop-value
invariant-loop-value l = changes l.updates.items ≡ map (λ value. Remove l.name profile value.now) (take l.value-index l.values)
