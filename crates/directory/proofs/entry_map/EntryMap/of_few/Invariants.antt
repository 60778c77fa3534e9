use Rattle.std.proofs.Common.{◌≡◌}
use Rattle.std.specs.FinMap.{empty, insert}
use Rattle.std.specs.List.{fold}
use Rattle.std.specs.Vec.Iter.{into_iter_items}
use Rattle.directory.proofs.entry_map.EntryMap.of_few.Given as goal

-- with the rest of the pairs it is the whole
abbrev pub invariant-loop-name : goal.invariant-loop-name
invariant-loop-name l =
    fold (λ m p. insert m p.0 p.1) l.entries (into_iter_items l.name-iterator) ≡ fold (λ m p. insert m p.0 p.1) empty l.fn.pairs.items
