use Rattle.std.proofs.Common.{◌≡◌, ◌+◌, ◌∷◌, ◌++◌, length, map, take}
use Rattle.std.specs.Int.{to_be_bytes, w32}
use Rattle.cell_names.proofs.pointer.ChildPointer.write.Given as goal

abbrev pub invariant-loop-house : goal.invariant-loop-house
invariant-loop-house l =
    l.octets.items ≡ to_be_bytes w32 l.self.dir.0 ++ (1 + length l.others) ∷ l.self.houses.master ∷ map (λ h. h.0) (take l.house-index l.others)
