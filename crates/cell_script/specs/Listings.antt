-- The other houses of a replica set, as a command names them (own, after C705, replica sets).
use Rattle.std.specs.Prelude.{if◌then◌else◌, List, [], ◌∷◌, map}
use Rattle.cds_stamps.specs.declared.numbers.HouseNo.{HouseNo}
use Rattle.cell_script.specs.declared.lists.Listed.{Listed}

-- all of them (own)
abbrev pub houses_in : List Listed → List HouseNo
houses_in = map (λ l. l.house)

-- those that are secondary (own)
abbrev pub secondaries_in : List Listed → List HouseNo
secondaries_in [] = []
secondaries_in (l ∷ ls) = if l.secondary then l.house ∷ secondaries_in ls else secondaries_in ls
