-- What a map keeps its entries in.
use Rattle.std.specs.Prelude.{List}
use Rattle.compact_map.specs.declared.table.Table.{Table}
use Rattle.compact_map.specs.declared.table.Table.TheVariants.{Few, Many}

-- the entries, in the order of their keys
abbrev pub entries_of : {K X : Type 0} → Table K X → List (K × X)
entries_of (Few few) = few
entries_of (Many many) = many.entries
