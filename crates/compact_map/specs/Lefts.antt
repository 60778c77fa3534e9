-- What an iterator has left.
use Rattle.std.specs.Prelude.{List}
use Rattle.std.specs.Slice.Iter.{iter_rest}
use Rattle.compact_map.specs.declared.iter.Left.{Left}
use Rattle.compact_map.specs.declared.iter.Left.TheVariants.{Few, Many}

-- the entries that are left
abbrev pub left_of : {K X : Type 0} → Left K X → List (K × X)
left_of (Few rest) = iter_rest rest
left_of (Many rest) = rest
