-- What a table ends as, where a value of it is lent.
use Rattle.std.specs.Prelude.{◌≡◌, Option}
use Rattle.std.specs.Borrow.{Fml, RattleType, MutBor, LendsSo}
use Rattle.std.specs.declared.cmp.Ordering.{Ordering}
use Rattle.std.specs.BTreeMap.Lent.{OrdMembers}
use Rattle.compact_map.specs.MapEntries.{WritesThrough}
use Rattle.compact_map.specs.Tables.{entries_of}
use Rattle.compact_map.specs.declared.table.Table.{Table}
use Rattle.compact_map.specs.contracts.table.Table.{the_row}

-- it has the last value that is written through r, at the key that the query finds, and at `None`
-- stays as it is
abbrev pub table_lends_get : (K V : RattleType) (g : OrdMembers K.Denot) → MutBor (Table K.Denot V.Denot) → (K.Denot → Ordering)
    → Option (MutBor V.Denot) → Fml
table_lends_get K V g m compare r =
    LendsSo (the_row K V (record { cmp = g.cmp }) (record { eq = g.eq }) (record { partial_cmp = g.partial_cmp })) V m r
    (λ n w. WritesThrough g.cmp compare (entries_of m.now) w (entries_of n)) (λ n. entries_of n ≡ entries_of m.now)
