-- What a map ends as, where a value of it is lent.
use Rattle.std.specs.Prelude.{◌≡◌, List, Option}
use Rattle.std.specs.Borrow.{Fml, RattleType, MutBor, LendsSo}
use Rattle.std.specs.declared.cmp.Ordering.{Ordering}
use Rattle.std.specs.BTreeMap.Lent.{OrdMembers}
use Rattle.compact_map.specs.MapEntries.{WritesThrough}
use Rattle.compact_map.specs.contracts.map.CompactMap.{the_row}

-- it has the last value that is written through r, at the key that the query finds, and at `None`
-- stays as it is
abbrev pub lends_get : (K V : RattleType) (g : OrdMembers K.Denot) → MutBor (List (K.Denot × V.Denot)) → (K.Denot → Ordering)
    → Option (MutBor V.Denot) → Fml
lends_get K V g m compare r =
    LendsSo (the_row K V (record { cmp = g.cmp }) (record { eq = g.eq }) (record { partial_cmp = g.partial_cmp })) V m r
    (λ n w. WritesThrough g.cmp compare m.now w n) (λ n. n ≡ m.now)
