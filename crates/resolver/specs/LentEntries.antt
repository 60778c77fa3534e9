-- Entries whose cells a reader lends.
use Rattle.std.specs.Prelude.{IfSome, Result, Ok, Err}
use Rattle.resolver.specs.declared.seen.Found.{Found}
use Rattle.resolver.specs.declared.seen.LentEntry.{LentEntry}
use Rattle.resolver.specs.Readers.{Reader, AreCellsOf}

-- cells that are lent with an entry are the entry's (own)
abbrev pub HasItsCells : Reader → LentEntry → Type 0
HasItsCells reader entry = IfSome entry.cells (λ cells. AreCellsOf reader entry.at cells.now)

-- the entry that was found, whatever is lent of it (own)
abbrev pub found_at : {E : Type 0} → Result LentEntry E → Result Found E
found_at (Ok entry) = Ok entry.at
found_at (Err why) = Err why
