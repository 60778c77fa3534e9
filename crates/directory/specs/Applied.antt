-- What an update adds to a table in place (own, after C705, updates to replicas).
use Rattle.std.specs.Prelude.{◌≡◌, ◌≢◌, ℕ, List, Some, None, IfSome}
use Rattle.std.specs.FinMap.{FinMap, get, empty, insert}
use Rattle.std.specs.Option.{IsSomeAnd}
use Rattle.cds_stamps.specs.declared.stamp.Stamp.{Stamp}
use Rattle.cds_stamps.specs.Octets.{octets_cmp}
use Rattle.cds_stamps.specs.Undos.{RaisesAt}
use Rattle.attr_sets.specs.declared.cell.AttrCell.{AttrCell}
use Rattle.attr_sets.specs.AttributeCells.{AttrMark, cell_of, join_cells}
use Rattle.directory.specs.declared.entry.EntryCell.{EntryCell}
use Rattle.directory.specs.Entries.{Entries, join_entries, IsHeldCell, IsValidEntry}
use Rattle.directory.specs.Histories.{Mark, entry_of}

-- what marks of the attribute a of the entry e add to it (own)
abbrev pub changed_entry : EntryCell → List ℕ → List AttrMark → EntryCell
changed_entry e a marks = record { birth = e.birth; kind = e.kind; death = None; attrs = insert empty a (cell_of marks) }

-- what a death of the entry e adds to it (own)
abbrev pub deleted_entry : EntryCell → Stamp → EntryCell
deleted_entry e s = record { birth = e.birth; kind = e.kind; death = Some s; attrs = empty }

-- attributes by name, as clauses see them (own)
abbrev pub Attributes : Type 0
Attributes = FinMap octets_cmp AttrCell

-- the cell of the attribute a is joined in, where both are valid (own)
abbrev pub JoinsCell : Attributes → Attributes → List ℕ → AttrCell → Type 0
JoinsCell old new a cell = IfSome (get old a) IsHeldCell → IsHeldCell cell → RaisesAt join_cells old new a cell

-- these marks of the attribute a are joined in, where what it has is valid (own)
abbrev pub TakesMarks : Attributes → Attributes → List ℕ → List AttrMark → Type 0
TakesMarks old new a marks = IfSome (get old a) IsHeldCell → RaisesAt join_cells old new a (cell_of marks)

-- the entry e of the name n is joined in, where both are valid (own)
abbrev pub JoinsEntry : Entries → Entries → List ℕ → EntryCell → Type 0
JoinsEntry old new n e = IfSome (get old n) IsValidEntry → IsValidEntry e → RaisesAt join_entries old new n e

-- the valid entry e of the name n, if it has one, has f of itself joined in (own)
abbrev pub TakesOwn : Entries → Entries → List ℕ → (EntryCell → EntryCell) → Type 0
TakesOwn old new n f = IfSome (get old n) IsValidEntry → IfSome (get old n) (λ e. RaisesAt join_entries old new n (f e))

-- the entry of these marks of the name n is joined in, where what the name has is valid (own)
abbrev pub TakesIn : Entries → Entries → List ℕ → List Mark → Type 0
TakesIn old new n marks = IsSomeAnd (entry_of marks n) (λ e. IfSome (get old n) IsValidEntry → RaisesAt join_entries old new n e)

-- each other name has what it had (own)
abbrev pub LeavesOthers : Entries → Entries → List ℕ → Type 0
LeavesOthers old new n = (q : List ℕ) → q ≢ n → get new q ≡ get old q
