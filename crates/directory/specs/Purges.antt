-- What is left of entries and tables when deletions up to a stamp are dropped, and what is taken of
-- other tables up to it (own, after C705, skulks and AllUpTo).
use Rattle.std.specs.Prelude.{◌≡◌, Bool, true, false, not, ◌&&◌, ◌==◌, List, Option, Some, None, is_none, IfSome, if◌then◌else◌}
use Rattle.std.specs.FinMap.{len}
use Rattle.std.specs.Option.{option_and_then}
use Rattle.cds_stamps.specs.declared.stamp.Stamp.{Stamp}
use Rattle.cds_stamps.specs.Joins.{EachValue}
use Rattle.cds_stamps.specs.Keyed.{map_some, merge}
use Rattle.cds_stamps.specs.Semilattice.{maybe}
use Rattle.cds_stamps.specs.Stamps.{is_stamp, is_up_to}
use Rattle.attr_sets.specs.CellPurges.{clear_left, cell_left, cell_after, is_above, IsAboveCell}
use Rattle.directory.specs.declared.entry.EntryCell.{EntryCell}
use Rattle.directory.specs.Entries.{Entries, join_entries}
use Rattle.directory.specs.Histories.{Mark, table_of}

-- an entry without the deletions of its attributes (own)
abbrev pub purged_entry : Stamp → EntryCell → EntryCell
purged_entry t e = record e { attrs = map_some (cell_left t) e.attrs }

-- a death is known, and is stamped at most t (own)
abbrev pub is_dead_up_to : Stamp → Option Stamp → Bool
is_dead_up_to t None = false
is_dead_up_to t (Some s) = is_up_to t s

-- what is left of an entry: nothing where its death is stamped at most t (own)
abbrev pub entry_left : Stamp → EntryCell → Option EntryCell
entry_left t e = if is_dead_up_to t e.death then None else Some (purged_entry t e)

-- a table without what was deleted up to t (own)
abbrev pub purged_table : Stamp → Entries → Entries
purged_table t = map_some (entry_left t)

-- the table of a history, without the deletions stamped at most t (own)
abbrev pub purged_entries : List Mark → Option Stamp → Entries
purged_entries h None = table_of h
purged_entries h (Some t) = purged_table t (table_of h)

-- what is later than t of an entry, whatever its birth: its death and the marks of its attributes
-- (own)
abbrev pub after_entry : Stamp → EntryCell → EntryCell
after_entry t e = record e { death = option_and_then (clear_left t) e.death; attrs = map_some (cell_after t) e.attrs }

-- the entry that was born at c is there (own)
abbrev pub holds : Option EntryCell → Stamp → Bool
holds None c = false
holds (Some o) c = is_stamp o.birth c

-- an entry that is passed by: its birth is not later than t, and what is there is not it (own)
abbrev pub is_passed : Stamp → Option EntryCell → EntryCell → Bool
is_passed t own e = is_up_to t e.birth && not (holds own e.birth)

-- what is taken up to t of an entry, beside the one that is there (own, after C705, skulks and
-- AllUpTo)
abbrev pub taken_entry : Stamp → Option EntryCell → EntryCell → Option EntryCell
taken_entry t own e = if is_passed t own e then None else Some (after_entry t e)

-- an entry with what is taken up to t of another (own)
abbrev pub take_entry : Stamp → Option EntryCell → Option EntryCell → Option EntryCell
take_entry t own e = maybe join_entries own (option_and_then (taken_entry t own) e)

-- a table with what is taken up to t of another (own)
abbrev pub take_table : Stamp → Entries → Entries → Entries
take_table t = merge (take_entry t)

-- whether an entry has nothing but its birth
abbrev pub is_bare : EntryCell → Bool
is_bare e = is_none e.death && (len e.attrs == 0)

-- what of an entry is later than t, with its birth; nothing, where that is a birth up to t alone
-- (own, after C705, skulks and AllUpTo)
abbrev pub delta_entry : Stamp → EntryCell → Option EntryCell
delta_entry t e = if is_up_to t e.birth && is_bare (after_entry t e) then None else Some (after_entry t e)

-- what of a table is later than a stamp, if there is one; else the whole table (own, after C705,
-- skulks and AllUpTo)
abbrev pub delta_table : Option Stamp → Entries → Entries
delta_table None m = m
delta_table (Some t) m = map_some (delta_entry t) m

-- the death of an entry, its clears and its marks are later than a stamp, if there is one; its
-- birth need not be
pub record IsAboveEntry (above : Option Stamp) (e : EntryCell) : Type 0 where
  pub death : IfSome e.death (λ s. is_above above s ≡ true)
  pub attrs : EachValue (IsAboveCell above) e.attrs
