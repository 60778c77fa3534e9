-- Entries and tables, and what two of them give together (own, after C705, merging of replicas).
use Rattle.std.specs.Prelude.{◌≢◌, Option, refl}
use Rattle.std.specs.FinMap.{FinMap, code}
use Rattle.std.specs.Coded.{Coded, code_by, coded×, coded_option}
use Rattle.cds_stamps.specs.declared.stamp.Stamp.{Stamp}
use Rattle.cds_stamps.specs.Semilattice.{maybe, greater}
use Rattle.cds_stamps.specs.Stamps.{stamp_cmp, earlier_stamp, stamp_code}
use Rattle.cds_stamps.specs.Octets.{octets_cmp, octets_code}
use Rattle.cds_stamps.specs.Joins.{by_key, join_maps, EachValue}
use Rattle.attr_sets.specs.declared.cell.AttrCell.{AttrCell}
use Rattle.attr_sets.specs.AttributeCells.{empty_cell, join_cells, IsValidCell, cell_code}
use Rattle.directory.specs.declared.entry.Kind.{Kind}
use Rattle.directory.specs.declared.entry.EntryCell.{EntryCell}
use Rattle.directory.specs.Kinds.{kind_cmp, kind_code}

-- the table of a directory, as clauses see it: an entry for each simple name (own)
abbrev pub Entries : Type 0
Entries = FinMap octets_cmp EntryCell

-- entries are told apart by their four parts (own)
abbrev pub entry_code : Coded EntryCell
entry_code =
    code_by (Stamp × (Kind × (Option Stamp × FinMap octets_cmp AttrCell)))
    (coded× stamp_code (coded× kind_code (coded× (coded_option stamp_code) (code octets_code cell_code))))
    (λ c. (c.birth, (c.kind, (c.death, c.attrs)))) (λ p. record { birth = p.0; kind = p.1.0; death = p.1.1.0; attrs = p.1.1.1 }) (λ _. refl)

-- two entries of one birth: the greater kind, the least death, and the cells together (own)
abbrev pub join_tied : EntryCell → EntryCell → EntryCell
join_tied a b = record {
  birth = a.birth;
  kind = greater kind_cmp a.kind b.kind;
  death = maybe earlier_stamp a.death b.death;
  attrs = join_maps join_cells a.attrs b.attrs;
}

-- the greater birth wins whole (own)
abbrev pub join_entries : EntryCell → EntryCell → EntryCell
join_entries = by_key (λ e. e.birth) stamp_cmp join_tied

-- each name has the entries of both tables together (own)
abbrev pub join_tables : Entries → Entries → Entries
join_tables = join_maps join_entries

-- a cell that an entry holds is valid, and has a clear or a value (own)
abbrev pub IsHeldCell : AttrCell → Type 0
IsHeldCell a = IsValidCell a × (a ≢ empty_cell)

-- each cell of an entry is so (own)
abbrev pub IsValidEntry : EntryCell → Type 0
IsValidEntry e = EachValue IsHeldCell e.attrs

-- each entry of a table is valid (own)
abbrev pub IsValidTable : Entries → Type 0
IsValidTable = EachValue IsValidEntry
