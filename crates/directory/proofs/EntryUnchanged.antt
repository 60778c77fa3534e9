-- Joins of entries that change nothing.
use Rattle.std.proofs.Common.{◌≡◌}
use Rattle.cds_stamps.specs.Semilattice.{maybe, greater}
use Rattle.cds_stamps.specs.Stamps.{earlier_stamp}
use Rattle.cds_stamps.specs.Joins.{join_maps}
use Rattle.attr_sets.specs.AttributeCells.{join_cells}
use Rattle.directory.specs.declared.entry.EntryCell.{EntryCell}
use Rattle.directory.specs.Kinds.{kind_cmp}
use Rattle.directory.specs.Entries.{join_tied}

-- an entry of the same birth with no greater kind, no earlier death and no later cells
pub tied_unchanged : (a b : EntryCell) → greater kind_cmp a.kind b.kind ≡ a.kind → maybe earlier_stamp a.death b.death ≡ a.death
    → join_maps join_cells a.attrs b.attrs ≡ a.attrs → join_tied a b ≡ a
tied_unchanged a b kind death attrs i = record { birth = a.birth; kind = kind i; death = death i; attrs = attrs i }
