-- Proofs only: the laws of entries and tables, which their joins cite.
use Rattle.std.specs.Prelude.{refl}
use Rattle.std.proofs.Common.{sym, ◌∙◌, ap}
use Rattle.std.specs.FinMap.{IsAntisymmetric}
use Rattle.std.specs.Cmp.{IsTotalOrder, nat_cmp_total}
use Rattle.std.specs.Cmp.Lexicographic.{nat_list_cmp_total}
use Rattle.std.proofs.lemmas.Cmp.{on_total}
use Rattle.std.proofs.lemmas.Map.Lookups.{exact_unsigned}
use Rattle.directory.specs.declared.entry.EntryCell.{EntryCell}
use Rattle.cds_stamps.specs.Semilattice.{IsJoin, IsSemilattice, maybe, maybe_semilattice, greater, greater_semilattice}
use Rattle.cds_stamps.specs.Stamps.{stamp_total, stamp_exact, earlier_stamp, earlier_stamp_laws}
use Rattle.cds_stamps.specs.Octets.{octets_cmp, octets_exact}
use Rattle.attr_sets.specs.AttributeCells.{join_cells}
use Rattle.attr_sets.specs.CellLawProofs.{join_cells-comm, join_cells-assoc, join_cells-idem, join_cells-valid, join_held}
use Rattle.cds_stamps.specs.Joins.{JoinsTied, join_maps, map_join, key_join, EachValue}
use Rattle.directory.specs.Kinds.{rank, kind_of_rank, rank_back, kind_cmp}
use Rattle.directory.specs.Entries.{join_tied, join_entries, IsHeldCell, IsValidEntry, join_tables, IsValidTable}

-- only equal kinds tie
pub kind_exact : IsAntisymmetric kind_cmp
kind_exact a b e = sym (rank_back a) ∙ ap kind_of_rank (exact_unsigned (rank a) (rank b) e) ∙ rank_back b

pub kind_total : IsTotalOrder kind_cmp
kind_total = on_total rank nat_cmp_total

-- kinds are a semilattice
pub kinds : IsSemilattice (greater kind_cmp)
kinds = greater_semilattice kind_total kind_exact

deaths : IsSemilattice (maybe earlier_stamp)
deaths = maybe_semilattice earlier_stamp_laws

-- the join of cells that hold something
pub cell_join : IsJoin IsHeldCell join_cells
cell_join = record {
  keeps = λ x y p q. (join_cells-valid x y, λ e. p.1 (join_held x y e));
  comm = join_cells-comm;
  assoc = join_cells-assoc;
  idem = λ x p. join_cells-idem x p.0;
}

attrs : IsJoin (EachValue {R = octets_cmp} IsHeldCell) (join_maps join_cells)
attrs = map_join nat_list_cmp_total octets_exact cell_join

tied_join : JoinsTied (λ (e : EntryCell). e.birth) stamp_total stamp_exact IsValidEntry join_tied
tied_join = record {
  keyed = λ x y e. refl;
  keeps = λ x y p q. attrs.keeps x.attrs y.attrs p q;
  comm = λ x y e i. record { birth = e i; kind = kinds.comm x.kind y.kind i; death = deaths.comm x.death y.death i; attrs = attrs.comm x.attrs y.attrs i };
  assoc =
      λ x y z e f i. record {
        birth = x.birth;
        kind = kinds.assoc x.kind y.kind z.kind i;
        death = deaths.assoc x.death y.death z.death i;
        attrs = attrs.assoc x.attrs y.attrs z.attrs i;
      };
  idem = λ x p i. record { birth = x.birth; kind = kinds.idem x.kind i; death = deaths.idem x.death i; attrs = attrs.idem x.attrs p i };
}

-- the join of valid entries
pub entry_join : IsJoin IsValidEntry join_entries
entry_join = key_join (λ (e : EntryCell). e.birth) stamp_total stamp_exact tied_join

-- the join of valid tables
pub table_join : IsJoin IsValidTable join_tables
table_join = map_join nat_list_cmp_total octets_exact entry_join
