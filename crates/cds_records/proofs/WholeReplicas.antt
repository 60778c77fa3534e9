-- The octets of cells, entries and replicas are the whole of them.
use Rattle.std.proofs.Common.{◌≡◌, ℕ, zero, suc, ◌+◌, true, false, List, [], ◌∷◌, ◌++◌, Option, Some, None, refl, sym, append_assoc, arith}
use Rattle.std.specs.Prelude.{◌==◌, ◌-◌, IfSome}
use Rattle.std.specs.FinMap.{get, len, empty_of_len}
use Rattle.cds_stamps.specs.declared.stamp.Stamp.{Stamp}
use Rattle.cds_stamps.specs.Joins.{EachValue}
use Rattle.cds_stamps.specs.Names.{simple_name_fault, attr_fault}
use Rattle.attr_sets.specs.declared.mark.ValueMark.{ValueMark}
use Rattle.attr_sets.specs.declared.cell.AttrCell.{AttrCell}
use Rattle.attr_sets.specs.CellPurges.{is_above, IsAboveCell}
use Rattle.directory.specs.declared.entry.Kind.{Kind}
use Rattle.directory.specs.declared.entry.Kind.TheVariants.{Object, Link, Child}
use Rattle.directory.specs.declared.entry.EntryCell.{EntryCell}
use Rattle.directory.specs.Kinds.{rank, kind_of_rank}
use Rattle.directory.specs.Entries.{Entries, IsHeldCell, IsValidEntry, IsValidTable}
use Rattle.directory.specs.Purges.{IsAboveEntry}
use Rattle.purge_rule.specs.declared.delta.Delta.{Delta}
use Rattle.purge_rule.specs.declared.replica.Replica.{Replica}
use Rattle.purge_rule.specs.Replicas.{IsDelta}
use Rattle.record_fields.specs.declared.fault.Rule.TheVariants.{BadFlag}
use Rattle.record_fields.specs.Fields.{free, outside, attr_name, simple_name}
use Rattle.record_fields.specs.ListLayouts.{empty_cell, cell}
use Rattle.cds_records.specs.Records.{kind, entry, replica, delta}
use Rattle.std.specs.Int.{w64, to_be_bytes}
use Rattle.record_fields.specs.FieldOctets.{stamp_octets, optional_stamp_octets, each_octets, name_octets, value_octets, mark_octets, cell_octets}
use Rattle.cds_records.specs.RecordOctets.{entry_octets, stamped_table_octets, replica_octets, delta_octets}
use Rattle.record_fields.specs.FieldRanges.{FitsCell}
use Rattle.cds_records.specs.RecordRanges.{FitsEntry, FitsReplica, FitsDelta}
use Rattle.record_fields.proofs.WholeFields.{Whole, Keyed, octets_keys, whole_next, whole_last, whole_as, octet_whole, u64_whole, stamp_whole}
use Rattle.record_fields.proofs.WholeFields.{optional_stamp_whole, any_above, simple_name_whole, attr_name_whole, map_whole}
use Rattle.record_fields.proofs.WholeMarks.{marks, mark_in_order}

-- ---- cells, entries and replicas

some_mark : (c : AttrCell) → IsHeldCell c → empty_cell c.cleared (len c.values) ≡ None
some_mark c valid = at c.cleared (len c.values) refl refl
  where
    at : (cleared : Option Stamp) (n : ℕ) → c.cleared ≡ cleared → len c.values ≡ n → empty_cell cleared n ≡ None
    at None zero e f = absurd (valid.1 (λ i. record { cleared = e i; values = empty_of_len c.values f i }))
    at None (suc n) e f = (let some : (suc n == 0) ≡ false = grind arith in rw some refl)
    at (Some s) n e f = refl

three : (a b c : List ℕ) → a ++ (b ++ c) ≡ a ++ b ++ c
three a b c = sym (append_assoc a b c)

five : (a b c d e : List ℕ) → a ++ (b ++ (c ++ (d ++ e))) ≡ a ++ b ++ c ++ d ++ e
five a b c d e = simp append_assoc refl

cell_whole : (above : Option Stamp) (c : AttrCell) → IsHeldCell c × IsAboveCell above c → FitsCell c → Whole (cell above) c (cell_octets c)
unfolding cell cell_octets
cell_whole above c valid fits =
    whole_as
    (whole_next (optional_stamp_whole above c.cleared fits.cleared valid.1.cleared)
    (whole_next (u64_whole (empty_cell c.cleared) (len c.values) fits.values.count (some_mark c valid.0))
    (whole_last
    (map_whole (marks above c.cleared) c.values fits.values.each
    (λ v. mark_in_order above c.cleared (get c.values v) (valid.0.0 v) (valid.1.values v)))
    refl)))
    (three (optional_stamp_octets c.cleared) (to_be_bytes w64 (len c.values)) (each_octets value_octets mark_octets c.values))

attrs : (above : Option Stamp)
    → Keyed octets_keys (λ (c : AttrCell). IsHeldCell c × IsAboveCell above c) attr_name (cell above) (λ n. attr_fault n ≡ None) FitsCell name_octets
    cell_octets
attrs above = record { keys = λ before n fits rises. attr_name_whole before n fits rises; contents = cell_whole above }

kind_back : (k : Kind) → (outside BadFlag 1 3 (rank k + 1) ≡ None) × (kind_of_rank (rank k + 1 - 1) ≡ k)
kind_back Object = (refl, refl)
kind_back Link = (refl, refl)
kind_back Child = (refl, refl)

kind_whole : (k : Kind) → Whole kind k ((rank k + 1) ∷ [])
unfolding kind
kind_whole k = whole_last {f = λ n. kind_of_rank (n - 1)} (octet_whole (outside BadFlag 1 3) (rank k + 1) (kind_back k).0) (kind_back k).1

-- what holds of each value of a map twice holds of it at once
each_both : {X : Type 0} (V W : X → Type 0) (o : Option X) → IfSome o V → IfSome o W → IfSome o (λ x. V x × W x)
each_both V W None v w = tt
each_both V W (Some x) v w = (v, w)

-- an entry after its name
pub entry_whole : (above : Option Stamp) (e : EntryCell) → IsValidEntry e → IsAboveEntry above e → FitsEntry e → Whole (entry above) e (entry_octets e)
unfolding entry entry_octets
entry_whole above e valid is_above fits =
    let each : EachValue (λ c. IsHeldCell c × IsAboveCell above c) e.attrs =
    λ n. each_both IsHeldCell (IsAboveCell above) (get e.attrs n) (valid n) (is_above.attrs n) in
    whole_as
    (whole_next (kind_whole e.kind)
    (whole_next (stamp_whole free e.birth fits.birth refl)
    (whole_next (optional_stamp_whole above e.death fits.death is_above.death)
    (whole_next (u64_whole free (len e.attrs) fits.attrs.count refl) (whole_last (map_whole (attrs above) e.attrs fits.attrs.each each) refl)))))
    (five ((rank e.kind + 1) ∷ []) (stamp_octets e.birth) (optional_stamp_octets e.death) (to_be_bytes w64 (len e.attrs))
    (each_octets name_octets cell_octets e.attrs))

entries : (above : Option Stamp)
    → Keyed octets_keys (λ (e : EntryCell). IsValidEntry e × IsAboveEntry above e) simple_name (entry above) (λ n. simple_name_fault n ≡ None) FitsEntry
    name_octets entry_octets
entries above = record {
  keys = λ before n fits rises. simple_name_whole before n fits rises;
  contents = λ e valid fits. entry_whole above e valid.0 valid.1 fits;
}

table_above : (above : Option Stamp) (m : Entries) → IsValidTable m → EachValue (IsAboveEntry above) m
    → EachValue (λ e. IsValidEntry e × IsAboveEntry above e) m
table_above above m valid is_above n = each_both IsValidEntry (IsAboveEntry above) (get m n) (valid n) (is_above n)

-- ---- above no stamp

any_mark : (o : Option ValueMark) → IfSome o (λ m. is_above None m.stamp ≡ true)
any_mark None = tt
any_mark (Some m) = refl

cell_above_none : (o : Option AttrCell) → IfSome o (IsAboveCell None)
cell_above_none None = tt
cell_above_none (Some c) = record { cleared = any_above c.cleared; values = λ v. any_mark (get c.values v) }

-- each entry is above none
pub entry_above_none : (e : EntryCell) → IsAboveEntry None e
entry_above_none e = record { death = any_above e.death; attrs = λ n. cell_above_none (get e.attrs n) }

some_above_none : (o : Option EntryCell) → IfSome o (IsAboveEntry None)
some_above_none None = tt
some_above_none (Some e) = entry_above_none e

-- ---- replicas and deltas

-- a replica
pub replica_whole : (r : Replica) → IsValidTable r.table → FitsReplica r → Whole replica r (replica_octets r)
unfolding replica stamped_table_octets
replica_whole r valid fits =
    whole_as
    (whole_next (optional_stamp_whole None r.all_up_to fits.all_up_to (any_above r.all_up_to))
    (whole_next (u64_whole free (len r.table) fits.table.count refl)
    (whole_last
    (map_whole (entries None) r.table fits.table.each (table_above None r.table valid (λ n. some_above_none (get r.table n)))) refl)))
    (three (optional_stamp_octets r.all_up_to) (to_be_bytes w64 (len r.table)) (each_octets name_octets entry_octets r.table))

-- a delta
pub delta_whole : (d : Delta) → IsDelta d → FitsDelta d → Whole delta d (delta_octets d)
unfolding delta stamped_table_octets
delta_whole d is fits =
    whole_as
    (whole_next (optional_stamp_whole None d.above fits.above (any_above d.above))
    (whole_next (u64_whole free (len d.table) fits.table.count refl)
    (whole_last (map_whole (entries d.above) d.table fits.table.each (table_above d.above d.table is.valid is.above)) refl)))
    (three (optional_stamp_octets d.above) (to_be_bytes w64 (len d.table)) (each_octets name_octets entry_octets d.table))
