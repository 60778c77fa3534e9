-- What is known of one attribute of one entry, the cell that it makes, and the values that show
-- (own, after C705, attributes and their timestamps).
use Rattle.std.specs.Prelude.{[], ◌∷◌, ◌≡◌, ◌≢◌, ℕ, List, Option, Some, None, if◌then◌else◌, refl}
use Rattle.std.specs.FinMap.{FinMap, get, empty, entries, code}
use Rattle.std.specs.Coded.{Coded, code_by, coded×, coded_option}
use Rattle.std.specs.List.{filter_map}
use Rattle.cds_stamps.specs.declared.stamp.Stamp.{Stamp}
use Rattle.cds_stamps.specs.Semilattice.{maybe, join_of}
use Rattle.cds_stamps.specs.Keyed.{of_keys, merge}
use Rattle.cds_stamps.specs.Stamps.{later_stamp, stamp_code}
use Rattle.cds_stamps.specs.Octets.{octets_cmp, octets_code, is_octets}
use Rattle.attr_sets.specs.declared.mark.ValueMark.{ValueMark}
use Rattle.attr_sets.specs.declared.cell.AttrCell.{AttrCell}
use Rattle.attr_sets.specs.Marks.{later, mark_after_clear, mark_code, JoinsKept}

-- a mark about one attribute of one entry: a clear, or a value that is present or absent (own)
pub data AttrMark : Type 0 where
  Cleared : Stamp → AttrMark
  Marked : (value : List ℕ) → ValueMark → AttrMark

-- what a mark says of the clears (own)
abbrev pub clear_in : AttrMark → Option Stamp
clear_in (Cleared s) = Some s
clear_in (Marked v m) = None

-- what a mark says of the value v (own)
abbrev pub mark_in : List ℕ → AttrMark → Option ValueMark
mark_in v (Cleared s) = None
mark_in v (Marked w m) = if is_octets v w then Some m else None

-- the value that a mark is about (own)
abbrev pub value_in : AttrMark → Option (List ℕ)
value_in (Cleared s) = None
value_in (Marked v m) = Some v

-- the stamp of a mark (own)
abbrev pub attr_stamp : AttrMark → Stamp
attr_stamp (Cleared s) = s
attr_stamp (Marked v m) = m.stamp

-- the greatest clear of a history (own)
abbrev pub greatest_clear : List AttrMark → Option Stamp
greatest_clear = join_of later_stamp clear_in

-- the greatest mark of the value v in a history (own)
abbrev pub greatest_mark : List AttrMark → List ℕ → Option ValueMark
greatest_mark h v = join_of later (mark_in v) h

-- the greatest mark of each value, where it is not earlier than the greatest clear (own)
abbrev pub marks_kept : List AttrMark → FinMap octets_cmp ValueMark
marks_kept h = of_keys (filter_map value_in h) (λ v. mark_after_clear (greatest_clear h) (greatest_mark h v))

-- the values with a present mark, in the order given (own)
abbrev pub present_in : List (List ℕ × ValueMark) → List (List ℕ)
present_in [] = []
present_in (e ∷ es) = if e.1.present then e.0 ∷ present_in es else present_in es

-- the values that show, ascending: those whose greatest mark is present and not earlier than any
-- clear (own, after C705, present and absent values)
abbrev pub shown_values : List AttrMark → List (List ℕ)
shown_values h = present_in (entries (marks_kept h))

-- the cell of a history (own)
abbrev pub cell_of : List AttrMark → AttrCell
cell_of h = record { cleared = greatest_clear h; values = marks_kept h }

-- the values that a cell shows, ascending (own)
abbrev pub cell_values : AttrCell → List (List ℕ)
cell_values c = present_in (entries c.values)

-- the cell of an attribute of which nothing is known (own)
abbrev pub empty_cell : AttrCell
empty_cell = record { cleared = None; values = empty }

-- the two cells together: the later clear, and the later mark of each value that it keeps (own)
abbrev pub join_cells : AttrCell → AttrCell → AttrCell
join_cells a b =
    let c = maybe later_stamp a.cleared b.cleared in
    record { cleared = c; values = merge (λ m n. mark_after_clear c (maybe later m n)) a.values b.values }

-- a cell holds no value mark that is earlier than its clear (own)
abbrev pub IsValidCell : AttrCell → Type 0
IsValidCell a = (v : List ℕ) → mark_after_clear a.cleared (get a.values v) ≡ get a.values v

-- n is a, valid or not, with b joined in: where the clear of a stays its own marks stay too, and a
-- later clear leaves the join (own)
abbrev pub TakesCell : AttrCell → AttrCell → AttrCell → Type 0
TakesCell a b n =
    let c = maybe later_stamp a.cleared b.cleared in
    (c ≡ a.cleared → (n.cleared ≡ a.cleared) × JoinsKept a.cleared a.values n.values b.values) × (c ≢ a.cleared → n ≡ join_cells a b)

-- cells are told apart by their two parts (own)
abbrev pub cell_code : Coded AttrCell
cell_code =
    code_by (Option Stamp × FinMap octets_cmp ValueMark) (coded×
    (coded_option stamp_code) (code octets_code mark_code)) (λ c. (c.cleared, c.values)) (λ p. record { cleared = p.0; values = p.1 }) (λ _. refl)
