-- Tables of histories are valid, and what one update joins in.
use Rattle.std.proofs.Common.{◌≡◌, ℕ, Bool, true, false, List, [], ◌∷◌, ◌++◌, Option, Some, None, refl, sym, ap, subst, ◌∙◌}
use Rattle.std.specs.Prelude.{IfSome, if◌then◌else◌}
use Rattle.std.specs.FinMap.{empty, get, get-empty, same_map}
use Rattle.std.specs.List.{AllByRecursion}
use Rattle.std.specs.Option.{option_map}
use Rattle.std.specs.Cmp.Lexicographic.{nat_list_cmp_total}
use Rattle.cds_stamps.specs.Semilattice.{maybe, greater}
use Rattle.cds_stamps.specs.Keyed.{ties_are_equal}
use Rattle.cds_stamps.specs.Octets.{octets_cmp, octets_exact, is_octets}
use Rattle.cds_stamps.specs.Joins.{get-join_maps}
use Rattle.cds_stamps.specs.Undos.{RaisesAt}
use Rattle.attr_sets.specs.AttributeCells.{AttrMark}
use Rattle.attr_sets.specs.CellLawProofs.{cell_of-valid}
use Rattle.attr_sets.proofs.SomeCellLaws.{has_some}
use Rattle.directory.specs.declared.entry.EntryCell.{EntryCell}
use Rattle.directory.specs.Entries.{Entries, join_entries, IsHeldCell, IsValidEntry, IsValidTable}
use Rattle.directory.specs.Histories.{Mark, Birth, Death, Attr, Born, name_in, birth_of}
use Rattle.directory.specs.Histories.{attr_history, birth_cmp, cell_of_some, entry_at, entry_of, table_of, HasBirths}
use Rattle.directory.proofs.HistoryLaws.{get-table_of, get-attrs_of, join_tables-table_of}

cell_of_some-held : (x : List AttrMark) → IfSome (cell_of_some x) IsHeldCell
cell_of_some-held [] = tt
cell_of_some-held (x ∷ xs) = (cell_of-valid (x ∷ xs), has_some x xs)

entry_at-valid : (h : List Mark) (n : List ℕ) (b : Born) → IsValidEntry (entry_at h n b)
entry_at-valid h n b a = subst (λ c. IfSome c IsHeldCell) (sym (get-attrs_of h n b.at a)) (cell_of_some-held (attr_history h n b.at a))

-- an entry of a history is valid
pub entry_of-valid : (h : List Mark) (n : List ℕ) → IfSome (entry_of h n) IsValidEntry
entry_of-valid h n = by_birth (birth_of h n)
  where
    by_birth : (b : Option Born) → IfSome (option_map (entry_at h n) b) IsValidEntry
    by_birth None = tt
    by_birth (Some b) = entry_at-valid h n b

-- the table of a history is valid
pub table_of-valid : (h : List Mark) → IsValidTable (table_of h)
table_of-valid h n = subst (λ e. IfSome e IsValidEntry) (sym (get-table_of h n)) (entry_of-valid h n)

-- ---- marks of one name

-- marks of n say nothing of another name
pub birth_of-other : (ms : List Mark) (n q : List ℕ) → AllByRecursion (λ m. name_in m ≡ n) ms → is_octets q n ≡ false → birth_of ms q ≡ None
birth_of-other [] n q about apart = refl
birth_of-other (Birth m k c ∷ ms) n q about apart =
    ap (λ t. maybe (greater birth_cmp) (if t then Some (record { at = c; kind = k }) else None) (birth_of ms q)) (ap (is_octets q) about.0 ∙ apart)
    ∙ birth_of-other ms n q about.1 apart
birth_of-other (Death m c s ∷ ms) n q about apart = birth_of-other ms n q about.1 apart
birth_of-other (Attr m c a x ∷ ms) n q about apart = birth_of-other ms n q about.1 apart

-- what is joined by the marks of one name: their entry, at that name alone
pub table_of-marks : (h ms : List Mark) (n : List ℕ) (e : EntryCell) → HasBirths h → HasBirths ms → AllByRecursion (λ m. name_in m ≡ n) ms
    → entry_of ms n ≡ Some e
    → RaisesAt join_entries (table_of h) (table_of (h ++ ms)) n e
table_of-marks h ms n e p q about made k =
    ap (λ t. get t k) (sym (join_tables-table_of h ms p q)) ∙ get-join_maps nat_list_cmp_total octets_exact join_entries (table_of h) (table_of ms) k
    ∙ ap (maybe join_entries (get (table_of h) k)) (get-table_of ms k ∙ by_name (is_octets k n) refl)
  where
    by_name : (t : Bool) → is_octets k n ≡ t → entry_of ms k ≡ (if t then Some e else None)
    by_name true same = ap (entry_of ms) (ties_are_equal octets_exact k n same) ∙ made
    by_name false apart = ap (option_map (entry_at ms k)) (birth_of-other ms n k about apart)

-- of no mark there is no entry
pub table_of-nil : table_of [] ≡ empty
table_of-nil = same_map nat_list_cmp_total octets_exact (table_of []) empty (λ n. get-table_of [] n ∙ sym (get-empty octets_cmp n))

-- a table into which the entry of the marks of one name was joined is the table of the history with
-- these marks
pub joined-table_of : (h ms : List Mark) (n : List ℕ) (e : EntryCell) (old new : Entries) → HasBirths h → HasBirths ms
    → AllByRecursion (λ m. name_in m ≡ n) ms → entry_of ms n ≡ Some e → old ≡ table_of h
    → (IfSome (get old n) IsValidEntry → IsValidEntry e → RaisesAt join_entries old new n e) → new ≡ table_of (h ++ ms)
joined-table_of h ms n e old new p q named made stands joins = same_map nat_list_cmp_total octets_exact new (table_of (h ++ ms)) (λ k.
    let raised : RaisesAt join_entries old new n e =
    joins (subst (λ t. IfSome (get t n) IsValidEntry) (sym stands) (table_of-valid h n)) (subst (λ x. IfSome x IsValidEntry) made (entry_of-valid ms n)) in
    raised k ∙ ap (λ t. maybe join_entries (get t k) (if is_octets k n then Some e else None)) stands ∙ sym (table_of-marks h ms n e p q named made k))
