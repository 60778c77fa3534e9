-- A table shows what its history shows.
use Rattle.std.proofs.Common.{◌≡◌, ℕ, List, [], ◌∷◌, Option, Some, None, refl, sym, ap, ◌∙◌}
use Rattle.std.specs.FinMap.{empty, entries, get-empty, same_map}
use Rattle.std.specs.List.Sorted.{IsStrictlySortedBy}
use Rattle.std.specs.Option.{option_and_then, option_map, option_map_or}
use Rattle.std.specs.Cmp.Lexicographic.{nat_list_cmp_total}
use Rattle.cds_stamps.specs.Keyed.{get-of_keys}
use Rattle.cds_stamps.specs.Octets.{octets_cmp, octets_exact}
use Rattle.cds_stamps.proofs.TreeViews.{entries-view}
use Rattle.attr_sets.specs.declared.mark.ValueMark.{ValueMark}
use Rattle.attr_sets.specs.AttributeCells.{AttrMark, cell_values, shown_values, present_in, marks_kept}
use Rattle.directory.specs.Histories.{Mark, Born, birth_of, death_of, attr_history, cell_of_some, entry_at, table_of}
use Rattle.directory.specs.Shown.{shown_if_live, shown_born, shown_of_name, entry_values, face_of, shown_entry, shown_in}
use Rattle.directory.proofs.HistoryLaws.{get-table_of, get-attrs_of}

no_marks : marks_kept [] ≡ empty
no_marks =
    same_map nat_list_cmp_total octets_exact (marks_kept []) empty (λ v. get-of_keys nat_list_cmp_total octets_exact []
    (λ v. None) v ∙ sym (get-empty octets_cmp v))

-- the empty map has no entries
pub no_entries : entries (empty {K = List ℕ} {X = ValueMark} {R = octets_cmp}) ≡ []
unfolding IsStrictlySortedBy
no_entries = entries-view nat_list_cmp_total octets_exact [] tt

-- of no mark no value shows
pub shown_values-nil : shown_values [] ≡ []
shown_values-nil = ap (λ m. present_in (entries m)) no_marks ∙ ap present_in no_entries

cell_values-some : (x : List AttrMark) → option_map_or cell_values (cell_of_some x) [] ≡ shown_values x
cell_values-some [] = sym shown_values-nil
cell_values-some (x ∷ xs) = refl

-- an entry of a table has the values that its history shows
pub entry_values-entry_at : (h : List Mark) (n : List ℕ) (b : Born) (a : List ℕ) → entry_values (entry_at h n b) a ≡ shown_values (attr_history h n b.at a)
entry_values-entry_at h n b a = ap (λ c. option_map_or cell_values c []) (get-attrs_of h n b.at a) ∙ cell_values-some (attr_history h n b.at a)

face_of-entry_at : (h : List Mark) (n : List ℕ) (b : Born)
    → face_of (entry_at h n b) ≡ record { birth = b.at; kind = b.kind; values = λ a. shown_values (attr_history h n b.at a) }
face_of-entry_at h n b = λ i. record { birth = b.at; kind = b.kind; values = λ a. entry_values-entry_at h n b a i }

-- a table shows what its history shows
pub shown_in-table_of : (h : List Mark) (n : List ℕ) → shown_in (table_of h) n ≡ shown_of_name h n
shown_in-table_of h n = ap (option_and_then shown_entry) (get-table_of h n) ∙ by_birth (birth_of h n)
  where
    by_birth : (b : Option Born) → option_and_then shown_entry (option_map (entry_at h n) b) ≡ option_and_then (shown_born h n) b
    by_birth None = refl
    by_birth (Some b) = ap (shown_if_live (death_of h n b.at)) (face_of-entry_at h n b)
