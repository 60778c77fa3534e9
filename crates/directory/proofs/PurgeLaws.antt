-- Tables of which deletions are dropped: again, beside what is later, valid, and showing what they
-- showed.
use Rattle.std.proofs.Common.{◌≡◌, ℕ, Bool, true, false, List, [], ◌∷◌, Option, Some, None, refl, sym, ap, subst, ◌∙◌, arith}
use Rattle.std.specs.Prelude.{not, if◌then◌else◌, IfSome}
use Rattle.std.specs.FinMap.{FinMap, IsAntisymmetric, get, insert, same_map}
use Rattle.std.specs.Option.{option_and_then, option_map_or}
use Rattle.std.specs.declared.cmp.Ordering.{Ordering}
use Rattle.std.specs.Ordering.{is_lt}
use Rattle.std.specs.Cmp.{IsTotalOrder}
use Rattle.std.specs.Cmp.Lexicographic.{nat_list_cmp_total}
use Rattle.cds_stamps.specs.declared.stamp.Stamp.{Stamp}
use Rattle.cds_stamps.specs.Semilattice.{maybe}
use Rattle.cds_stamps.specs.Keyed.{map_some, get-map_some}
use Rattle.cds_stamps.specs.Stamps.{stamp_total, is_earlier, is_up_to, later_stamp}
use Rattle.cds_stamps.specs.Octets.{octets_cmp, octets_exact}
use Rattle.attr_sets.specs.declared.cell.AttrCell.{AttrCell}
use Rattle.attr_sets.specs.AttributeCells.{cell_values, present_in}
use Rattle.attr_sets.specs.CellPurges.{clear_left, purged_cell, after_cell, is_empty_cell, cell_left, some_cell, cell_after}
use Rattle.attr_sets.proofs.CellUndoing.{is_empty_cell-is}
use Rattle.attr_sets.proofs.PartLoops.{PutsPart, part_put, part_passed}
use Rattle.attr_sets.proofs.PresentLaws.{cell_values-purged}
use Rattle.attr_sets.proofs.SomeCellLaws.{cell_left-held, cell_after-held, cell_left-twice, cell_after-left, cell_left-after, not_later}
use Rattle.directory.specs.declared.entry.EntryCell.{EntryCell}
use Rattle.directory.specs.Entries.{Entries, IsHeldCell, IsValidEntry, IsValidTable}
use Rattle.directory.specs.Histories.{Mark, table_of}
use Rattle.directory.specs.Shown.{shown_of_name, shown_if_live, face_of, entry_values, shown_entry, shown_in}
use Rattle.directory.specs.Purges.{purged_entry, is_dead_up_to, entry_left, purged_table, purged_entries, after_entry}
use Rattle.directory.proofs.ShownLaws.{no_entries, shown_in-table_of}
use Rattle.directory.proofs.TableLaws.{table_of-valid}

-- ---- maps

-- one map of values after another
pub map_some-both : {K X Y Z : Type 0} {R : K → K → Ordering} → IsTotalOrder R → IsAntisymmetric R → (f : Y → Option Z) (g : X → Option Y) (h : X → Option Z)
    → ((x : X) → option_and_then f (g x) ≡ h x) → (m : FinMap R X) → map_some f (map_some g m) ≡ map_some h m
map_some-both {X = X} o same f g h both m = same_map o same (map_some f (map_some g m)) (map_some h m) (λ q.
    get-map_some o same f (map_some g m) q ∙ ap (option_and_then f) (get-map_some o same g m q) ∙ at (get m q) ∙ sym (get-map_some o same h m q))
  where
    at : (x : Option X) → option_and_then f (option_and_then g x) ≡ option_and_then h x
    at None = refl
    at (Some x) = both x

-- ---- entries, purged twice

-- what is up to a stamp is up to a later one
pub early_early : {K : Type 0} {R : K → K → Ordering} → IsTotalOrder R → (s t d : K) → is_lt (R t s) ≡ false → not (is_lt (R s d)) ≡ true
    → not (is_lt (R t d)) ≡ true
early_early o s t d e h = grind (arith, e, h, o.trans s t d, o.antisymm s t, o.congr s t d)

purged_entry-twice : (s t : Stamp) (e : EntryCell) → is_earlier t s ≡ false → purged_entry t (purged_entry s e) ≡ purged_entry t e
purged_entry-twice s t e later =
    let cells : map_some (cell_left t) (map_some (cell_left s) e.attrs) ≡ map_some (cell_left t) e.attrs =
    map_some-both nat_list_cmp_total octets_exact (cell_left t) (cell_left s) (cell_left t) (λ c. cell_left-twice s t c later) e.attrs in
    λ i. record e { attrs = cells i }

-- what is left up to a later stamp of what was left of an entry
pub entry_left-twice : (s t : Stamp) (e : EntryCell) → is_earlier t s ≡ false → option_and_then (entry_left t) (entry_left s e) ≡ entry_left t e
entry_left-twice s t e later = at (is_dead_up_to s e.death) refl
  where
    dead : (d : Option Stamp) → is_dead_up_to s d ≡ true → is_dead_up_to t d ≡ true
    dead None h = cc (h)
    dead (Some d) h = early_early stamp_total s t d later h

    at : (b : Bool) → is_dead_up_to s e.death ≡ b → option_and_then (entry_left t) (if b then None else Some (purged_entry s e)) ≡ entry_left t e
    at true p = sym (ap (λ b. if b then None else Some (purged_entry t e)) (dead e.death p))
    at false p = ap (λ x. if is_dead_up_to t e.death then None else Some x) (purged_entry-twice s t e later)

-- a table that was purged up to an earlier stamp
pub purged_table-twice : (s t : Stamp) (m : Entries) → is_earlier t s ≡ false → purged_table t (purged_table s m) ≡ purged_table t m
purged_table-twice s t m later =
    map_some-both nat_list_cmp_total octets_exact (entry_left t) (entry_left s) (entry_left t) (λ e. entry_left-twice s t e later) m

-- the purged table of a history, purged up to a later stamp
pub purged-again : (h : List Mark) (a : Option Stamp) (t : Stamp) → maybe later_stamp a (Some t) ≡ Some t → purged_table t (purged_entries h a) ≡ purged_entries h (Some t)
purged-again h None t e = refl
purged-again h (Some s) t e = purged_table-twice s t (table_of h) (not_later s t e)

-- ---- what is later

-- nothing of what is later than t was dropped before
pub after_entry-purged : (s t : Stamp) (e : EntryCell) → is_earlier t s ≡ false → after_entry t (purged_entry s e) ≡ after_entry t e
after_entry-purged s t e later =
    let cells : map_some (cell_after t) (map_some (cell_left s) e.attrs) ≡ map_some (cell_after t) e.attrs =
    map_some-both nat_list_cmp_total octets_exact (cell_after t) (cell_left s) (cell_after t) (λ c. cell_after-left s t c later) e.attrs in
    λ i. record e { death = option_and_then (clear_left t) e.death; attrs = cells i }

-- what is later is not dead
pub not_dead : (t : Stamp) (d : Option Stamp) → is_dead_up_to t (option_and_then (clear_left t) d) ≡ false
not_dead t None = refl
not_dead t (Some d) = at (is_up_to t d) refl
  where
    at : (b : Bool) → is_up_to t d ≡ b → is_dead_up_to t (if b then None else Some d) ≡ false
    at true p = refl
    at false p = p

-- and nothing of it is dropped
pub entry_left-after : (t : Stamp) (e : EntryCell) → entry_left t (after_entry t e) ≡ Some (after_entry t e)
entry_left-after t e =
    let cells : map_some (cell_left t) (map_some (cell_after t) e.attrs) ≡ map_some (cell_after t) e.attrs =
    map_some-both nat_list_cmp_total octets_exact (cell_left t) (cell_after t) (cell_after t) (λ c. cell_left-after t c) e.attrs in
    ap (λ b. if b then None else Some (purged_entry t (after_entry t e))) (not_dead t e.death)
    ∙ ap Some (λ i. record e { death = option_and_then (clear_left t) e.death; attrs = cells i })

-- a cell is put into a part of a map, if it has something
pub cell_put : (t : Stamp) (m old new : FinMap octets_cmp AttrCell) (k : List ℕ) (x b : AttrCell) (es rest : List (List ℕ × AttrCell)) → es ≡ (k, x) ∷ rest
    → b ≡ after_cell t x → new ≡ (if is_empty_cell b then old else insert old k b)
    → PutsPart nat_list_cmp_total octets_exact (λ _. cell_after t) m old es → PutsPart nat_list_cmp_total octets_exact (λ _. cell_after t) m new rest
cell_put t m old new k x b es rest first is put before = at (is_empty_cell b) refl
  where
    at : (e : Bool) → is_empty_cell b ≡ e → PutsPart nat_list_cmp_total octets_exact (λ _. cell_after t) m new rest
    at true p =
        let gives : cell_after t x ≡ None = ap some_cell (sym is) ∙ ap (λ e. if e then None else Some b) p in
        subst (λ n. PutsPart nat_list_cmp_total octets_exact (λ _. cell_after t) m n rest) (sym (put ∙ ap (λ e. if e then old else insert old k b) p))
        (part_passed nat_list_cmp_total octets_exact (λ _. cell_after t) m old k x es rest first gives before)
    at false p =
        let gives : cell_after t x ≡ Some b = ap some_cell (sym is) ∙ ap (λ e. if e then None else Some b) p in
        part_put nat_list_cmp_total octets_exact (λ _. cell_after t) m old new k x b es rest first gives
        (put ∙ ap (λ e. if e then old else insert old k b) p) before

-- ---- valid entries

-- what holds of each value of a map holds of what is left of each
pub each_some : {K X : Type 0} {R : K → K → Ordering} → IsTotalOrder R → IsAntisymmetric R → (V : X → Type 0) (f : X → Option X)
    → ((x : X) → V x → IfSome (f x) V) → (m : FinMap R X) → ((k : K) → IfSome (get m k) V) → (k : K) → IfSome (get (map_some f m) k) V
each_some {X = X} o same V f keeps m each k = subst (λ x. IfSome x V) (sym (get-map_some o same f m k)) (at (get m k) (each k))
  where
    at : (x : Option X) → IfSome x V → IfSome (option_and_then f x) V
    at None v = tt
    at (Some x) v = keeps x v

-- what is left of a valid entry is valid
pub purged_entry-valid : (t : Stamp) (e : EntryCell) → IsValidEntry e → IsValidEntry (purged_entry t e)
purged_entry-valid t e v = each_some nat_list_cmp_total octets_exact IsHeldCell (cell_left t) (λ c w. cell_left-held t c w.0) e.attrs v

-- and what of it is later
pub after_entry-valid : (t : Stamp) (e : EntryCell) → IsValidEntry e → IsValidEntry (after_entry t e)
after_entry-valid t e v =
    each_some nat_list_cmp_total octets_exact IsHeldCell (cell_after t) (λ c w. cell_after-held t c w.0) e.attrs v

-- so is what is left, unless it is dead
entry_left-valid : (t : Stamp) (e : EntryCell) → IsValidEntry e → IfSome (entry_left t e) IsValidEntry
entry_left-valid t e v = at (is_dead_up_to t e.death)
  where
    at : (b : Bool) → IfSome (if b then None else Some (purged_entry t e)) IsValidEntry
    at true = tt
    at false = purged_entry-valid t e v

-- what is left of a valid table is valid
pub purged_table-valid : (t : Stamp) (m : Entries) → IsValidTable m → IsValidTable (purged_table t m)
purged_table-valid t m v = each_some nat_list_cmp_total octets_exact IsValidEntry (entry_left t) (entry_left-valid t) m v

-- the purged table of a history is valid
pub purged-valid : (h : List Mark) (t : Option Stamp) → IsValidTable (purged_entries h t)
purged-valid h None = table_of-valid h
purged-valid h (Some t) = purged_table-valid t (table_of h) (table_of-valid h)

-- a table of a history that was purged, and then up to a later stamp
pub dropped-again : (h : List Mark) (a : Option Stamp) (t : Stamp) (old new : Entries) → new ≡ purged_table t old
    → maybe later_stamp a (Some t) ≡ Some t → old ≡ purged_entries h a → new ≡ purged_entries h (Some t)
dropped-again h a t old new drops later is = drops ∙ ap (purged_table t) is ∙ purged-again h a t later

-- ---- what shows

-- no value shows of an empty cell
some_values : (a : AttrCell) → option_map_or cell_values (some_cell a) [] ≡ cell_values a
some_values a = at (is_empty_cell a) refl
  where
    at : (b : Bool) → is_empty_cell a ≡ b → option_map_or cell_values (if b then None else Some a) [] ≡ cell_values a
    at true e = sym (ap cell_values (is_empty_cell-is a e) ∙ ap present_in no_entries)
    at false e = refl

values_left : (t : Stamp) (c : Option AttrCell) → option_map_or cell_values (option_and_then (cell_left t) c) [] ≡ option_map_or cell_values c []
values_left t None = refl
values_left t (Some c) = some_values (purged_cell t c) ∙ cell_values-purged t c

entry_values-purged : (t : Stamp) (e : EntryCell) (a : List ℕ) → entry_values (purged_entry t e) a ≡ entry_values e a
entry_values-purged t e a = ap (λ c. option_map_or cell_values c []) (get-map_some nat_list_cmp_total octets_exact (cell_left t) e.attrs a)
    ∙ values_left t (get e.attrs a)

face_of-purged : (t : Stamp) (e : EntryCell) → face_of (purged_entry t e) ≡ face_of e
face_of-purged t e = λ i. record { birth = e.birth; kind = e.kind; values = λ a. entry_values-purged t e a i }

shown_entry-left : (t : Stamp) (e : EntryCell) → option_and_then shown_entry (entry_left t e) ≡ shown_entry e
shown_entry-left t e = at (is_dead_up_to t e.death) refl
  where
    gone : (d : Option Stamp) → is_dead_up_to t d ≡ true → None ≡ shown_if_live d (face_of e)
    gone None p = cc (p)
    gone (Some d) p = refl

    at : (b : Bool) → is_dead_up_to t e.death ≡ b → option_and_then shown_entry (if b then None else Some (purged_entry t e)) ≡ shown_entry e
    at true p = gone e.death p
    at false p = ap (shown_if_live e.death) (face_of-purged t e)

-- a purged table shows what the table showed
pub shown_in-purged_table : (t : Stamp) (m : Entries) (n : List ℕ) → shown_in (purged_table t m) n ≡ shown_in m n
shown_in-purged_table t m n = ap (option_and_then shown_entry) (get-map_some nat_list_cmp_total octets_exact (entry_left t) m n) ∙ at (get m n)
  where
    at : (e : Option EntryCell) → option_and_then shown_entry (option_and_then (entry_left t) e) ≡ option_and_then shown_entry e
    at None = refl
    at (Some e) = shown_entry-left t e

-- the purged table of a history shows what the history shows
pub shown_in-purged : (h : List Mark) (t : Option Stamp) (n : List ℕ) → shown_in (purged_entries h t) n ≡ shown_of_name h n
shown_in-purged h None n = shown_in-table_of h n
shown_in-purged h (Some t) n = shown_in-purged_table t (table_of h) n ∙ shown_in-table_of h n
