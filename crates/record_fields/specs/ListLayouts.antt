-- The layouts of keyed lists, and of marks and cells. Each keyed list ascends strictly by its key.
use Rattle.std.specs.Prelude.{ℕ, zero, suc, ◌==◌, List, [], ◌∷◌, Option, Some, None, if◌then◌else◌}
use Rattle.std.specs.FinMap.{FinMap, empty}
use Rattle.std.specs.Int.{w64}
use Rattle.std.specs.declared.cmp.Ordering.{Ordering}
use Rattle.cds_stamps.specs.declared.stamp.Stamp.{Stamp}
use Rattle.attr_sets.specs.declared.mark.ValueMark.{ValueMark}
use Rattle.attr_sets.specs.declared.cell.AttrCell.{AttrCell}
use Rattle.record_fields.specs.declared.fault.Rule.{Rule}
use Rattle.record_fields.specs.declared.fault.Rule.TheVariants.{BadLength, BadFlag}
use Rattle.record_fields.specs.Added.{add_all}
use Rattle.record_fields.specs.Layouts.{Layout, done, next}
use Rattle.record_fields.specs.Fields.{outside, mark_rule, octet, number, stamp, optional_stamp, value}

-- ---- keyed lists

-- an item: its key, which is read knowing the one before it, and what is said of it
unfoldable pub item : {K X : Type 0} → (Option K → Layout K) → Layout X → Option K → Layout (K × X)
item key content before = next (key before) (λ k. next content (λ x. done (k, x)))

-- so many items
unfoldable pub ascending_items : {K X : Type 0} → (Option K → Layout K) → Layout X → ℕ → Option K → Layout (List (K × X))
ascending_items key content zero before = done []
ascending_items key content (suc n) before = next (item key content before) (λ e. next (ascending_items key content n (Some e.0)) (λ es. done (e ∷ es)))

-- the map of so many items
unfoldable pub map_of : {K X : Type 0} {R : K → K → Ordering} → (Option K → Layout K) → Layout X → ℕ → Layout (FinMap R X)
map_of key content n = next (ascending_items key content n None) (λ es. done (add_all empty es))

-- ---- marks and cells

-- the mark of a value, which is above and not earlier than the clear
unfoldable pub mark : (above cleared : Option Stamp) → Layout ValueMark
mark above cleared =
    next (octet (outside BadFlag 0 1)) (λ present. next (stamp (mark_rule above cleared)) (λ s. done (record { present = present == 1; stamp = s })))

-- where there is no clear, there is a mark
abbrev pub empty_cell : Option Stamp → ℕ → Option Rule
empty_cell None n = if n == 0 then Some BadLength else None
empty_cell (Some cleared) n = None

-- the clear of an attribute, and the marks of its values, all of them above
unfoldable pub cell : (above : Option Stamp) → Layout AttrCell
cell above =
    next (optional_stamp above) (λ cleared. next (number w64 (empty_cell cleared)) (λ n. next (map_of value (mark above cleared) n) (λ marks.
    done (record { cleared = cleared; values = marks }))))
