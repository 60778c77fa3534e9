-- Names, values, marks and cells have one spelling.
use Rattle.std.proofs.Common.{◌≡◌, ℕ, zero, suc, Bool, true, false, cond, List, [], Option, Some, None, refl, sym, ap, ◌∙◌, arith}
use Rattle.std.specs.Prelude.{◌==◌, if◌then◌else◌}
use Rattle.std.specs.declared.cmp.Ordering.{Ordering}
use Rattle.std.specs.declared.cmp.Ordering.TheVariants.{Less, Equal, Greater}
use Rattle.std.specs.Cmp.Lexicographic.{nat_list_cmp_total}
use Rattle.std.specs.Ordering.{is_lt}
use Rattle.cds_stamps.specs.declared.stamp.Stamp.{Stamp}
use Rattle.cds_stamps.specs.Octets.{octets_cmp}
use Rattle.attr_sets.specs.declared.mark.ValueMark.{ValueMark}
use Rattle.attr_sets.specs.declared.cell.AttrCell.{AttrCell}
use Rattle.record_fields.specs.declared.fault.Rule.TheVariants.{BadName, OutOfOrder, BadFlag}
use Rattle.record_fields.specs.Layouts.{Stands}
use Rattle.record_fields.specs.Fields.{outside, above_rule, mark_rule, octets_order, octet, stamp_if, optional_stamp, octets_of, simple_name, attr_name, value}
use Rattle.record_fields.specs.ListLayouts.{mark, cell}
use Rattle.record_fields.proofs.Spelling.{OneSpelling, tells, spell_next, spell_done, spell_last, spell_choose, spell_octet, spell_16, spell_64, spell_stamp}
use Rattle.record_fields.proofs.Spelling.{spell_sized, spell_counted}

-- ---- names and values

-- a simple name has one spelling
pub spell_simple_name : (before : Option (List ℕ)) → OneSpelling (simple_name before)
unfolding simple_name
spell_simple_name before = spell_sized _ (spell_octet _)

-- an attribute's name has one spelling
pub spell_attr_name : (before : Option (List ℕ)) → OneSpelling (attr_name before)
unfolding attr_name
spell_attr_name before = spell_sized _ (spell_octet _)

-- a value has one spelling
pub spell_value : (before : Option (List ℕ)) → OneSpelling (value before)
unfolding value
spell_value before = spell_sized _ (spell_16 _)

in_order : (r : Ordering) → (if is_lt r then None else Some OutOfOrder) ≡ None → r ≡ Less
in_order Less e = refl
in_order Equal e = absurd cc
in_order Greater e = absurd cc

name_in_order : (named : Bool) (b o : List ℕ) → (if named then octets_order (Some b) o else Some BadName) ≡ None → octets_cmp b o ≡ Less
name_in_order true b o e = in_order (octets_cmp b o) e
name_in_order false b o e = absurd cc

-- simple names ascend
pub simple_names_rise : (b o x y : List ℕ) → Stands (simple_name (Some b)) x o y → octets_cmp b o ≡ Less
unfolding simple_name octets_of
simple_names_rise b o x y h = name_in_order _ b o h.3.4

-- attributes' names ascend
pub attr_names_rise : (b o x y : List ℕ) → Stands (attr_name (Some b)) x o y → octets_cmp b o ≡ Less
unfolding attr_name octets_of
attr_names_rise b o x y h = name_in_order _ b o h.3.4

values_rise : (b o x y : List ℕ) → Stands (value (Some b)) x o y → octets_cmp b o ≡ Less
unfolding value octets_of
values_rise b o x y h = in_order (octets_cmp b o) h.3.4

-- ---- marks and cells

flag_of : Option Stamp → ℕ
flag_of None = 0
flag_of (Some s) = 1

stamp_flag : (above : Option Stamp) (flag : ℕ) (s : Option Stamp) (x y : List ℕ) → outside BadFlag 0 1 flag ≡ None → Stands (stamp_if above flag) x s y
    → flag_of s ≡ flag
unfolding flag_of
stamp_flag above zero s x y e h = ap flag_of (sym h.0)
stamp_flag above (suc zero) s x y e h = ap flag_of (sym h.3.0)
stamp_flag above (suc (suc n)) s x y e h = absurd (grind (arith, e))

-- a stamp or none has one spelling
pub spell_optional_stamp : (above : Option Stamp) → OneSpelling (optional_stamp above)
unfolding optional_stamp octet
spell_optional_stamp above =
    spell_next (tells flag_of (λ flag s w x g h. stamp_flag above flag s x [] g.4 h)) (spell_octet _) (λ flag.
    spell_choose (flag == 0) (spell_done None) (spell_last (λ s. Some s) (λ s t e. cc) (spell_stamp (above_rule above))))

present_flag : (n : ℕ) → outside BadFlag 0 1 n ≡ None → cond (n == 1) 1 0 ≡ n
present_flag zero e = refl
present_flag (suc zero) e = refl
present_flag (suc (suc n)) e = absurd (grind (arith, e))

spell_mark : (above cleared : Option Stamp) → OneSpelling (mark above cleared)
unfolding mark octet
spell_mark above cleared =
    spell_next (tells (λ m. cond m.present 1 0) (λ n m w x g h. ap (λ (m : ValueMark). cond m.present 1 0) (sym h.3.0) ∙ present_flag n g.4)) (spell_octet _)
    (λ n.
    spell_last (λ s. record { present = n == 1; stamp = s }) (λ s t e. ap (λ (m : ValueMark). m.stamp) e) (spell_stamp (mark_rule above cleared)))

-- a cell has one spelling
pub spell_cell : (above : Option Stamp) → OneSpelling (cell above)
unfolding cell
spell_cell above =
    spell_next (tells (λ c. c.cleared) (λ t c w x g h. ap (λ (c : AttrCell). c.cleared) (sym h.3.3.0))) (spell_optional_stamp above) (λ t.
    spell_counted nat_list_cmp_total value (mark above t) values_rise spell_value (spell_mark above t) (λ marks. record { cleared = t; values = marks }) (λ c. c.values)
    (λ m. refl) (spell_64 _))
