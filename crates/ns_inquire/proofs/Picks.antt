-- The elements that an inquiry asks for, value by value.
use Rattle.std.proofs.Common.{◌≡◌, ◌∙◌, ℕ, Bool, true, false, List, [], ◌∷◌, cond, filter, refl, sym, ap, subst}
use Rattle.std.specs.Prelude.{◌↔◌, Option, Some, None, if◌then◌else◌}
use Rattle.std.specs.List.{Contains, filter_map, cons_option}
use Rattle.std.specs.Option.{option_and_then}
use Rattle.cds_stamps.specs.Ascending.{in_ascending_order}
use Rattle.cds_stamps.proofs.AscendingLaws.{ascending-kept}
use Rattle.cds_stamps.proofs.ListMembers.{Contains-filter, filter-Contains}
use Rattle.attr_sets.specs.declared.cell.AttrCell.{AttrCell}
use Rattle.attr_sets.specs.AttributeCells.{cell_values}
use Rattle.attr_sets.proofs.ShownLaws.{cell_values-ascending}
use Rattle.ns_profiles.specs.declared.element.Element.{Element}
use Rattle.ns_profiles.specs.Elements.{element_of}
use Rattle.ns_profiles.specs.Profiles.{elements_in}
use Rattle.ns_profiles.proofs.Searches.{filter_by_priority}
use Rattle.ns_inquire.specs.declared.inquiry.Inquiry.{Inquiry}
use Rattle.ns_inquire.specs.Inquiries.{is_picked, picked_in, elements_of}

picked_all : (q : Inquiry) (xs : List (List ℕ)) → filter_map (picked_in q) xs ≡ filter (is_picked q) (filter_map element_of xs)
picked_all q [] = refl
picked_all q (x ∷ xs) = by_read (element_of x) (picked_all q xs)
  where
    by_test : (e : Element) (b : Bool) (rest others : List Element) → rest ≡ others
        → cons_option (if b then Some e else None) rest ≡ cond b (e ∷ others) others
    by_test e true rest others is = ap (λ (es : List Element). e ∷ es) is
    by_test e false rest others is = is

    by_read : (o : Option Element) → filter_map (picked_in q) xs ≡ filter (is_picked q) (filter_map element_of xs)
        → cons_option (option_and_then (λ e. if is_picked q e then Some e else None) o) (filter_map (picked_in q) xs)
        ≡ filter (is_picked q) (cons_option o (filter_map element_of xs))
    by_read None rest = rest
    by_read (Some e) rest = by_test e (is_picked q e) _ _ rest

-- those among ascending values are those of the inquiry
pub picked_in_order : (q : Inquiry) (values : List (List ℕ)) → filter_map (picked_in q) (in_ascending_order values) ≡ elements_of q values
picked_in_order q values = picked_all q (in_ascending_order values) ∙ filter_by_priority (is_picked q) values

-- and so are those among the values of a cell, which ascend
pub picked_in_cell : (q : Inquiry) (c : AttrCell) → filter_map (picked_in q) (cell_values c) ≡ elements_of q (cell_values c)
picked_in_cell q c =
    ap (filter_map (picked_in q)) (sym (ascending-kept (cell_values c) (cell_values-ascending c))) ∙ picked_in_order q (cell_values c)

-- what an inquiry lists are the elements that it asks for
pub picked_exactly : (q : Inquiry) (values : List (List ℕ)) (e : Element)
    → Contains (elements_of q values) e ↔ (Contains (elements_in values) e × (is_picked q e ≡ true))
picked_exactly q values e =
    let es = elements_in values in
    let same : filter (is_picked q) es ≡ elements_of q values = filter_by_priority (is_picked q) values in (
      λ c. filter-Contains (is_picked q) es e (subst (λ (fs : List Element). Contains fs e) (sym same) c),
      λ c. subst (λ (fs : List Element). Contains fs e) same (Contains-filter (is_picked q) es e c.0 c.1),
    )
