-- What an entry says whose values are read in place: they ascend, so they stay in their order.
use Rattle.std.proofs.Common.{◌≡◌, ◌∙◌, ◌++◌, ℕ, List, [], map, filter, sym, ap, ap₂}
use Rattle.std.specs.Prelude.{Option, Some, None}
use Rattle.std.specs.FinMap.{FinMap, get}
use Rattle.std.specs.List.Sorted.{IsStrictlySortedBy}
use Rattle.std.specs.Option.{option_map_or}
use Rattle.cds_stamps.specs.Octets.{octets_cmp}
use Rattle.cds_stamps.proofs.AscendingLaws.{ascending-filter, ascending-kept}
use Rattle.tower_codec.specs.declared.rpc.Interface.{Interface}
use Rattle.cell_names.specs.FullNames.{components_of, is_full_name}
use Rattle.attr_sets.specs.declared.cell.AttrCell.{AttrCell}
use Rattle.attr_sets.specs.AttributeCells.{cell_values}
use Rattle.attr_sets.proofs.ShownLaws.{cell_values-ascending}
use Rattle.resolver.specs.Readers.{values_by}
use Rattle.server_entries.specs.declared.client.Wanted.{Wanted}
use Rattle.server_entries.specs.Clients.{bindings_of}
use Rattle.server_entries.specs.Exports.{tower_attribute, object_attribute}
use Rattle.ns_groups.specs.Groups.{group, members_of}
use Rattle.ns_profiles.specs.Elements.{element_of_octets}
use Rattle.ns_profiles.specs.Profiles.{profile, is_sought, search_order}
use Rattle.ns_profiles.proofs.Searches.{members_in_order}
use Rattle.ns_import.specs.Coming.{names_in, bindings_in}

abbrev Rises : List (List ℕ) → Type 0
Rises vs = IsStrictlySortedBy octets_cmp vs

none_rise : Rises []
unfolding IsStrictlySortedBy
none_rise = tt

values_rise : (cells : FinMap octets_cmp AttrCell) (attr : List ℕ) → Rises (values_by cells attr)
values_rise cells attr = by_cell (get cells attr)
  where
    by_cell : (o : Option AttrCell) → Rises (option_map_or cell_values o [])
    by_cell None = none_rise
    by_cell (Some c) = cell_values-ascending c

members_kept : (vs : List (List ℕ)) → Rises vs → map components_of (filter is_full_name vs) ≡ members_of vs
members_kept vs rise = sym (ap (map components_of) (ascending-filter is_full_name vs ∙ ap (filter is_full_name) (ascending-kept vs rise)))

elements_kept : (wanted : Interface) (vs : List (List ℕ)) → Rises vs
    → map (λ octets. (element_of_octets octets).member) (filter (is_sought wanted) vs) ≡ search_order wanted vs
elements_kept wanted vs rise =
    ap (λ (os : List (List ℕ)). map (λ octets. (element_of_octets octets).member) (filter (is_sought wanted) os)) (sym (ascending-kept vs rise))
    ∙ members_in_order wanted vs

module _ (cells : FinMap octets_cmp AttrCell) where
  -- the names at which a search goes on
  pub names_lent : (wanted : Interface) (vs ws : List (List ℕ)) → vs ≡ values_by cells group → ws ≡ values_by cells profile
      → map components_of (filter is_full_name vs) ++ map (λ octets. (element_of_octets octets).member) (filter (is_sought wanted) ws)
      ≡ names_in (values_by cells) wanted
  names_lent wanted vs ws v w =
      ap₂ (λ (ms es : List (List (List ℕ))). ms ++ es)
      (ap (λ (os : List (List ℕ)). map components_of (filter is_full_name os)) v ∙ members_kept (values_by cells group) (values_rise cells group))
      (ap (λ (os : List (List ℕ)). map (λ octets. (element_of_octets octets).member) (filter (is_sought wanted) os)) w
      ∙ elements_kept wanted (values_by cells profile) (values_rise cells profile))

  -- the bindings for a client
  pub bindings_lent : (wanted : Wanted) (vs ws : List (List ℕ)) → vs ≡ values_by cells tower_attribute → ws ≡ values_by cells object_attribute
      → bindings_of wanted vs ws ≡ bindings_in (values_by cells) wanted
  bindings_lent wanted vs ws v w =
      ap₂ (bindings_of wanted) (v ∙ sym (ascending-kept (values_by cells tower_attribute) (values_rise cells tower_attribute))) w
