-- What an import lists, from its first entry on.
use Rattle.std.proofs.Common.{◌≡◌, ◌∙◌, ℕ, List, [], ◌∷◌, ◌++◌, length, Contains, refl, sym, ap, ap₂, append-nil}
use Rattle.std.specs.Prelude.{Some, Ok}
use Rattle.std.specs.List.{flat_map}
use Rattle.std.specs.Result.{result_ok, result_map_both}
use Rattle.tower_codec.specs.declared.binding.StringBinding.{StringBinding}
use Rattle.tower_codec.specs.declared.rpc.Interface.{Interface}
use Rattle.resolver.specs.declared.seen.Found.{Found}
use Rattle.resolver.specs.Readers.{Reader}
use Rattle.server_entries.specs.declared.client.Wanted.{Wanted}
use Rattle.ns_import.specs.DepthFirst.{depth_first}
use Rattle.ns_import.specs.Imports.{same_entry, object_at, object_of, edges, names_of, bindings_at, order_from, imports_from, import_list, begin_import}
use Rattle.ns_import.specs.Coming.{to_come}
use Rattle.ns_import.proofs.Firsts.{Within, has_from}
use Rattle.ns_import.proofs.Steps.{depth_first-new, order_of_one_list}
use Rattle.ns_import.proofs.Unfolding.{order_is_search}
use Rattle.ns_import.proofs.SameEntries.{same_entry-itself, same_entry-exact}
use Rattle.ns_import.proofs.Landing.{Leads, edges_within}

none_within : (objects : List Found) → Within same_entry objects []
none_within objects x h = absurd cc

module _ (reader : Reader) (objects : List Found) (leads : Leads reader objects) where
  -- the order of a search is what the search comes to from its first entry on
  order_begins : (wanted : Interface) (start : Found) → Contains objects start
      → order_from reader objects wanted start
      ≡ start ∷ depth_first same_entry (edges reader wanted) (length objects) (start ∷ []) (edges reader wanted start)
  order_begins wanted start among =
      let there = has_from same_entry same_entry-itself start objects among in
      order_is_search same_entry same_entry-exact same_entry-itself (edges reader wanted) objects (edges_within reader objects leads wanted) start there
      ∙ depth_first-new same_entry same_entry-exact same_entry-itself (edges reader wanted) objects (edges_within reader objects leads wanted)
      [] start [] refl there (none_within objects)
      ∙ ap (λ (rest : List Found). start ∷ depth_first same_entry (edges reader wanted) (length objects) (start ∷ []) rest)
      (append-nil (edges reader wanted start))

  -- so an import lists the bindings of its first entry, and then those to come
  imports_begin : (wanted : Wanted) (start : Found) → Contains objects start
      → imports_from reader objects wanted start
      ≡ bindings_at reader wanted start ++ to_come reader objects wanted (start ∷ []) (names_of reader wanted.interface start)
  imports_begin wanted start among = ap (flat_map (bindings_at reader wanted)) (order_begins wanted.interface start among)

  -- two lists that both have all objects give one order
  pub one_order : (others : List Found) → Leads reader others → (wanted : Interface) (start : Found) → Contains objects start → Contains others start
      → order_from reader others wanted start ≡ order_from reader objects wanted start
  one_order others leads_too wanted start among among_too =
      order_of_one_list same_entry same_entry-exact same_entry-itself (edges reader wanted) objects others
      (edges_within reader objects leads wanted) (edges_within reader others leads_too wanted) start
      (has_from same_entry same_entry-itself start objects among) (has_from same_entry same_entry-itself start others among_too)

  -- an import that begins at this entry has its bindings before it, by any list that has all
  -- objects
  pub begins_with : (others : List Found) → Leads reader others → (wanted : Wanted) (name : List (List ℕ)) (start : Found) → object_at reader name ≡ Ok start
      → (client : Wanted) → client ≡ wanted → (ready : List StringBinding) (searched : List Found) (names : List (List (List ℕ)))
      → ready ≡ bindings_at reader client start → searched ≡ start ∷ [] → names ≡ names_of reader client.interface start ++ []
      → begin_import (import_list reader others wanted name) ≡ Ok (Some (ready ++ to_come reader objects client searched names))
  begins_with others leads_too wanted name start at client same ready searched names r s n =
      let found : object_of reader name ≡ Some start = ap result_ok at in
      let among = leads name start found in
      ap (λ o. begin_import (result_map_both (imports_from reader others wanted) (λ fault. fault) o)) at
      ∙ ap (λ (es : List Found). Ok (Some (flat_map (bindings_at reader wanted) es)))
      (one_order others leads_too wanted.interface start among (leads_too name start found))
      ∙ ap (λ (w : Wanted). Ok (Some (imports_from reader objects w start))) (sym same)
      ∙ ap (λ (bs : List StringBinding). Ok (Some bs))
      (imports_begin client start among
      ∙ ap₂ (λ (front back : List StringBinding). front ++ back) (sym r)
      (ap₂ (to_come reader objects client) (sym s) (sym (n ∙ append-nil (names_of reader client.interface start)))))
