-- Which entries a search comes to, and what an import lists.
use Rattle.std.proofs.Common.{◌≡◌, ◌↔◌, ℕ, ◌≤◌, List, length, Contains, refl, sym, ap}
use Rattle.std.specs.Prelude.{Result, Ok, Err}
use Rattle.std.specs.List.{IsDistinct}
use Rattle.std.specs.Result.{result_ok, result_map_both}
use Rattle.tower_codec.specs.declared.binding.StringBinding.{StringBinding}
use Rattle.tower_codec.specs.declared.rpc.Interface.{Interface}
use Rattle.resolver.specs.declared.seen.Found.{Found}
use Rattle.resolver.specs.Readers.{Reader}
use Rattle.server_entries.specs.declared.client.Wanted.{Wanted}
use Rattle.ns_import.specs.declared.fault.ImportFault.{ImportFault}
use Rattle.ns_import.specs.Orders.{order, Reaches}
use Rattle.ns_import.specs.Imports.{same_entry, object_at, edges, order_from, imports_from, import_list, IsImport}
use Rattle.ns_import.proofs.Firsts.{has_from}
use Rattle.ns_import.proofs.Steps.{more_steps_change_nothing}
use Rattle.ns_import.proofs.Reached.{order_once, order_reaches}
use Rattle.ns_import.proofs.SameEntries.{same_entry-itself, same_entry-exact}
use Rattle.ns_import.proofs.Landing.{Leads, edges_within}

-- a search comes to each entry once
pub searched_once : (reader : Reader) (objects : List Found) (wanted : Interface) (start : Found)
    → IsDistinct same_entry (order_from reader objects wanted start)
searched_once reader objects wanted start = order_once same_entry same_entry-exact same_entry-itself (edges reader wanted) (length objects) start

module _ (reader : Reader) (objects : List Found) (leads : Leads reader objects) (wanted : Interface) (start : Found) (among : Contains objects start) where
  -- a search comes exactly to the entries that are reached
  pub searched_reached : (e : Found) → Contains (order_from reader objects wanted start) e ↔ Reaches (edges reader wanted) start e
  searched_reached e =
      order_reaches same_entry same_entry-exact same_entry-itself (edges reader wanted) objects (edges_within reader objects leads wanted) start
      (has_from same_entry same_entry-itself start objects among) e

  -- more steps change nothing
  pub steps_enough : (steps : ℕ) → length objects ≤ steps → order same_entry (edges reader wanted) steps start ≡ order_from reader objects wanted start
  steps_enough steps enough =
      sym (more_steps_change_nothing same_entry same_entry-exact same_entry-itself (edges reader wanted) objects (edges_within reader objects leads wanted)
      steps start (has_from same_entry same_entry-itself start objects among) enough)

-- what an import lists are the bindings of what is reached
pub import_is : (reader : Reader) (objects : List Found) → Leads reader objects → (wanted : Wanted) (name : List (List ℕ)) (bindings : List StringBinding)
    → import_list reader objects wanted name ≡ Ok bindings → IsImport reader wanted name bindings
import_is reader objects leads wanted name bindings is = by_object (object_at reader name) refl is
  where
    begun_at : (start : Found) → object_at reader name ≡ Ok start → imports_from reader objects wanted start ≡ bindings → IsImport reader wanted name bindings
    begun_at start at all =
        let among = leads name start (ap result_ok at) in record {
          start = start;
          begins = ap result_ok at;
          entries = order_from reader objects wanted.interface start;
          lists = sym all;
          exactly = searched_reached reader objects leads wanted.interface start among;
          once = searched_once reader objects wanted.interface start;
          ordered = (length objects, λ m enough. sym (steps_enough reader objects leads wanted.interface start among m enough));
        }

    by_object : (o : Result Found ImportFault) → object_at reader name ≡ o
        → result_map_both (imports_from reader objects wanted) (λ fault. fault) o ≡ Ok bindings → IsImport reader wanted name bindings
    by_object (Ok start) at d = let all : imports_from reader objects wanted start ≡ bindings = cc in begun_at start at all
    by_object (Err fault) at d = absurd cc
