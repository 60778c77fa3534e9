-- How a search goes on from the entries that were searched and the names that wait.
use Rattle.std.proofs.Common.{◌≡◌, ◌∙◌, ℕ, ◌<◌, Bool, true, false, List, [], ◌∷◌, ◌++◌, length, reverse, drop, sym, ap, ap₂}
use Rattle.std.specs.Prelude.{Option, Some, None, Result, Ok, Err, IfNone, slice_get, if◌then◌else◌}
use Rattle.std.specs.List.{cons_option, flat_map}
use Rattle.std.specs.Option.{option_to_list}
use Rattle.std.specs.Result.{result_ok}
use Rattle.std.proofs.lemmas.List.{reverse-append}
use Rattle.std.proofs.lemmas.List.Elements.{filter_map-append}
use Rattle.cds_stamps.specs.Firsts.{has}
use Rattle.tower_codec.specs.declared.binding.StringBinding.{StringBinding}
use Rattle.resolver.specs.declared.seen.Found.{Found}
use Rattle.resolver.specs.Readers.{Reader}
use Rattle.server_entries.specs.declared.client.Wanted.{Wanted}
use Rattle.ns_import.specs.declared.fault.ImportFault.{ImportFault}
use Rattle.ns_import.specs.DepthFirst.{behind_seen, depth_first}
use Rattle.ns_import.specs.Imports.{same_entry, object_at, object_of, edges, names_of, bindings_at}
use Rattle.ns_import.specs.Coming.{objects_of_names, to_come}
use Rattle.ns_import.proofs.Scans.{front_is_new, depth_first_ends}
use Rattle.ns_import.proofs.Steps.{unseen, unseen_falls_at_front, depth_first_goes_on}
use Rattle.ns_import.proofs.SameEntries.{same_entry-itself, same_entry-exact}
use Rattle.ns_import.proofs.Landing.{Leads, names_within, edges_within}

-- ---- a name is taken off

module _ (reader : Reader) (searched : List Found) (before after : List (List (List ℕ))) (name : List (List ℕ)) (popped : before ≡ after ++ name ∷ []) where
  -- what is left after the searched entries, by where the name leads
  left_by : (at : Result Found ImportFault) → object_at reader name ≡ at
      → behind_seen same_entry searched (cons_option (result_ok at) (objects_of_names reader (reverse after)))
      ≡ behind_seen same_entry searched (objects_of_names reader (reverse before))
  left_by at is =
      ap (λ r. behind_seen same_entry searched (cons_option (result_ok r) (objects_of_names reader (reverse after)))) (sym is)
      ∙ ap (λ (names : List (List (List ℕ))). behind_seen same_entry searched (objects_of_names reader names))
      (sym (ap reverse popped ∙ reverse-append after (name ∷ [])))

  -- where it leads to an object, by whether that was searched
  by_search : (entry : Found) (b : Bool) → has same_entry entry searched ≡ b
      → (if b then behind_seen same_entry searched (objects_of_names reader (reverse after)) else entry ∷ objects_of_names reader (reverse after))
      ≡ behind_seen same_entry searched (entry ∷ objects_of_names reader (reverse after))
  by_search entry b is =
      ap (λ t. if t then behind_seen same_entry searched (objects_of_names reader (reverse after)) else entry ∷ objects_of_names reader (reverse after)) (sym is)

  -- an object that was not searched is the next entry
  pub popped_new : (entry : Found) → object_at reader name ≡ Ok entry → has same_entry entry searched ≡ false
      → entry ∷ objects_of_names reader (reverse after) ≡ behind_seen same_entry searched (objects_of_names reader (reverse before))
  popped_new entry at new = by_search entry false new ∙ left_by (Ok entry) at

  -- one that was is passed over
  pub popped_old : (entry : Found) → object_at reader name ≡ Ok entry → has same_entry entry searched ≡ true
      → behind_seen same_entry searched (objects_of_names reader (reverse after)) ≡ behind_seen same_entry searched (objects_of_names reader (reverse before))
  popped_old entry at old = by_search entry true old ∙ left_by (Ok entry) at

  -- and so is a name that leads to none
  pub popped_none : (fault : ImportFault) → object_at reader name ≡ Err fault
      → behind_seen same_entry searched (objects_of_names reader (reverse after)) ≡ behind_seen same_entry searched (objects_of_names reader (reverse before))
  popped_none fault at = left_by (Err fault) at

-- ---- the next entry is searched

module _ (reader : Reader) (searched : List Found) (o : Option Found) (old new : List (List (List ℕ)))
    (next : option_to_list o ++ objects_of_names reader new ≡ behind_seen same_entry searched (objects_of_names reader old)) where
  module _ (entry : Found) (some : o ≡ Some entry) where
    in_front : behind_seen same_entry searched (objects_of_names reader old) ≡ entry ∷ objects_of_names reader new
    in_front = sym next ∙ ap (λ (p : Option Found). option_to_list p ++ objects_of_names reader new) some

    -- it was not searched
    pub entry_is_new : has same_entry entry searched ≡ false
    entry_is_new = front_is_new same_entry searched (objects_of_names reader old) entry (objects_of_names reader new) in_front

    module _ (objects : List Found) (leads : Leads reader objects) where
      -- with it, fewer objects are left
      pub fewer_unseen : unseen same_entry objects (searched ++ entry ∷ []) < unseen same_entry objects searched
      fewer_unseen =
          unseen_falls_at_front same_entry same_entry-exact same_entry-itself objects searched (objects_of_names reader old) entry (objects_of_names reader new)
          (names_within reader objects leads old) in_front

      -- its bindings come first, and then those of its edges and of what waits
      to_come-entry : (wanted : Wanted) → to_come reader objects wanted searched old
          ≡ bindings_at reader wanted entry ++ to_come reader objects wanted (searched ++ entry ∷ []) (names_of reader wanted.interface entry ++ new)
      to_come-entry wanted =
          ap (flat_map (bindings_at reader wanted))
          (depth_first_goes_on same_entry same_entry-exact same_entry-itself (edges reader wanted.interface) objects
          (edges_within reader objects leads wanted.interface) searched (objects_of_names reader old) entry (objects_of_names reader new)
          (names_within reader objects leads old) in_front)
          ∙ ap (λ (rest : List Found). bindings_at reader wanted entry ++ flat_map (bindings_at reader wanted)
          (depth_first same_entry (edges reader wanted.interface) (length objects) (searched ++ entry ∷ []) rest))
          (sym (filter_map-append (object_of reader) (names_of reader wanted.interface entry) new))

      -- so what is to come stays, where the bindings that were ready had been given
      pub coming_stays : (wanted : Wanted) (given ready : List StringBinding) (after : List Found) (names : List (List (List ℕ))) → given ≡ []
          → ready ≡ bindings_at reader wanted entry → after ≡ searched ++ entry ∷ [] → names ≡ names_of reader wanted.interface entry ++ new
          → ready ++ to_come reader objects wanted after names ≡ reverse given ++ to_come reader objects wanted searched old
      coming_stays wanted given ready after names none r s n =
          ap₂ (λ (front back : List StringBinding). front ++ back) r (ap₂ (to_come reader objects wanted) s n)
          ∙ sym (to_come-entry wanted) ∙ ap (λ (front : List StringBinding). reverse front ++ to_come reader objects wanted searched old) (sym none)

-- ---- no entry is left

module _ (reader : Reader) (objects : List Found) (wanted : Wanted) (searched : List Found) where
  nothing_comes : (given : List StringBinding) (names : List (List (List ℕ))) → given ≡ [] → behind_seen same_entry searched (objects_of_names reader names) ≡ []
      → reverse given ++ to_come reader objects wanted searched names ≡ []
  nothing_comes given names none ends =
      ap₂ (λ (front back : List StringBinding). reverse front ++ back) none
      (ap (flat_map (bindings_at reader wanted))
      (depth_first_ends same_entry (edges reader wanted.interface) (length objects) searched (objects_of_names reader names) ends))

  -- the end is told, and stays
  pub at_the_end : (o : Option Found) (old new : List (List (List ℕ))) → option_to_list o ++ objects_of_names reader (reverse new)
      ≡ behind_seen same_entry searched (objects_of_names reader (reverse old)) → IfNone o (new ≡ []) → o ≡ None
      → (given after all : List StringBinding) → given ≡ [] → after ≡ [] → reverse given ++ to_come reader objects wanted searched (reverse old) ≡ all
      → (None ≡ slice_get all 0) × (reverse after ++ to_come reader objects wanted searched (reverse new) ≡ drop 1 all)
  at_the_end (Some entry) old new next empty none given after all g a is = absurd cc
  at_the_end None old new next empty none given after all g a is =
      let rest : objects_of_names reader (reverse new) ≡ [] = ap (λ (names : List (List (List ℕ))). objects_of_names reader (reverse names)) empty in
      let all_given : [] ≡ all = sym (nothing_comes given (reverse old) g (sym next ∙ rest)) ∙ is in (
        ap (λ (l : List StringBinding). slice_get l 0) all_given,
        nothing_comes after (reverse new) a (ap (behind_seen same_entry searched) rest) ∙ ap (drop 1) all_given,
      )
