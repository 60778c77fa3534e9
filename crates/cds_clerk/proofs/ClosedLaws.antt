-- Imports over readers that agree with what was heard are one, if the search is closed.
use Rattle.std.proofs.Common.{◌≡◌, ℕ, zero, suc, ◌+◌, Bool, true, false, cond, not, List, [], ◌∷◌, ◌++◌, length, filter, refl, sym, ap, ap₂, subst, ◌∙◌, inl, inr, ⊎_elim, arith}
use Rattle.std.specs.Prelude.{Option, Some, None, Result, Ok, Err, IfSome}
use Rattle.std.specs.List.{Contains, cons_option, filter_map, flat_map}
use Rattle.std.specs.List.Sorted.{IsStrictlySortedBy}
use Rattle.std.specs.Result.{result_map_both, result_ok}
use Rattle.cds_stamps.proofs.ListMembers.{Contains-cases, Contains-head, Contains-none, Contains-tail}
use Rattle.cds_stamps.specs.Firsts.{firsts, has}
use Rattle.cds_stamps.specs.Octets.{octets_cmp}
use Rattle.resolver.specs.declared.seen.Found.{Found}
use Rattle.resolver.specs.declared.walk.End.{End}
use Rattle.resolver.specs.Readers.{Reader, ShowsOnly}
use Rattle.resolver.specs.Walks.{found_of}
use Rattle.server_entries.specs.declared.client.Wanted.{Wanted}
use Rattle.server_entries.specs.Clients.{entry_bindings}
use Rattle.server_entries.specs.Exports.{object_attribute, tower_attribute}
use Rattle.ns_groups.specs.Groups.{group, members_of}
use Rattle.ns_profiles.specs.Profiles.{profile, search_order}
use Rattle.ns_import.specs.declared.fault.ImportFault.{ImportFault}
use Rattle.ns_import.specs.Imports.{bindings_at, edges, import_list, imports_from, names_of, object_at, object_of, object_walked, order_from, same_entry}
use Rattle.ns_import.specs.Orders.{Reaches, here, there, unfold_paths}
use Rattle.ns_import.proofs.Importing.{searched_reached, steps_enough}
use Rattle.ns_import.proofs.Landing.{shown_lead}
use Rattle.ns_commands.specs.Imported.{bindings_told, import_answer}
use Rattle.cds_clerk.specs.declared.heard.Heard.{Heard}
use Rattle.cds_clerk.specs.Agreements.{Agrees}
use Rattle.cds_clerk.specs.Readings.{least_reader}
use Rattle.cds_clerk.specs.Searches.{IsClosed, IsFollowed, IsSettled, object_in}
use Rattle.cds_clerk.proofs.HeardLaws.{end_is, least_agrees, values_alike}

pub none_ascend : IsStrictlySortedBy octets_cmp []
unfolding IsStrictlySortedBy
none_ascend = tt

-- ---- lists

filter_same : {A B : Type 0} (f g : A → Option B) (xs : List A) → ((x : A) → Contains xs x → f x ≡ g x) → filter_map f xs ≡ filter_map g xs
filter_same f g [] same = refl
filter_same f g (x ∷ xs) same =
    ap₂ (λ (o : Option _) (rest : List _). cons_option o rest) (same x (Contains-head x xs)) (filter_same f g xs (λ y c. same y (Contains-tail x xs y c)))

pub filter_from : {A B : Type 0} (f : A → Option B) (xs : List A) (y : B) → Contains (filter_map f xs) y → (x : A) × Contains xs x × (f x ≡ Some y)
filter_from f [] y c = absurd (Contains-none y c)
filter_from {A} {B} f (x ∷ xs) y c = by_found (f x) refl (filter_from f xs y) c
  where
    later : ((z : A) × Contains xs z × (f z ≡ Some y)) → (z : A) × Contains (x ∷ xs) z × (f z ≡ Some y)
    later found = (found.0, Contains-tail x xs found.0 found.1, found.2)

    by_found : (o : Option B) → f x ≡ o → (Contains (filter_map f xs) y → (z : A) × Contains xs z × (f z ≡ Some y))
        → Contains (cons_option o (filter_map f xs)) y → (z : A) × Contains (x ∷ xs) z × (f z ≡ Some y)
    by_found None is on c = later (on c)
    by_found (Some b) is on c =
        ⊎_elim (λ same. (x, Contains-head x xs, is ∙ ap Some same)) (λ rest. later (on rest)) (Contains-cases b (filter_map f xs) y c)

flat_same : {A B : Type 0} (f g : A → List B) (xs : List A) → ((x : A) → Contains xs x → f x ≡ g x) → flat_map f xs ≡ flat_map g xs
flat_same f g [] same = refl
flat_same f g (x ∷ xs) same =
    ap₂ (λ (front back : List _). front ++ back) (same x (Contains-head x xs)) (flat_same f g xs (λ y c. same y (Contains-tail x xs y c)))

-- what is made of items that are kept
kept_same : {A B : Type 0} (keeps : A → Bool) (f g : A → List B) (xs : List A) → ((x : A) → Contains xs x → f x ≡ g x)
    → flat_map f (filter keeps xs) ≡ flat_map g (filter keeps xs)
kept_same keeps f g [] same = refl
kept_same {A} {B} keeps f g (x ∷ xs) same = by_test (keeps x) (kept_same keeps f g xs (λ y c. same y (Contains-tail x xs y c)))
  where
    by_test : (t : Bool) → flat_map f (filter keeps xs) ≡ flat_map g (filter keeps xs)
        → flat_map f (cond t (x ∷ filter keeps xs) (filter keeps xs)) ≡ flat_map g (cond t (x ∷ filter keeps xs) (filter keeps xs))
    by_test true rest = ap₂ (λ (front back : List B). front ++ back) (same x (Contains-head x xs)) rest
    by_test false rest = rest

-- ---- paths in a closed set

module _ {A : Type 0} (same : A → A → Bool) (P : A → Type 0) (f g : A → List A) (inside : (x y : A) → P x → Contains (f x) y → P y)
    (alike : (x : A) → P x → f x ≡ g x) where
  pub paths_same : (steps : ℕ) (path : List A) (e : A) → P e → unfold_paths same f steps path e ≡ unfold_paths same g steps path e
  paths_same zero path e its = refl
  paths_same (suc k) path e its =
      ap (λ (rest : List A). e ∷ rest)
      (kept_same (λ x. not (has same x (path ++ e ∷ []))) (λ x. unfold_paths same f k (path ++ e ∷ []) x) (λ x. unfold_paths same g k (path ++ e ∷ []) x) (f e)
      (λ x c. paths_same k (path ++ e ∷ []) x (inside e x its c))
      ∙ ap (λ (es : List A). flat_map (λ x. unfold_paths same g k (path ++ e ∷ []) x) (filter (λ x. not (has same x (path ++ e ∷ []))) es)) (alike e its))

  pub reached_inside : (e x : A) → P e → Reaches f e x → P x
  reached_inside e x its (here y) = its
  reached_inside e x its (there d y z c rest) = reached_inside y z (inside d y its c) rest

-- ---- a closed search

module _ (h : Heard) (wanted : Wanted) (name : List (List ℕ)) (entries : List Found) (closed : IsClosed h wanted.interface name entries) where
  settled : (n : List (List ℕ)) → IsFollowed h entries [] [] n → IsSettled h entries n
  settled n (inl c) = absurd (Contains-none n c)
  settled n (inr (inl s)) = s
  settled n (inr (inr w)) = absurd (Contains-none w.lack w.among)

  module _ (r : Reader) (agrees : Agrees r h) where
    -- a name that is settled leads to one object by both
    object_same : (n : List (List ℕ)) → IsSettled h entries n → object_of r n ≡ object_of (least_reader h) n
    object_same n s = ap object_in (end_is r true n s.end (s.walked r agrees) ∙ sym (end_is (least_reader h) true n s.end (s.walked (least_reader h) (least_agrees h))))

    -- an entry has the same values by both
    values_same : (e : Found) (a : List ℕ) → Contains entries e → r.values e a ≡ (least_reader h).values e a
    values_same e a c = values_alike h r agrees e a (closed.shown e c)

    names_same : (e : Found) → Contains entries e → names_of r wanted.interface e ≡ names_of (least_reader h) wanted.interface e
    names_same e c =
        ap₂ (λ (g p : List (List ℕ)). members_of g ++ search_order wanted.interface p) (values_same e group c) (values_same e profile c)

    bindings_same : (e : Found) → Contains entries e → bindings_at r wanted e ≡ bindings_at (least_reader h) wanted e
    bindings_same e c = ap₂ (λ (t o : List (List ℕ)). entry_bindings wanted t o) (values_same e tower_attribute c) (values_same e object_attribute c)

    edges_same : (e : Found) → Contains entries e → edges r wanted.interface e ≡ edges (least_reader h) wanted.interface e
    edges_same e c =
        ap (filter_map (object_of r)) (names_same e c)
        ∙ filter_same (object_of r) (object_of (least_reader h)) (names_of (least_reader h) wanted.interface e)
        (λ n among. object_same n (settled n (closed.goes_on e n c among)))

  -- what a name that is settled leads to is one of the entries
  lands_inside : (n : List (List ℕ)) (f : Found) → IsSettled h entries n → object_of (least_reader h) n ≡ Some f → Contains entries f
  lands_inside n f s is =
      let ended : object_in s.end ≡ Some f = ap object_in (sym (end_is (least_reader h) true n s.end (s.walked (least_reader h) (least_agrees h)))) ∙ is in
      subst (λ (o : Option Found). IfSome o (Contains entries)) ended s.among

  edges_inside : (e f : Found) → Contains entries e → Contains (edges (least_reader h) wanted.interface e) f → Contains entries f
  edges_inside e f c among =
      let found = filter_from (object_of (least_reader h)) (names_of (least_reader h) wanted.interface e) f among in
      lands_inside found.0 f (settled found.0 (closed.goes_on e found.0 c found.1)) found.2

  module _ (r : Reader) (agrees : Agrees r h) (objects mine : List Found) (shows : ShowsOnly r objects) (shows_mine : ShowsOnly (least_reader h) mine) where
    -- the order from an entry of the search is the same by both
    order_alike : (start : Found) → Contains entries start → object_of r name ≡ Some start → object_of (least_reader h) name ≡ Some start
        → order_from r objects wanted.interface start ≡ order_from (least_reader h) mine wanted.interface start
    order_alike start its leads leads_mine =
        let steps : ℕ = length objects + length mine in
        let all = shown_lead r objects shows in
        let all_mine = shown_lead (least_reader h) mine shows_mine in
        sym (steps_enough r objects all wanted.interface start (all name start leads) steps (omega arith))
        ∙ sym (ap (firsts same_entry []) (paths_same same_entry (Contains entries) (edges (least_reader h) wanted.interface) (edges r wanted.interface)
        edges_inside (λ e c. sym (edges_same r agrees e c)) steps [] start its))
        ∙ steps_enough (least_reader h) mine all_mine wanted.interface start (all_mine name start leads_mine) steps (omega arith)

    imports_alike : (start : Found) → Contains entries start → object_of r name ≡ Some start → object_of (least_reader h) name ≡ Some start
        → imports_from r objects wanted start ≡ imports_from (least_reader h) mine wanted start
    imports_alike start its leads leads_mine =
        let all_mine = shown_lead (least_reader h) mine shows_mine in
        ap (flat_map (bindings_at r wanted)) (order_alike start its leads leads_mine)
        ∙ flat_same (bindings_at r wanted) (bindings_at (least_reader h) wanted) (order_from (least_reader h) mine wanted.interface start)
        (λ e c. bindings_same r agrees e (reached_inside same_entry (Contains entries) (edges (least_reader h) wanted.interface) (edges (least_reader h) wanted.interface)
        edges_inside (λ x d. refl) start e its
        ((searched_reached (least_reader h) mine all_mine wanted.interface start (all_mine name start leads_mine) e).0 c)))

    -- the object of the first name is the same by both
    object_at_same : object_at r name ≡ object_at (least_reader h) name
    object_at_same =
        let s = settled name closed.begins in
        ap (λ (e : End). object_walked (found_of e)) (end_is r true name s.end (s.walked r agrees)
        ∙ sym (end_is (least_reader h) true name s.end (s.walked (least_reader h) (least_agrees h))))

    lists_alike : (o : Result Found ImportFault) → object_at (least_reader h) name ≡ o
        → result_map_both (imports_from r objects wanted) (λ fault. fault) o ≡ result_map_both (imports_from (least_reader h) mine wanted) (λ fault. fault) o
    lists_alike (Err why) is = refl
    lists_alike (Ok start) is =
        let leads_mine : object_of (least_reader h) name ≡ Some start = ap result_ok is in
        let leads : object_of r name ≡ Some start = ap result_ok (object_at_same ∙ is) in
        ap Ok (imports_alike start (lands_inside name start (settled name closed.begins) leads_mine) leads leads_mine)

    -- an import lists the same by both
    pub imports_listed : import_list (least_reader h) mine wanted name ≡ import_list r objects wanted name
    imports_listed =
        sym (ap (result_map_both (imports_from r objects wanted) (λ fault. fault)) object_at_same
        ∙ lists_alike (object_at (least_reader h) name) refl)

    -- and answers the same
    pub answers_alike : import_answer (least_reader h) mine wanted name ≡ import_answer r objects wanted name
    answers_alike = ap bindings_told imports_listed
