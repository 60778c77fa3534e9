-- The members of a group are the full names among its values, and accepted updates change them as
-- they say.
use Rattle.std.proofs.Common.{◌≡◌, ◌≢◌, ◌↔◌, ◌⊎◌, inl, inr, ⊎_elim, ℕ, Bool, true, false, List, [], ◌∷◌, ◌++◌, map}
use Rattle.std.proofs.Common.{Option, Some, None, refl, sym, ap, subst, ◌∙◌}
use Rattle.std.specs.Prelude.{filter, is_none, if◌then◌else◌}
use Rattle.std.specs.Cmp.{eq_by_cmp_equiv}
use Rattle.std.specs.Cmp.Lexicographic.{nat_list_cmp_total}
use Rattle.std.specs.List.{Contains, list_any}
use Rattle.std.specs.List.Sorted.{IsStrictlySortedBy}
use Rattle.std.specs.Option.{IsSomeAnd}
use Rattle.std.proofs.lemmas.List.Kept.{IsStrictlySortedBy-filter}
use Rattle.std.proofs.lemmas.List.Elements.{All-weaker, All-contains_itself, All-contains}
use Rattle.std.proofs.lemmas.Map.Views.{list_any-from_Contains, Contains-from_any}
use Rattle.cds_stamps.proofs.ListMembers.{Contains-head, Contains-tail, Contains-map, map-Contains, Contains-filter, filter-Contains}
use Rattle.cds_stamps.proofs.AscendingLaws.{one_order, ascending-rises, ascending-has, ascending-had, ascending-kept}
use Rattle.cds_stamps.specs.Keyed.{ties_are_equal}
use Rattle.cds_stamps.specs.Octets.{octets_cmp, octets_exact, is_octets}
use Rattle.cds_stamps.specs.Ascending.{in_ascending_order}
use Rattle.cds_stamps.specs.declared.stamp.Stamp.{Stamp}
use Rattle.cell_names.specs.FullNames.{full_name_octets, components_of, name_fault, is_full_name, IsComponentList, IsFullName}
use Rattle.cell_names.proofs.FullNameLaws.{name_fault-none, name_fault-spelling, components_of-spelling, spelling-components}
use Rattle.directory.specs.Histories.{Mark, IsBefore}
use Rattle.directory.specs.Updates.{Add, Remove}
use Rattle.directory.specs.Shown.{Shown, shown_of_name, marks_of, ChangesValues}
use Rattle.directory.proofs.ChangeLaws.{shown-add, shown-remove}
use Rattle.ns_groups.specs.Groups.{group, member_fault, members_of, IsMembers, delete_fault}
use Rattle.ns_groups.specs.declared.member.GroupFault.{GroupFault}

-- ---- faults

no_fault_if : {E : Type 0} (b : Bool) (f : E) → ((if b then None else Some f) ≡ None) ↔ (b ≡ true)
no_fault_if true f = (λ _. refl, λ _. refl)
no_fault_if false f = (λ e. cc (e), λ e. cc (e))

none_if : {E : Type 0} (x : Option E) → (is_none x ≡ true) ↔ (x ≡ None)
none_if None = (λ _. refl, λ _. refl)
none_if (Some x) = (λ e. cc (e), λ e. cc (e))

-- no fault is found exactly in full names
pub member_fault-none : (octets : List ℕ) → (member_fault octets ≡ None) ↔ IsFullName octets
member_fault-none octets =
    let test = no_fault_if {E = GroupFault} (is_full_name octets) _ in
    let fault = none_if (name_fault octets) in
    let name = name_fault-none octets in
    (λ e. name.0 (fault.0 (test.0 e)), λ full. test.1 (fault.1 (name.1 full)))

-- ---- octets among others

-- octets are among these
abbrev has : List ℕ → List (List ℕ) → Bool
has o = list_any (is_octets o)

has_from : (o : List ℕ) (all : List (List ℕ)) → Contains all o → has o all ≡ true
has_from o all c = list_any-from_Contains (eq_by_cmp_equiv nat_list_cmp_total) o all c

among : (o : List ℕ) (all : List (List ℕ)) → has o all ≡ true → Contains all o
among o all e = Contains-from_any (ties_are_equal octets_exact) o all e

-- ---- names and their octets

spelled_back : (octets : List ℕ) → is_full_name octets ≡ true → IsComponentList (components_of octets) × (octets ≡ full_name_octets (components_of octets))
spelled_back octets full = spelling-components octets ((none_if (name_fault octets)).0 full)

is_full : (member : List (List ℕ)) → IsComponentList member → is_full_name (full_name_octets member) ≡ true
is_full member lawful = ap is_none (name_fault-spelling member lawful)

one_spelling : (a b : List (List ℕ)) → IsComponentList a → IsComponentList b → full_name_octets a ≡ full_name_octets b → a ≡ b
one_spelling a b p q e = sym (components_of-spelling a p) ∙ ap components_of e ∙ components_of-spelling b q

names_back : (octets : List (List ℕ)) → ((o : List ℕ) → Contains octets o → is_full_name o ≡ true) → map full_name_octets (map components_of octets) ≡ octets
names_back [] full = refl
names_back (o ∷ os) full =
    let first = sym (spelled_back o (full o (Contains-head o os))).1 in
    let later = names_back os (λ p c. full p (Contains-tail o os p c)) in
    cc (first, later)

octets_back : (names : List (List (List ℕ))) → ((m : List (List ℕ)) → Contains names m → IsComponentList m) → map components_of (map full_name_octets names) ≡ names
octets_back [] lawful = refl
octets_back (m ∷ ms) lawful =
    let first = components_of-spelling m (lawful m (Contains-head m ms)) in
    let later = octets_back ms (λ p c. lawful p (Contains-tail m ms p c)) in
    cc (first, later)

-- ---- the members

module _ (values : List (List ℕ)) where
  once_from : (o : List ℕ) → Contains (in_ascending_order (filter is_full_name values)) o → (is_full_name o ≡ true) × Contains values o
  once_from o c = let p = filter-Contains is_full_name values o (ascending-had (filter is_full_name values) o c) in (p.1, p.0)

  once_to : (o : List ℕ) → is_full_name o ≡ true → Contains values o → Contains (in_ascending_order (filter is_full_name values)) o
  once_to o full c = ascending-has (filter is_full_name values) o (Contains-filter is_full_name values o c full)

  spelled_once : map full_name_octets (members_of values) ≡ in_ascending_order (filter is_full_name values)
  spelled_once = names_back (in_ascending_order (filter is_full_name values)) (λ o c. (once_from o c).0)

  member_lawful : (m : List (List ℕ)) → Contains (members_of values) m → IsComponentList m
  member_lawful m c =
      let from = map-Contains components_of (in_ascending_order (filter is_full_name values)) m c in
      subst IsComponentList from.2 (spelled_back from.0 (once_from from.0 from.1).0).0

  -- a member is a full name whose octets are a value
  pub member_from : (m : List (List ℕ)) → Contains (members_of values) m → IsComponentList m × Contains values (full_name_octets m)
  member_from m c =
      let at : Contains (in_ascending_order (filter is_full_name values)) (full_name_octets m) =
      subst (λ (os : List (List ℕ)). Contains os (full_name_octets m)) spelled_once (Contains-map full_name_octets (members_of values) m c) in
      (member_lawful m c, (once_from (full_name_octets m) at).1)

  -- and such a name is a member
  pub member_to : (m : List (List ℕ)) → IsComponentList m → Contains values (full_name_octets m) → Contains (members_of values) m
  member_to m lawful c =
      subst (Contains (members_of values)) (components_of-spelling m lawful)
      (Contains-map components_of (in_ascending_order (filter is_full_name values)) (full_name_octets m) (once_to (full_name_octets m) (is_full m lawful) c))

  members : IsMembers values (members_of values)
  members = record {
    lawful = All-weaker (Contains (members_of values)) IsComponentList member_lawful (members_of values) (All-contains_itself (members_of values));
    rising = subst (IsStrictlySortedBy octets_cmp) (sym spelled_once) (ascending-rises (filter is_full_name values));
    exactly = λ m lawful. (λ c. (member_from m c).1, member_to m lawful);
  }

  module _ (names : List (List (List ℕ))) (are : IsMembers values names) where
    each_lawful : (m : List (List ℕ)) → Contains names m → IsComponentList m
    each_lawful m c = All-contains IsComponentList names m are.lawful c

    spelled_from : (o : List ℕ) → Contains (map full_name_octets names) o → Contains (in_ascending_order (filter is_full_name values)) o
    spelled_from o c =
        let from = map-Contains full_name_octets names o c in
        let lawful = each_lawful from.0 from.1 in
        subst (Contains (in_ascending_order (filter is_full_name values))) from.2
        (once_to (full_name_octets from.0) (is_full from.0 lawful) ((are.exactly from.0 lawful).0 from.1))

    spelled_to : (o : List ℕ) → Contains (in_ascending_order (filter is_full_name values)) o → Contains (map full_name_octets names) o
    spelled_to o c =
        let from = once_from o c in
        let back = spelled_back o from.0 in
        let there = (are.exactly (components_of o) back.0).1 (subst (Contains values) back.1 from.1) in
        subst (Contains (map full_name_octets names)) (sym back.1) (Contains-map full_name_octets names (components_of o) there)

    same_spelled : map full_name_octets names ≡ in_ascending_order (filter is_full_name values)
    same_spelled =
        one_order (map full_name_octets names) (in_ascending_order (filter is_full_name values)) are.rising (ascending-rises (filter is_full_name values))
        spelled_from spelled_to

    only_list : names ≡ members_of values
    only_list = sym (octets_back names each_lawful) ∙ ap (map components_of) same_spelled

  -- there is one list of the members
  pub members-one : (names : List (List (List ℕ))) → IsMembers values names ↔ (names ≡ members_of values)
  members-one names = (only_list names, λ e. subst (IsMembers values) (sym e) members)

  -- of values that ascend the members keep the order
  pub members-rising : IsStrictlySortedBy octets_cmp values → members_of values ≡ map components_of (filter is_full_name values)
  members-rising rises = ap (map components_of) (ascending-kept (filter is_full_name values) (IsStrictlySortedBy-filter octets_cmp is_full_name values rises))

  -- exactly the members can be deleted
  pub delete_fault-none : (m : List (List ℕ)) → IsComponentList m → (delete_fault values m ≡ None) ↔ Contains (members_of values) m
  delete_fault-none m lawful =
      let test = no_fault_if {E = GroupFault} (has (full_name_octets m) values) _ in
      (λ e. member_to m lawful (among (full_name_octets m) values (test.0 e)), λ c. test.1 (has_from (full_name_octets m) values (member_from m c).1))

-- ---- accepted updates

if_some_and : {X : Type 0} (P Q : X → Type 0) → ((x : X) → P x → Q x) → (o : Option X) → IsSomeAnd o P → IsSomeAnd o Q
if_some_and P Q more None h = h
if_some_and P Q more (Some x) h = more x h

-- where the values are changed by one that is added or removed, so are the members
member_added : (old new : List (List ℕ)) (m : List (List ℕ)) → IsComponentList m → ((w : List ℕ) → Contains new w ↔ ((w ≡ full_name_octets m) ⊎ Contains old w))
    → (other : List (List ℕ)) → Contains (members_of new) other ↔ ((other ≡ m) ⊎ Contains (members_of old) other)
member_added old new m lawful changed other = (from, to)
  where
    from : Contains (members_of new) other → (other ≡ m) ⊎ Contains (members_of old) other
    from c =
        let is = member_from new other c in
        ⊎_elim (λ e. inl (one_spelling other m is.0 lawful e)) (λ there. inr (member_to old other is.0 there)) ((changed (full_name_octets other)).0 is.1)

    to : (other ≡ m) ⊎ Contains (members_of old) other → Contains (members_of new) other
    to = ⊎_elim (λ e. subst (Contains (members_of new)) (sym e) (member_to new m lawful ((changed (full_name_octets m)).1 (inl refl))))
        (λ c. let is = member_from old other c in member_to new other is.0 ((changed (full_name_octets other)).1 (inr is.1)))

member_removed : (old new : List (List ℕ)) (m : List (List ℕ)) → IsComponentList m → ((w : List ℕ) → Contains new w ↔ ((w ≢ full_name_octets m) × Contains old w))
    → (other : List (List ℕ)) → Contains (members_of new) other ↔ ((other ≢ m) × Contains (members_of old) other)
member_removed old new m lawful changed other = (from, to)
  where
    from : Contains (members_of new) other → (other ≢ m) × Contains (members_of old) other
    from c =
        let is = member_from new other c in
        let left = (changed (full_name_octets other)).0 is.1 in
        (λ e. left.0 (ap full_name_octets e), member_to old other is.0 left.1)

    to : (other ≢ m) × Contains (members_of old) other → Contains (members_of new) other
    to left =
        let is = member_from old other left.1 in
        member_to new other is.0 ((changed (full_name_octets other)).1 (λ e. left.0 (one_spelling other m is.0 lawful e), is.1))

-- an accepted addition leaves the members that were there and the new one
pub members-added : (h : List Mark) (n : List ℕ) (e : Shown) (s : Stamp) (member : List (List ℕ)) → shown_of_name h n ≡ Some e → IsBefore h s → IsComponentList member
    → IsSomeAnd (shown_of_name (h ++ marks_of (shown_of_name h n) (Add n group (full_name_octets member)) s) n)
    (λ f. (other : List (List ℕ)) → Contains (members_of (f.values group)) other ↔ ((other ≡ member) ⊎ Contains (members_of (e.values group)) other))
members-added h n e s member is before lawful =
    if_some_and (ChangesValues e group (λ w. (w ≡ full_name_octets member) ⊎ Contains (e.values group) w)) _
    (λ f changes. member_added (e.values group) (f.values group) member lawful changes.changed) _
    (shown-add h n e is s group (full_name_octets member) before refl)

-- an accepted removal leaves the others
pub members-removed : (h : List Mark) (n : List ℕ) (e : Shown) (s : Stamp) (member : List (List ℕ)) → shown_of_name h n ≡ Some e → IsBefore h s → IsComponentList member
    → IsSomeAnd (shown_of_name (h ++ marks_of (shown_of_name h n) (Remove n group (full_name_octets member)) s) n)
    (λ f. (other : List (List ℕ)) → Contains (members_of (f.values group)) other ↔ ((other ≢ member) × Contains (members_of (e.values group)) other))
members-removed h n e s member is before lawful =
    if_some_and (ChangesValues e group (λ w. (w ≢ full_name_octets member) × Contains (e.values group) w)) _
    (λ f changes. member_removed (e.values group) (f.values group) member lawful changes.changed) _
    (shown-remove h n e is s group (full_name_octets member) before refl)
