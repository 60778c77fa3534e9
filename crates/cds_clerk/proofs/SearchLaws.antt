-- Searches over what was heard, name by name.
use Rattle.std.proofs.Common.{◌≡◌, ℕ, Bool, true, false, List, [], ◌∷◌, ◌++◌, refl, sym, ap, ap₂, subst, ◌∙◌, inl, inr, ◌⊎◌, ⊎_elim}
use Rattle.std.specs.Prelude.{Option, Some, None, Result, Ok, Err, IfSome, OnOk, nat_eq, ◌≢◌, ◌||◌, ◌&&◌, ◌==◌, if◌then◌else◌}
use Rattle.std.specs.List.{All, AllByRecursion, Contains, IsDistinct, cons_option, filter_map, list_any}
use Rattle.std.specs.Cmp.Lexicographic.{pointwise}
use Rattle.std.specs.Result.{result_ok}
use Rattle.std.proofs.lemmas.Bool.{and_parts}
use Rattle.std.proofs.lemmas.List.Elements.{All-nil, All-push, Contains-append_cases, Contains-append_left, Contains-append_right}
use Rattle.cds_stamps.proofs.ListMembers.{Contains-cases, Contains-head, Contains-none, Contains-tail}
use Rattle.tower_codec.specs.declared.rpc.Interface.{Interface}
use Rattle.cell_names.specs.ChildPointers.{Pointer}
use Rattle.directory.specs.declared.entry.Kind.{Kind}
use Rattle.directory.specs.declared.entry.Kind.TheVariants as kind
use Rattle.resolver.specs.declared.seen.Found.{Found}
use Rattle.resolver.specs.declared.walk.End.{End}
use Rattle.resolver.specs.declared.walk.End.TheVariants as ends
use Rattle.resolver.specs.PassWords.{first_walker}
use Rattle.resolver.specs.Readers.{Reader}
use Rattle.resolver.specs.Walks.{Ends}
use Rattle.ns_groups.specs.Groups.{group, members_of}
use Rattle.ns_profiles.specs.Profiles.{profile, search_order}
use Rattle.ns_import.specs.Imports.{edges, names_of, object_of, of_kind}
use Rattle.ns_import.specs.Orders.{Reaches, here, there}
use Rattle.cds_clerk.specs.declared.heard.Heard.{Heard}
use Rattle.cds_clerk.specs.declared.heard.Lack.{Lack}
use Rattle.cds_clerk.specs.declared.searching.Searched.{Searched}
use Rattle.cds_clerk.specs.declared.searching.Searched.TheVariants as searched
use Rattle.cds_clerk.specs.Agreements.{Agrees, IsNeeded}
use Rattle.cds_clerk.specs.Heards.{IsUnheard, heard_root}
use Rattle.cds_clerk.specs.HeardProofs.{same_name, same_number}
use Rattle.cds_clerk.specs.Readings.{IfFound, IsShown, least_reader}
use Rattle.cds_clerk.specs.Searches.{AreAll, AreAsked, AreReached, IfClosed, IsAhead, IsClosed, IsFollowed, IsKnown, IsReached, IsSearch, IsSettled, IsSought, IsUnderWay, IsVisited, IsWaiting, Settles, begins, goes_on, object_in, same_lack, with_lack}
use Rattle.cds_clerk.proofs.HeardLaws.{end_is, values_alike}

-- objects of one directory, house and name are one
pub same_object : (a b : Found) → a.kind ≡ kind.Object → b.kind ≡ kind.Object → a.dir ≡ b.dir → a.house ≡ b.house → a.name ≡ b.name → a ≡ b
same_object a b k l d h n =
    let kinds : a.kind ≡ b.kind = k ∙ sym l in λ i. record { dir = d i; house = h i; name = n i; kind = kinds i }

-- the item of a list of one
only_of : {A : Type 0} (x y : A) → Contains (x ∷ []) y → y ≡ x
only_of x y c = ⊎_elim (λ same. sym same) (λ no. absurd (Contains-none y no)) (Contains-cases x [] y c)

-- what follows of two clauses of a call that answers
pub on_ok_both : {T E : Type 0} {P Q R : Type 0} (result : Result T E) → (P → Q → R) → OnOk result P → OnOk result Q → OnOk result R
on_ok_both (Ok t) both p q = both p q
on_ok_both (Err e) both p q = tt

-- what is known of a search that is closed
pub if_closed : {T : Type 0} (s : Searched T) (x : T) (P : T → Type 0) → s ≡ searched.Closed x → IfClosed s P → P x
if_closed {T} s x P is known = subst (λ (t : Searched T). IfClosed t P) is known

-- an object that is found was shown
pub object_shown : (h : Heard) (e : End) → IfFound e (IsShown h) → IfSome (object_in e) (IsShown h)
object_shown h (ends.Found f) shown = by_kind f.kind
  where
    by_kind : (k : Kind) → IfSome (result_ok (of_kind k f)) (IsShown h)
    by_kind kind.Object = shown
    by_kind kind.Link = tt
    by_kind kind.Child = tt
object_shown h (ends.Missing place done) shown = tt
object_shown h (ends.Refused why) shown = tt

-- ---- lists

-- what is made of an item is in what is made of the list
pub Contains-filter_map : {A B : Type 0} (f : A → Option B) (xs : List A) (x : A) (y : B) → Contains xs x → f x ≡ Some y → Contains (filter_map f xs) y
Contains-filter_map f [] x y c is = absurd (Contains-none x c)
Contains-filter_map {A} {B} f (z ∷ zs) x y c is = ⊎_elim first (λ rest. later (f z) (Contains-filter_map f zs x y rest is)) (Contains-cases z zs x c)
  where
    first : z ≡ x → Contains (filter_map f (z ∷ zs)) y
    first same = subst (λ (o : Option B). Contains (cons_option o (filter_map f zs)) y) (sym (ap f same ∙ is)) (Contains-head y (filter_map f zs))

    later : (o : Option B) → Contains (filter_map f zs) y → Contains (cons_option o (filter_map f zs)) y
    later None found = found
    later (Some b) found = Contains-tail b (filter_map f zs) y found

-- what is reached goes on along one more edge
reaches_more : {A : Type 0} (edges : A → List A) (e x f : A) → Reaches edges e x → Contains (edges x) f → Reaches edges e f
reaches_more edges e x f (here y) c = there e f f c (here f)
reaches_more edges e x f (there d y z edge rest) c = there d y f edge (reaches_more edges y z f rest c)

-- one item more, of which something holds
all_more : {A : Type 0} (P : A → Type 0) (xs : List A) (y : A) → AllByRecursion P xs → P y → AllByRecursion P (xs ++ y ∷ [])
all_more P [] y all is = (is, tt)
all_more P (x ∷ xs) y all is = (all.0, all_more P xs y all.1 is)

neither : (a b : Bool) → (a || b) ≡ false → (a ≡ false) × (b ≡ false)
neither true b is = absurd (cc)
neither false b is = (refl, is)

-- one item more, which differs from each before it
distinct_more : {A : Type 0} (same : A → A → Bool) (xs : List A) (y : A) → IsDistinct same xs → list_any (λ x. same x y) xs ≡ false → IsDistinct same (xs ++ y ∷ [])
unfolding IsDistinct
distinct_more same [] y distinct none = (tt, tt)
distinct_more same (x ∷ xs) y distinct none =
    let both = neither (same x y) (list_any (λ z. same z y) xs) none in
    (all_more (λ z. same x z ≡ false) xs y distinct.0 both.0, distinct_more same xs y distinct.1 both.1)

-- ---- questions

-- questions of the same directory, house and name are one
lacks_same : (p q : Lack) → same_lack p q ≡ true → p ≡ q
lacks_same p q same =
    let first = and_parts (p.dir.0 == q.dir.0) (p.house.0 == q.house.0 && pointwise nat_eq p.name q.name) same in
    let rest = and_parts (p.house.0 == q.house.0) (pointwise nat_eq p.name q.name) first.1 in
    let d = same_number p.dir.0 q.dir.0 first.0 in
    let h = same_number p.house.0 q.house.0 rest.0 in
    let n = same_name p.name q.name rest.1 in
    λ i. record { dir = record { 0 = d i }; house = record { 0 = h i }; name = n i }

-- a question that is one of these is among them
asked_among : (qs : List Lack) (q : Lack) → list_any (λ p. same_lack p q) qs ≡ true → Contains qs q
asked_among [] q any = absurd (cc)
asked_among (p ∷ ps) q any = by_test (same_lack p q) refl (asked_among ps q) any
  where
    by_test : (t : Bool) → same_lack p q ≡ t → (list_any (λ o. same_lack o q) ps ≡ true → Contains ps q) → (t || list_any (λ o. same_lack o q) ps) ≡ true
        → Contains (p ∷ ps) q
    by_test true same later any = subst (Contains (p ∷ ps)) (lacks_same p q same) (Contains-head p ps)
    by_test false same later any = Contains-tail p ps q (later any)

module _ (qs : List Lack) (q : Lack) where
  -- the others are still there
  pub with_kept : (p : Lack) → Contains qs p → Contains (with_lack qs q) p
  with_kept p c = by_test (list_any (λ o. same_lack o q) qs)
    where
      by_test : (t : Bool) → Contains (if t then qs else qs ++ q ∷ []) p
      by_test true = c
      by_test false = Contains-append_left qs (q ∷ []) p c

  -- and so is this one
  pub with_added : Contains (with_lack qs q) q
  with_added = by_test (list_any (λ o. same_lack o q) qs) refl
    where
      by_test : (t : Bool) → list_any (λ o. same_lack o q) qs ≡ t → Contains (if t then qs else qs ++ q ∷ []) q
      by_test true any = asked_among qs q any
      by_test false none = Contains-append_right qs (q ∷ []) q (Contains-head q [])

  -- each of them is so
  pub with_all : (P : Lack → Type 0) → All P qs → P q → All P (with_lack qs q)
  with_all P all is = by_test (list_any (λ p. same_lack p q) qs)
    where
      by_test : (t : Bool) → All P (if t then qs else qs ++ q ∷ [])
      by_test true = all
      by_test false = All-push P qs q all is

  -- each is there once
  pub with_once : IsDistinct same_lack qs → IsDistinct same_lack (with_lack qs q)
  with_once once = by_test (list_any (λ p. same_lack p q) qs) refl
    where
      by_test : (t : Bool) → list_any (λ p. same_lack p q) qs ≡ t → IsDistinct same_lack (if t then qs else qs ++ q ∷ [])
      by_test true any = once
      by_test false none = distinct_more same_lack qs q once none

-- ---- what the end of a walk adds

module _ (h : Heard) (wanted : Interface) where
  abbrev Names : Type 0
  Names = List (List (List ℕ))

  -- nothing, if it is no object, or one that is known
  pub settles_same : (end : End) (entries : List Found) (names : Names) → IfSome (object_in end) (Contains entries)
      → Settles h wanted end entries names entries names
  settles_same end entries names among = record { kept = λ e c. c; waiting = λ n c. c; among = among; added = λ e c. inl c; ahead = λ n c. inl c; only = λ e c. inl c }

  -- another object
  pub settles_new : (end : End) (f : Found) (entries entries' : List Found) (names names' : Names) → object_in end ≡ Some f → IsShown h f
      → names' ≡ names ++ names_of (least_reader h) wanted f → entries' ≡ entries ++ f ∷ [] → Settles h wanted end entries names entries' names'
  settles_new end f entries entries' names names' is shown names_are entries_are =
      let more = names_of (least_reader h) wanted f in
      let there : Contains (entries ++ f ∷ []) f = Contains-append_right entries (f ∷ []) f (Contains-head f []) in
      record {
        kept = λ e c. subst (λ (es : List Found). Contains es e) (sym entries_are) (Contains-append_left entries (f ∷ []) e c);
        waiting = λ n c. subst (λ (ns : Names). Contains ns n) (sym names_are) (Contains-append_left names more n c);
        among = subst (λ (o : Option Found). IfSome o (Contains entries')) (sym is) (subst (λ (es : List Found). Contains es f) (sym entries_are) there);
        added = λ e c. by_cases e (Contains-append_cases entries (f ∷ []) e (subst (λ (es : List Found). Contains es e) entries_are c));
        ahead = λ n c. on_ahead n (Contains-append_cases names more n (subst (λ (ns : Names). Contains ns n) names_are c));
        only = λ e c. on_only e (Contains-append_cases entries (f ∷ []) e (subst (λ (es : List Found). Contains es e) entries_are c));
      }
    where
      on_ahead : (n : List (List ℕ)) → Contains names n ⊎ Contains (names_of (least_reader h) wanted f) n → Contains names n ⊎ IsAhead h wanted end n
      on_ahead n (inl c) = inl c
      on_ahead n (inr c) = inr (record { entry = f; is = is; shown = shown; goes_on = c })

      on_only : (e : Found) → Contains entries e ⊎ Contains (f ∷ []) e → Contains entries e ⊎ (object_in end ≡ Some e)
      on_only e (inl c) = inl c
      on_only e (inr c) = inr (is ∙ ap Some (sym (only_of f e c)))

      new_one : (e : Found) → e ≡ f → IsKnown h wanted entries names' e
      new_one e same = inr (
        subst (IsShown h) (sym same) shown,
        λ n c. subst (λ (ns : Names). Contains ns n) (sym names_are) (Contains-append_right names (names_of (least_reader h) wanted f) n
            (subst (λ (x : Found). Contains (names_of (least_reader h) wanted x) n) same c)),
      )

      by_cases : (e : Found) → Contains entries e ⊎ Contains (f ∷ []) e → IsKnown h wanted entries names' e
      by_cases e (inl c) = inl c
      by_cases e (inr c) = new_one e (only_of f e c)

  -- ---- one more name

  if_some : {A : Type 0} (P Q : A → Type 0) (o : Option A) → ((x : A) → P x → Q x) → IfSome o P → IfSome o Q
  if_some P Q None more is = tt
  if_some P Q (Some x) more is = more x is

  module _ (end : End) (entries entries' : List Found) (names names' : Names) (lacks : List Lack) (name : List (List ℕ))
      (walked : (r : Reader) → Agrees r h → Ends r true name end) (settles : Settles h wanted end entries names entries' names') where
    followed : (n : List (List ℕ)) → IsFollowed h entries (names ++ name ∷ []) lacks n → IsFollowed h entries' names' lacks n
    followed n (inl c) = by_cases (Contains-append_cases names (name ∷ []) n c)
      where
        by_cases : Contains names n ⊎ Contains (name ∷ []) n → IsFollowed h entries' names' lacks n
        by_cases (inl c) = inl (settles.waiting n c)
        by_cases (inr c) =
            let same : n ≡ name = only_of name n c in
            inr (inl (subst (IsSettled h entries') (sym same) (record { end = end; walked = walked; among = settles.among })))
    followed n (inr (inl s)) = inr (inl (record {
      end = s.end;
      walked = s.walked;
      among = if_some (Contains entries) (Contains entries') (object_in s.end) settles.kept s.among;
    }))
    followed n (inr (inr w)) = inr (inr w)

    -- the search goes on
    pub searched_on : (first : List (List ℕ)) → IsSearch h wanted first entries (names ++ name ∷ []) lacks → IsSearch h wanted first entries' names' lacks
    searched_on first search = record {
      begins = followed first search.begins;
      shown = λ e c. shown_by e (settles.added e c);
      goes_on = λ e n c more. on_by e n more (settles.added e c);
    }
      where
        shown_by : (e : Found) → IsKnown h wanted entries names' e → IsShown h e
        shown_by e (inl c) = search.shown e c
        shown_by e (inr new) = new.0

        on_by : (e : Found) (n : List (List ℕ)) → Contains (names_of (least_reader h) wanted e) n → IsKnown h wanted entries names' e → IsFollowed h entries' names' lacks n
        on_by e n more (inl c) = followed n (search.goes_on e n c more)
        on_by e n more (inr new) = inl (new.1 n more)

  module _ (entries : List Found) (names : Names) (lacks : List Lack) (name : List (List ℕ)) (q : Lack)
      (needs : (root : Pointer) → heard_root h.root ≡ Some (Some root) → IsNeeded h true (first_walker root name) q) where
    passed : (n : List (List ℕ)) → IsFollowed h entries (names ++ name ∷ []) lacks n → IsFollowed h entries names (with_lack lacks q) n
    passed n (inl c) = by_cases (Contains-append_cases names (name ∷ []) n c)
      where
        by_cases : Contains names n ⊎ Contains (name ∷ []) n → IsFollowed h entries names (with_lack lacks q) n
        by_cases (inl c) = inl c
        by_cases (inr c) =
            let same : n ≡ name = only_of name n c in
            inr (inr (subst (IsWaiting h (with_lack lacks q)) (sym same) (record { lack = q; among = with_added lacks q; needs = needs })))
    passed n (inr (inl s)) = inr (inl s)
    passed n (inr (inr w)) = inr (inr (record { lack = w.lack; among = with_kept lacks q w.lack w.among; needs = w.needs }))

    -- the search goes on past a name that waits
    searched_past : (first : List (List ℕ)) → IsSearch h wanted first entries (names ++ name ∷ []) lacks
        → IsSearch h wanted first entries names (with_lack lacks q)
    searched_past first search = record {
      begins = passed first search.begins;
      shown = search.shown;
      goes_on = λ e n c more. passed n (search.goes_on e n c more);
    }

  -- before its first step
  search_begins : (first : List (List ℕ)) → IsSearch h wanted first [] (first ∷ []) []
  search_begins first = record {
    begins = inl (Contains-head first []);
    shown = λ e c. absurd (Contains-none e c);
    goes_on = λ e n c more. absurd (Contains-none e c);
  }

  -- ---- what the search visits

  -- of an entry that was shown readers that agree have the same names
  pub names_alike : (r : Reader) → Agrees r h → (e : Found) → IsShown h e → names_of r wanted e ≡ names_of (least_reader h) wanted e
  names_alike r agrees e shown =
      ap₂ (λ (g p : List (List ℕ)). members_of g ++ search_order wanted p) (values_alike h r agrees e group shown) (values_alike h r agrees e profile shown)

  -- from the object to which a name leads the search goes on
  visited_on : (r : Reader) (first name n : List (List ℕ)) (e : Found) → IsVisited r wanted first name → object_of r name ≡ Some e
      → Contains (names_of r wanted e) n → IsVisited r wanted first n
  visited_on r first name n e begins is c = goes_on e e n is (here e) c
  visited_on r first name n e (goes_on start d other leads reached among) is c =
      goes_on start e n leads
      (reaches_more (edges r wanted) start d e reached (Contains-filter_map (object_of r) (names_of r wanted d) other e among is)) c

  -- the object to which a name leads is reached
  reached_by : (r : Reader) (first name : List (List ℕ)) (e : Found) → IsVisited r wanted first name → object_of r name ≡ Some e → IsReached r wanted first e
  reached_by r first name e begins is = record { start = e; begins = is; reached = here e }
  reached_by r first name e (goes_on start d other leads reached among) is = record {
    start = start;
    begins = leads;
    reached = reaches_more (edges r wanted) start d e reached (Contains-filter_map (object_of r) (names_of r wanted d) other e among is);
  }

  module _ (first : List (List ℕ)) (entries : List Found) (names : Names) (name : List (List ℕ)) (lacks : List Lack)
      (way : IsUnderWay h wanted first entries (names ++ name ∷ []) lacks) where
    -- on from the end of a walk
    pub way_ended : (end : End) (entries' : List Found) (names' : Names) → ((r : Reader) → Agrees r h → Ends r true name end)
        → Settles h wanted end entries names entries' names' → IsUnderWay h wanted first entries' names' lacks
    way_ended end entries' names' walked settles = record {
      so_far = searched_on end entries entries' names names' lacks name walked settles first way.so_far;
      comes = λ n c r agrees. by_ahead n r agrees (settles.ahead n c);
      reached = record { each = λ e c r agrees. by_only e r agrees (settles.only e c) };
      once = way.once;
      unheard = way.unheard;
      sought = way.sought;
    }
      where
        by_only : (e : Found) (r : Reader) → Agrees r h → Contains entries e ⊎ (object_in end ≡ Some e) → IsReached r wanted first e
        by_only e r agrees (inl c) = way.reached.each e c r agrees
        by_only e r agrees (inr is) =
            reached_by r first name e (way.comes name (Contains-append_right names (name ∷ []) name (Contains-head name [])) r agrees)
            (ap object_in (end_is r true name end (walked r agrees)) ∙ is)

        by_ahead : (n : List (List ℕ)) (r : Reader) → Agrees r h → Contains names n ⊎ IsAhead h wanted end n → IsVisited r wanted first n
        by_ahead n r agrees (inl c) = way.comes n (Contains-append_left names (name ∷ []) n c) r agrees
        by_ahead n r agrees (inr ahead) =
            visited_on r first name n ahead.entry (way.comes name (Contains-append_right names (name ∷ []) name (Contains-head name [])) r agrees)
            (ap object_in (end_is r true name end (walked r agrees)) ∙ ahead.is)
            (subst (λ (ns : Names). Contains ns n) (sym (names_alike r agrees ahead.entry ahead.shown)) ahead.goes_on)

    -- past a name whose walk lacks this
    pub way_missed : (q : Lack) → IsUnheard h q → ((root : Pointer) → heard_root h.root ≡ Some (Some root) → IsNeeded h true (first_walker root name) q)
        → IsUnderWay h wanted first entries names (with_lack lacks q)
    way_missed q unheard needs = record {
      so_far = searched_past entries names lacks name q needs first way.so_far;
      comes = λ n c r agrees. way.comes n (Contains-append_left names (name ∷ []) n c) r agrees;
      reached = way.reached;
      once = with_once lacks q way.once;
      unheard = with_all lacks q (IsUnheard h) way.unheard unheard;
      sought = with_all lacks q (IsSought h wanted first) way.sought (record {
        name = name;
        comes = λ r agrees. way.comes name (Contains-append_right names (name ∷ []) name (Contains-head name [])) r agrees;
        needs = needs;
      });
    }

  -- before its first step
  way_begins : (first : List (List ℕ)) → IsUnderWay h wanted first [] (first ∷ []) []
  unfolding IsDistinct
  way_begins first = record {
    so_far = search_begins first;
    comes = λ n c r agrees. subst (IsVisited r wanted first) (sym (only_of first n c)) begins;
    reached = record { each = λ e c r agrees. absurd (Contains-none e c) };
    once = tt;
    unheard = All-nil (IsUnheard h);
    sought = All-nil (IsSought h wanted first);
  }

  pub way_starts : (first : List (List ℕ)) (entries : List Found) (names : Names) (lacks : List Lack) → entries ≡ [] → names ≡ first ∷ []
      → lacks ≡ [] → IsUnderWay h wanted first entries names lacks
  way_starts first entries names lacks no_entries one_name no_lacks =
      subst (λ (es : List Found). IsUnderWay h wanted first es names lacks) (sym no_entries)
      (subst (λ (ns : Names). IsUnderWay h wanted first [] ns lacks) (sym one_name)
      (subst (IsUnderWay h wanted first [] (first ∷ [])) (sym no_lacks) (way_begins first)))

-- ---- how a search ends

module _ (h : Heard) (wanted : Interface) (first : List (List ℕ)) (entries : List Found) (names : List (List (List ℕ))) (lacks : List Lack)
    (way : IsUnderWay h wanted first entries names lacks) (none_waits : names ≡ []) where
  -- closed, if nothing lacks
  pub way_closed : lacks ≡ [] → IsClosed h wanted first entries
  way_closed none_lacks =
      subst (IsSearch h wanted first entries []) none_lacks
      (subst (λ (ns : List (List (List ℕ))). IsSearch h wanted first entries ns lacks) none_waits way.so_far)

  -- it came to each of its entries
  pub way_reached : AreReached h wanted first entries
  way_reached = way.reached

  -- or else with all that lacks
  pub way_all : AreAll h wanted first lacks
  way_all = record {
    entries = entries;
    search = subst (λ (ns : List (List (List ℕ))). IsSearch h wanted first entries ns lacks) none_waits way.so_far;
  }

  pub way_asks : lacks ≢ [] → AreAsked h (IsSought h wanted first) lacks
  way_asks some = record { some = some; once = way.once; unheard = way.unheard; wanted = way.sought }
