-- Values that were sorted and whose repeats were removed, and the order of a search.
use Rattle.std.proofs.Common.{◌≡◌, ◌≢◌, ℕ, zero, suc, ◌+◌, ◌≤◌, ◌<◌, Bool, true, false, cond, List, [], ◌∷◌, ◌++◌, map, filter, Option, Some, None}
use Rattle.std.proofs.Common.{Ok, Bor, refl, sym, ap, subst, ◌∙◌, arith}
use Rattle.std.specs.Prelude.{◌==◌, ◌||◌, not, is_none, nat_lt, slice_index, length, if◌then◌else◌}
use Rattle.std.specs.declared.cmp.Ordering.{Ordering}
use Rattle.std.specs.declared.cmp.Ordering.TheVariants.{Less, Equal, Greater}
use Rattle.std.specs.Ordering.{nat_cmp, ordering_then}
use Rattle.std.specs.Option.{option_map_or}
use Rattle.std.specs.Cmp.Lexicographic.{slice_cmp}
use Rattle.std.specs.List.{All, AllByRecursion, list_any, filter_map, cons_option, flat_map}
use Rattle.std.specs.List.Sorted.{IsStrictlySortedBy}
use Rattle.std.proofs.lemmas.List.{append-nil}
use Rattle.std.proofs.lemmas.List.Elements.{filter_passes, All-weaker, All-from_recursion, recursion_from_All}
use Rattle.std.proofs.lemmas.Grind.{flat_map-append}
use Rattle.cds_stamps.specs.Octets.{octets_cmp}
use Rattle.cds_stamps.specs.Outcomes.{ok_unless}
use Rattle.cds_stamps.specs.Ascending.{in_ascending_order}
use Rattle.cds_stamps.proofs.AscendingLaws.{ascending-rises, ascending-filter}
use Rattle.tower_codec.specs.declared.rpc.Interface.{Interface}
use Rattle.tower_codec.specs.Serving.{serves}
use Rattle.directory.specs.Updates.{Change, Remove}
use Rattle.ns_profiles.specs.declared.fault.ProfileFault.TheVariants.{NoSuchElement}
use Rattle.ns_profiles.specs.declared.element.Element.{Element}
use Rattle.ns_profiles.specs.declared.fault.ProfileFault.{ProfileFault}
use Rattle.ns_profiles.specs.Elements.{default_priority, element_fault, element_of, element_of_octets}
use Rattle.ns_profiles.specs.Profiles.{profile, is_element, delete_fault, element_deletion, reads_as, is_taken, is_sought, elements_in, of_priority}
use Rattle.ns_profiles.specs.Profiles.{priorities, search_order}
use Rattle.ns_profiles.proofs.ElementLaws.{priority_within}

-- the octets that references refer to
abbrev pub behind : List (Bor (List ℕ)) → List (List ℕ)
behind = map (λ o. o.now)

-- ---- what octets are read as

-- a test of octets that are an element is the test of the element
pub read_test : (t : Element → Bool) (octets : List ℕ) → element_fault octets ≡ None → reads_as t octets ≡ t (element_of_octets octets)
read_test t octets e = ap (λ (f : Option ProfileFault). option_map_or t (if is_none f then Some (element_of_octets octets) else None) false) e

-- octets that are none pass no test
pub fault_test : (t : Element → Bool) (octets : List ℕ) (fault : ProfileFault) → element_fault octets ≡ Some fault → reads_as t octets ≡ false
fault_test t octets fault e = ap (λ (f : Option ProfileFault). option_map_or t (if is_none f then Some (element_of_octets octets) else None) false) e

-- octets that pass a test of elements have no fault
tested : (t : Element → Bool) (octets : List ℕ) → option_map_or t (element_of octets) false ≡ true → element_fault octets ≡ None
tested t octets e = by_fault (element_fault octets) refl e
  where
    by_fault : (fault : Option ProfileFault) → element_fault octets ≡ fault
        → option_map_or t (if is_none fault then Some (element_of_octets octets) else None) false ≡ true → fault ≡ None
    by_fault None is e = refl
    by_fault (Some fault) is e = cc

pub sought_whole : (wanted : Interface) (octets : List ℕ) → is_sought wanted octets ≡ true → element_fault octets ≡ None
sought_whole wanted octets e = tested (is_taken wanted) octets e

-- the first octet does not fall where octets rise
first_rises : (x y : List ℕ) → octets_cmp x y ≡ Less → slice_index x 0 ≤ slice_index y 0
first_rises [] y e = omega arith
first_rises (a ∷ x) [] e = cc (e)
first_rises (a ∷ x) (b ∷ y) e = by_first (nat_lt a b) refl (a == b) refl (slice_cmp nat_cmp x y) e
  where
    by_first : (lt : Bool) → nat_lt a b ≡ lt → (eq : Bool) → (a == b) ≡ eq → (rest : Ordering)
        → ordering_then (cond lt Less (cond eq Equal Greater)) rest ≡ Less → a ≤ b
    by_first true l eq q rest e = grind (arith, l)
    by_first false l true q rest e = grind (arith, q)
    by_first false l false q rest e = cc (e)

-- ---- the order of a search

-- priorities do not fall
abbrev Rises : List Element → Type 0
Rises [] = Unit {0}
Rises (e ∷ es) = AllByRecursion (λ f. e.priority ≤ f.priority) es × Rises es

all_filter : (P : Element → Type 0) (q : Element → Bool) (es : List Element) → AllByRecursion P es → AllByRecursion P (filter q es)
all_filter P q [] all = tt
all_filter P q (e ∷ es) all = by_test (q e) (all_filter P q es all.1)
  where
    by_test : (t : Bool) → AllByRecursion P (filter q es) → AllByRecursion P (cond t (e ∷ filter q es) (filter q es))
    by_test true rest = (all.0, rest)
    by_test false rest = rest

rises_filter : (q : Element → Bool) (es : List Element) → Rises es → Rises (filter q es)
rises_filter q [] rises = tt
rises_filter q (e ∷ es) rises = by_test (q e) (rises_filter q es rises.1)
  where
    by_test : (t : Bool) → Rises (filter q es) → Rises (cond t (e ∷ filter q es) (filter q es))
    by_test true rest = (all_filter (λ f. e.priority ≤ f.priority) q es rises.0, rest)
    by_test false rest = rest

-- so many priorities from one on, and the elements by them
abbrev from : (a n : ℕ) → List ℕ
from a zero = []
from a (suc n) = a ∷ from (a + 1) n

abbrev groups : (a n : ℕ) → List Element → List Element
groups a n es = flat_map (λ p. of_priority p es) (from a n)

not_of : (p : ℕ) (e : Element) (es : List Element) → e.priority ≢ p → of_priority p (e ∷ es) ≡ of_priority p es
not_of p e es ne = let f : (e.priority == p) ≡ false = grind (arith, ne) in rw f refl

is_of : (p : ℕ) (e : Element) (es : List Element) → e.priority ≡ p → of_priority p (e ∷ es) ≡ e ∷ of_priority p es
is_of p e es is = let t : (e.priority == p) ≡ true = grind (arith, is) in rw t refl

none_of : (p : ℕ) (es : List Element) → AllByRecursion (λ f. p < f.priority) es → of_priority p es ≡ []
none_of p [] above = refl
none_of p (e ∷ es) above = let higher = above.0 in not_of p e es (λ is. omega arith) ∙ none_of p es above.1

-- an element is in no group of a later priority
skip : (n b : ℕ) (e : Element) (es : List Element) → e.priority < b → groups b n (e ∷ es) ≡ groups b n es
skip zero b e es h = refl
skip (suc n) b e es h =
    let here : of_priority b (e ∷ es) ≡ of_priority b es = not_of b e es (λ is. omega arith) in
    let rest : groups (b + 1) n (e ∷ es) ≡ groups (b + 1) n es = skip n (b + 1) e es (omega arith) in
    λ i. here i ++ rest i

all_weaker : (P Q : Element → Type 0) → ((e : Element) → P e → Q e) → (es : List Element) → AllByRecursion P es → AllByRecursion Q es
all_weaker P Q w [] all = tt
all_weaker P Q w (e ∷ es) all = (w e all.0, all_weaker P Q w es all.1)

-- an element of the least priority comes first
put_in : (n a : ℕ) (e : Element) (es : List Element) → AllByRecursion (λ f. e.priority ≤ f.priority) es → a ≤ e.priority → e.priority < a + n
    → groups a n (e ∷ es) ≡ e ∷ groups a n es
put_in zero a e es least low high = absurd (omega arith)
put_in (suc n) a e es least low high = by_cases (e.priority == a) refl (λ more. put_in n (a + 1) e es least more (omega arith))
  where
    by_cases : (t : Bool) → (e.priority == a) ≡ t → (a + 1 ≤ e.priority → groups (a + 1) n (e ∷ es) ≡ e ∷ groups (a + 1) n es)
        → groups a (suc n) (e ∷ es) ≡ e ∷ groups a (suc n) es
    by_cases true at later =
        let is : e.priority ≡ a = grind (arith, at) in
        let here : of_priority a (e ∷ es) ≡ e ∷ of_priority a es = is_of a e es is in
        let rest : groups (a + 1) n (e ∷ es) ≡ groups (a + 1) n es = skip n (a + 1) e es (omega arith) in
        λ i. here i ++ rest i
    by_cases false at later =
        let ne : e.priority ≢ a = grind (arith, at) in
        let none : of_priority a es ≡ [] = none_of a es (all_weaker (λ f. e.priority ≤ f.priority) (λ f. a < f.priority) (λ f h. omega arith) es least) in
        let here : of_priority a (e ∷ es) ≡ [] = not_of a e es ne ∙ none in
        let rest : groups (a + 1) n (e ∷ es) ≡ e ∷ groups (a + 1) n es = later (omega arith) in
        (λ i. here i ++ rest i) ∙ ap (λ (front : List Element). e ∷ (front ++ groups (a + 1) n es)) (sym none)

no_groups : (n a : ℕ) → groups a n [] ≡ []
no_groups zero a = refl
no_groups (suc n) a = no_groups n (a + 1)

all_groups : (n : ℕ) (es : List Element) → Rises es → AllByRecursion (λ e. e.priority < n) es → groups 0 n es ≡ es
all_groups n [] rises high = no_groups n 0
all_groups n (e ∷ es) rises high =
    let below = high.0 in
    put_in n 0 e es rises.0 (omega arith) (omega arith) ∙ ap (λ (rest : List Element). e ∷ rest) (all_groups n es rises.1 high.1)

-- two tests that agree on the elements of a priority
agree : (p : ℕ) (q r : Element → Bool) (alike : (e : Element) → e.priority ≡ p → q e ≡ r e) → (es : List Element)
    → of_priority p (filter q es) ≡ of_priority p (filter r es)
agree p q r alike [] = refl
agree p q r alike (e ∷ es) = by_priority (e.priority == p) refl (agree p q r alike es)
  where
    dropped : (t : Bool) (xs : List Element) → e.priority ≢ p → of_priority p (cond t (e ∷ xs) xs) ≡ of_priority p xs
    dropped true xs ne = not_of p e xs ne
    dropped false xs ne = refl

    kept : (t : Bool) (xs ys : List Element) → e.priority ≡ p → of_priority p xs ≡ of_priority p ys
        → of_priority p (cond t (e ∷ xs) xs) ≡ of_priority p (cond t (e ∷ ys) ys)
    kept true xs ys is rest = is_of p e xs is ∙ ap (λ (rest : List Element). e ∷ rest) rest ∙ sym (is_of p e ys is)
    kept false xs ys is rest = rest

    by_priority : (t : Bool) → (e.priority == p) ≡ t → of_priority p (filter q es) ≡ of_priority p (filter r es)
        → of_priority p (filter q (e ∷ es)) ≡ of_priority p (filter r (e ∷ es))
    by_priority true at rest =
        let is : e.priority ≡ p = grind (arith, at) in
        ap (λ (t : Bool). of_priority p (cond t (e ∷ filter q es) (filter q es))) (alike e is) ∙ kept (r e) (filter q es) (filter r es) is rest
    by_priority false at rest =
        let ne : e.priority ≢ p = grind (arith, at) in
        dropped (q e) (filter q es) ne ∙ rest ∙ sym (dropped (r e) (filter r es) ne)

keep_all : (es : List Element) → filter (λ e. true) es ≡ es
keep_all [] = refl
keep_all (e ∷ es) = ap (λ (rest : List Element). e ∷ rest) (keep_all es)

-- below 8 a search takes what serves the interface, and at 8 all
below_default : (n a : ℕ) (wanted : Interface) (es : List Element) → a + n ≤ 8
    → groups a n (filter (is_taken wanted) es) ≡ groups a n (filter (λ e. serves e.interface wanted) es)
below_default zero a wanted es h = refl
below_default (suc n) a wanted es h =
    let here = agree a (is_taken wanted) (λ e. serves e.interface wanted) alike es in
    let rest : groups (a + 1) n (filter (is_taken wanted) es) ≡ groups (a + 1) n (filter (λ e. serves e.interface wanted) es) =
    below_default n (a + 1) wanted es (omega arith) in
    λ i. here i ++ rest i
  where
    alike : (e : Element) → e.priority ≡ a → is_taken wanted e ≡ serves e.interface wanted
    alike e is =
        let ne : e.priority ≢ 8 = λ x. omega arith in
        let low : (e.priority == 8) ≡ false = grind (arith, ne) in
        rw low refl

at_default : (wanted : Interface) (es : List Element) → of_priority 8 (filter (is_taken wanted) es) ≡ of_priority 8 es
at_default wanted es = agree 8 (is_taken wanted) (λ e. true) alike es ∙ ap (of_priority 8) (keep_all es)
  where
    alike : (e : Element) → e.priority ≡ 8 → is_taken wanted e ≡ true
    alike e is = let high : (e.priority == 8) ≡ true = grind (arith, is) in rw high refl

-- the elements that a search takes, in its order
taken_in_order : (wanted : Interface) (es : List Element) → Rises es → AllByRecursion (λ e. e.priority < 9) es
    → filter (is_taken wanted) es ≡ flat_map (λ p. of_priority p (filter (λ e. serves e.interface wanted) es)) priorities ++ of_priority 8 es
taken_in_order wanted es rises high =
    let taken = filter (is_taken wanted) es in
    sym (all_groups 9 taken (rises_filter (is_taken wanted) es rises) (all_filter (λ e. e.priority < 9) (is_taken wanted) es high))
    ∙ flat_map-append (λ (p : ℕ). of_priority p taken) (from 0 8) (8 ∷ [])
    ∙ (λ i. below_default 8 0 wanted es (omega arith) i ++ (append-nil (of_priority 8 taken) ∙ at_default wanted es) i)

-- ---- the elements among octets

by_read : (P : Option Element → Type 0) (octets : List ℕ) → P None → (element_fault octets ≡ None → P (Some (element_of_octets octets))) → P (element_of octets)
by_read P octets none some = by_fault (element_fault octets) refl
  where
    by_fault : (fault : Option ProfileFault) → element_fault octets ≡ fault → P (if is_none fault then Some (element_of_octets octets) else None)
    by_fault None e = some e
    by_fault (Some fault) e = none

later_rise : (x : List ℕ) (xs : List (List ℕ)) → AllByRecursion (λ y. octets_cmp x y ≡ Less) xs
    → AllByRecursion (λ f. slice_index x 0 ≤ f.priority) (filter_map element_of xs)
later_rise x [] above = tt
later_rise x (y ∷ ys) above =
    let rest = later_rise x ys above.1 in
    by_read (λ o. AllByRecursion (λ f. slice_index x 0 ≤ f.priority) (cons_option o (filter_map element_of ys))) y rest (λ e. (first_rises x y above.0, rest))

rises_read : (xs : List (List ℕ)) → IsStrictlySortedBy octets_cmp xs → Rises (filter_map element_of xs)
unfolding IsStrictlySortedBy
rises_read [] sorted = tt
rises_read (x ∷ xs) sorted =
    let rest = rises_read xs sorted.1 in
    by_read (λ o. Rises (cons_option o (filter_map element_of xs))) x rest (λ e. (later_rise x xs sorted.0, rest))

high_read : (xs : List (List ℕ)) → AllByRecursion (λ e. e.priority < 9) (filter_map element_of xs)
high_read [] = tt
high_read (x ∷ xs) =
    let rest = high_read xs in
    by_read (λ o. AllByRecursion (λ e. e.priority < 9) (cons_option o (filter_map element_of xs))) x rest
    (λ e. let within = priority_within x e in (omega arith, rest))

-- the elements of values that pass a test stand by their priorities, those of default elements last
pub filter_by_priority : (q : Element → Bool) (values : List (List ℕ))
    → filter q (elements_in values) ≡ flat_map (λ p. of_priority p (filter q (elements_in values))) (priorities ++ default_priority ∷ [])
filter_by_priority q values =
    let es = elements_in values in
    let rises : Rises es = rises_read (in_ascending_order values) (ascending-rises values) in
    let high : AllByRecursion (λ e. e.priority < 9) es = high_read (in_ascending_order values) in
    sym (all_groups 9 (filter q es) (rises_filter q es rises) (all_filter (λ e. e.priority < 9) q es high))

-- the members of the octets that pass a test of elements
map_taken : (t : Element → Bool) (xs : List (List ℕ))
    → map (λ v. (element_of_octets v).member) (filter (reads_as t) xs) ≡ map (λ e. e.member) (filter t (filter_map element_of xs))
map_taken t [] = refl
map_taken t (x ∷ xs) =
    let rest = map_taken t xs in
    by_read
    (λ o. map (λ v. (element_of_octets v).member) (cond (option_map_or t o false) (x ∷ filter (reads_as t) xs) (filter (reads_as t) xs)) ≡ map (λ e. e.member)
    (filter t (cons_option o (filter_map element_of xs))))
    x rest (λ e. by_test (t (element_of_octets x)) rest)
  where
    by_test : (b : Bool) → map (λ v. (element_of_octets v).member) (filter (reads_as t) xs) ≡ map (λ e. e.member) (filter t (filter_map element_of xs))
        → map (λ v. (element_of_octets v).member) (cond b (x ∷ filter (reads_as t) xs) (filter (reads_as t) xs)) ≡ map (λ e. e.member)
        (cond b (element_of_octets x ∷ filter t (filter_map element_of xs)) (filter t (filter_map element_of xs)))
    by_test true rest = ap (λ (ms : List (List (List ℕ))). (element_of_octets x).member ∷ ms) rest
    by_test false rest = rest

-- the members of the values that a search takes, ascending, are those of the search
pub members_in_order : (wanted : Interface) (values : List (List ℕ))
    → map (λ v. (element_of_octets v).member) (filter (is_sought wanted) (in_ascending_order values)) ≡ search_order wanted values
members_in_order wanted values =
    map_taken (is_taken wanted) (in_ascending_order values)
    ∙ ap (map (λ e. e.member)) (taken_in_order wanted (elements_in values) (rises_read (in_ascending_order values) (ascending-rises values))
    (high_read (in_ascending_order values)))

-- ---- references to values

-- a function of references is the function of what they refer to
pub map_behind : {A : Type 0} (f : List ℕ → A) (bs : List (Bor (List ℕ))) → map (λ b. f b.now) bs ≡ map f (behind bs)
map_behind f [] = refl
map_behind {A} f (b ∷ bs) = ap (λ (rest : List A). f b.now ∷ rest) (map_behind f bs)

all_behind : (P : List ℕ → Type 0) (bs : List (Bor (List ℕ))) → AllByRecursion P (behind bs) → AllByRecursion (λ b. P b.now) bs
all_behind P [] all = tt
all_behind P (b ∷ bs) all = (all.0, all_behind P bs all.1)

-- the values that pass a test, sorted and each once
in_order_is : (p : List ℕ → Bool) (values found sorted : List (List ℕ)) → sorted ≡ in_ascending_order found → found ≡ filter p values
    → sorted ≡ filter p (in_ascending_order values)
in_order_is p values found sorted s f = s ∙ ap in_ascending_order f ∙ ascending-filter p values

-- what a search takes is elements
pub all_whole : (wanted : Interface) (values : List (List ℕ)) (bs : List (Bor (List ℕ))) → behind bs ≡ filter (is_sought wanted) values
    → All (λ b. element_fault b.now ≡ None) bs
all_whole wanted values bs e =
    let P : List ℕ → Type 0 = λ o. element_fault o ≡ None in
    let whole : All P (filter (is_sought wanted) values) =
    All-weaker (λ o. is_sought wanted o ≡ true) P (sought_whole wanted) (filter (is_sought wanted) values)
    (filter_passes (is_sought wanted) values) in
    All-from_recursion (λ b. P b.now) bs (all_behind P bs (recursion_from_All P (behind bs) (subst (All P) (sym e) whole)))

-- ---- values that are deleted

-- nothing passes a filter exactly where no element passes the test
empty_filter : (p : List ℕ → Bool) (values : List (List ℕ)) → (length (filter p values) == 0) ≡ not (list_any p values)
empty_filter p [] = refl
empty_filter p (v ∷ vs) = by_test (p v) (empty_filter p vs)
  where
    by_test : (t : Bool) → (length (filter p vs) == 0) ≡ not (list_any p vs) → (length (cond t (v ∷ filter p vs) (filter p vs)) == 0) ≡ not (t || list_any p vs)
    by_test true rest = grind arith
    by_test false rest = rest

length_behind : (bs : List (Bor (List ℕ))) → length (behind bs) ≡ length bs
length_behind [] = refl
length_behind (b ∷ bs) = ap suc (length_behind bs)

-- no reference was found exactly where no value passes the test
pub none_found : (p : List ℕ → Bool) (n : ℕ) (bs : List (Bor (List ℕ))) (values : List (List ℕ)) → n ≡ length bs → behind bs ≡ filter p values
    → (n == 0) ≡ not (list_any p values)
none_found p n bs values len is =
    let all : n ≡ length (filter p values) = len ∙ sym (length_behind bs) ∙ ap length is in
    ap (λ (k : ℕ). k == 0) all ∙ empty_filter p values

some_there : (t : Bool) (n : ℕ) → n ≢ 0 → (n == 0) ≡ not t → t ≡ true
some_there true n some is = refl
some_there false n some is = absurd (some (grind (arith, is)))

pub deleted_are : (name : List ℕ) (interface : Option Interface) (member values : List (List ℕ)) (found sorted : List (Bor (List ℕ)))
    → behind found ≡ filter (is_element interface member) values → behind sorted ≡ in_ascending_order (behind found)
    → map (λ value. Remove name profile value.now) sorted ≡ element_deletion name interface member values
deleted_are name interface member values found sorted f s =
    map_behind (Remove name profile) sorted ∙ ap (map (Remove name profile))
    (in_order_is (is_element interface member) values (behind found) (behind sorted) s f)

-- the answer where there is something to delete
pub deleted_answer : (name : List ℕ) (interface : Option Interface) (member values : List (List ℕ)) (n : ℕ) (found sorted : List (Bor (List ℕ)))
    (done : List Change)
    → n ≢ 0 → (n == 0) ≡ not (list_any (is_element interface member) values)
    → behind found ≡ filter (is_element interface member) values → behind sorted ≡ in_ascending_order (behind found)
    → done ≡ map (λ value. Remove name profile value.now) sorted
    → ok_unless (delete_fault interface member values) (element_deletion name interface member values) ≡ Ok done
deleted_answer name interface member values n found sorted done some is f s d =
    let there : list_any (is_element interface member) values ≡ true = some_there _ n some is in
    ap (λ (t : Bool). ok_unless (if t then None else Some NoSuchElement) (element_deletion name interface member values)) there
    ∙ ap Ok (sym (d ∙ deleted_are name interface member values found sorted f s))
