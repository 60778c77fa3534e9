-- The directories that a closed search did not reach.
use Rattle.std.proofs.Common.{◌≡◌, ℕ, zero, suc, ◌+◌, ◌<◌, true, List, [], ◌∷◌, ◌++◌, take, length, map, get_or, refl, sym, ap, subst, ◌∙◌, inl, inr, ⊎_elim, append_assoc, arith}
use Rattle.std.specs.Prelude.{◌↔◌, Option, Some, None, Result, Ok, Err, IfSome, eqb}
use Rattle.std.specs.List.{Contains, cons_option, dedup, filter_map, flat_map}
use Rattle.std.specs.List.Sorted.{IsPermutation, IsSorted, IsStrictlySortedBy}
use Rattle.std.specs.Option.{option_to_list}
use Rattle.std.specs.Ordering.{nat_cmp}
use Rattle.std.proofs.lemmas.List.Elements.{Contains-append_cases, Contains-append_left, Contains-append_right}
use Rattle.std.proofs.lemmas.List.Kept.{Contains-dedup_nat, Contains-from_dedup}
use Rattle.std.proofs.lemmas.List.Sorted.{Contains-permutation, IsPermutation-sym}
use Rattle.std.proofs.lemmas.Map.Keys.{IsStrictlyIncreasing-dedup, sorted_from_strictly_increasing}
use Rattle.cds_stamps.proofs.ListMembers.{Contains-cases, Contains-head, Contains-none, Contains-tail}
use Rattle.cds_stamps.specs.declared.numbers.DirId.{DirId}
use Rattle.tower_codec.specs.declared.rpc.Interface.{Interface}
use Rattle.resolver.specs.declared.refusal.Refusal.{Refusal}
use Rattle.resolver.specs.declared.refusal.Refusal.TheVariants as refusal
use Rattle.resolver.specs.declared.seen.Found.{Found}
use Rattle.resolver.specs.Readers.{Reader}
use Rattle.resolver.specs.Walks.{found_of}
use Rattle.resolver.specs.WalkEnds.{walk_end}
use Rattle.ns_import.specs.Imports.{edges, names_of, object_of}
use Rattle.ns_import.specs.Orders.{Reaches, here, there}
use Rattle.cds_clerk.specs.declared.heard.Heard.{Heard}
use Rattle.cds_clerk.specs.Agreements.{Agrees}
use Rattle.cds_clerk.specs.Readings.{least_reader}
use Rattle.cds_clerk.specs.Searches.{AreReached, IsClosed, IsFollowed, IsSettled, object_in}
use Rattle.cds_clerk.specs.Unreached.{AreUnreached, IsUnreached, dir_refused, dir_unreached, unreached_at, unreached_from}
use Rattle.cds_clerk.proofs.ClosedLaws.{filter_from}
use Rattle.cds_clerk.proofs.HeardLaws.{end_is, least_agrees}
use Rattle.cds_clerk.proofs.SearchLaws.{Contains-filter_map, names_alike}

-- ---- lists

-- what is made of one more item
made_on : {A B : Type 0} (f : A → Option B) (xs : List A) (i : ℕ) (x : A) → i < length xs → x ≡ get_or xs i x
    → filter_map f (take (suc i) xs) ≡ filter_map f (take i xs) ++ option_to_list (f x)
made_on f [] i x inside at = absurd (omega arith)
made_on {A} {B} f (y ∷ ys) zero x inside at = first (f y) ∙ ap (λ (z : A). option_to_list (f z)) (sym at)
  where
    first : (o : Option B) → cons_option o [] ≡ option_to_list o
    first None = refl
    first (Some b) = refl
made_on {A} {B} f (y ∷ ys) (suc i) x inside at = front (f y) (made_on f ys i x (omega (arith, inside)) at)
  where
    front : (o : Option B) → filter_map f (take (suc i) ys) ≡ filter_map f (take i ys) ++ option_to_list (f x)
        → cons_option o (filter_map f (take (suc i) ys)) ≡ cons_option o (filter_map f (take i ys)) ++ option_to_list (f x)
    front None same = same
    front (Some b) same = ap (λ (bs : List B). b ∷ bs) same

next : (i : ℕ) → i + 1 ≡ suc i
next i = omega arith

pub made_more : {A B : Type 0} (f : A → Option B) (xs : List A) (i : ℕ) (x : A) → i < length xs → x ≡ get_or xs i x
    → filter_map f (take (i + 1) xs) ≡ filter_map f (take i xs) ++ option_to_list (f x)
made_more f xs i x inside at = ap (λ (k : ℕ). filter_map f (take k xs)) (next i) ∙ made_on f xs i x inside at

-- the lists of one more item
lists_on : {A B : Type 0} (g : A → List B) (xs : List A) (i : ℕ) (x : A) → i < length xs → x ≡ get_or xs i x
    → flat_map g (take (suc i) xs) ≡ flat_map g (take i xs) ++ g x
lists_on g [] i x inside at = absurd (omega arith)
lists_on {A} {B} g (y ∷ ys) zero x inside at = append-nil (g y) ∙ ap g (sym at)
  where
    append-nil : (bs : List B) → bs ++ [] ≡ bs
    append-nil [] = refl
    append-nil (b ∷ bs) = ap (λ (cs : List B). b ∷ cs) (append-nil bs)
lists_on {A} {B} g (y ∷ ys) (suc i) x inside at =
    ap (λ (bs : List B). g y ++ bs) (lists_on g ys i x (omega (arith, inside)) at) ∙ sym (append_assoc (g y) (flat_map g (take i ys)) (g x))

pub lists_more : {A B : Type 0} (g : A → List B) (xs : List A) (i : ℕ) (x : A) → i < length xs → x ≡ get_or xs i x
    → flat_map g (take (i + 1) xs) ≡ flat_map g (take i xs) ++ g x
lists_more g xs i x inside at = ap (λ (k : ℕ). flat_map g (take k xs)) (next i) ∙ lists_on g xs i x inside at

-- an item of one of the lists
into_flat : {A B : Type 0} (g : A → List B) (xs : List A) (x : A) (y : B) → Contains xs x → Contains (g x) y → Contains (flat_map g xs) y
into_flat g [] x y c d = absurd (Contains-none x c)
into_flat {A} {B} g (z ∷ zs) x y c d =
    ⊎_elim (λ same. Contains-append_left (g z) (flat_map g zs) y (subst (λ (w : A). Contains (g w) y) (sym same) d))
    (λ rest. Contains-append_right (g z) (flat_map g zs) y (into_flat g zs x y rest d)) (Contains-cases z zs x c)

from_flat : {A B : Type 0} (g : A → List B) (xs : List A) (y : B) → Contains (flat_map g xs) y → (x : A) × Contains xs x × Contains (g x) y
from_flat g [] y c = absurd (Contains-none y c)
from_flat g (z ∷ zs) y c =
    ⊎_elim (λ first. (z, Contains-head z zs, first))
    (λ rest. let found = from_flat g zs y rest in (found.0, Contains-tail z zs found.0 found.1, found.2)) (Contains-append_cases (g z) (flat_map g zs) y c)

-- ---- numbers that were sorted, and whose repeats were removed

module _ (xs ys : List ℕ) (moved : IsPermutation xs ys) where
  pub once_same : (n : ℕ) → Contains (dedup eqb ys) n ↔ Contains xs n
  once_same n = (
    λ c. Contains-permutation ys xs n (IsPermutation-sym xs ys moved) (Contains-from_dedup eqb ys n c),
    λ c. Contains-dedup_nat ys n (Contains-permutation xs ys n moved c),
  )

pub once_ascend : (ys : List ℕ) → IsSorted nat_cmp ys → IsStrictlySortedBy nat_cmp (dedup eqb ys)
once_ascend ys sorted = sorted_from_strictly_increasing (dedup eqb ys) (IsStrictlyIncreasing-dedup ys sorted)

-- ---- refusals

refused_so : (why : Refusal) (n : ℕ) → dir_refused why ≡ Some n → why ≡ refusal.Unreachable (record { 0 = n })
refused_so (refusal.NoSuchName done) n is = absurd (cc)
refused_so (refusal.NotDirectory done) n is = absurd (cc)
refused_so (refusal.Unreachable dir) n is = ap (λ (k : ℕ). refusal.Unreachable (record { 0 = k })) (some_is dir.0 n is)
  where
    some_is : (a b : ℕ) → ◌≡◌ {A = Option ℕ} (Some a) (Some b) → a ≡ b
    some_is a b e = cc (e)
refused_so refusal.LinkCycle n is = absurd (cc)
refused_so refusal.TooManyLinks n is = absurd (cc)
refused_so refusal.NameTooLong n is = absurd (cc)
refused_so refusal.RootName n is = absurd (cc)

unreached_so : (found : Result Found Refusal) (n : ℕ) → dir_unreached found ≡ Some n → found ≡ Err (refusal.Unreachable (record { 0 = n }))
unreached_so (Ok f) n is = absurd (cc)
unreached_so (Err why) n is = ap Err (refused_so why n is)

-- ---- a closed search

module _ (h : Heard) (wanted : Interface) (first : List (List ℕ)) (entries : List Found) (closed : IsClosed h wanted first entries)
    (reached : AreReached h wanted first entries) where
  settled : (n : List (List ℕ)) → IsFollowed h entries [] [] n → IsSettled h entries n
  settled n (inl c) = absurd (Contains-none n c)
  settled n (inr (inl s)) = s
  settled n (inr (inr w)) = absurd (Contains-none w.lack w.among)

  module _ (r : Reader) (agrees : Agrees r h) where
    -- from an entry the search goes on at the same names by both
    same_names : (e : Found) → Contains entries e → names_of r wanted e ≡ names_of (least_reader h) wanted e
    same_names e c = names_alike h wanted r agrees e (closed.shown e c)

    -- the walk of a name that is settled finds the same by both
    same_walk : (n : List (List ℕ)) → IsSettled h entries n → walk_end r true n ≡ walk_end (least_reader h) true n
    same_walk n s =
        ap found_of (end_is r true n s.end (s.walked r agrees) ∙ sym (end_is (least_reader h) true n s.end (s.walked (least_reader h) (least_agrees h))))

    -- the object to which it leads is one of the entries
    lands : (n : List (List ℕ)) (f : Found) → IsSettled h entries n → object_of r n ≡ Some f → Contains entries f
    lands n f s is =
        let ended : object_in s.end ≡ Some f = ap object_in (sym (end_is r true n s.end (s.walked r agrees))) ∙ is in
        subst (λ (o : Option Found). IfSome o (Contains entries)) ended s.among

    -- so is each entry that is reached
    stays_inside : (e f : Found) → Contains entries e → Reaches (edges r wanted) e f → Contains entries f
    stays_inside e f c (here d) = c
    stays_inside e f c (there d x g edge rest) =
        let found = filter_from (object_of r) (names_of r wanted d) x edge in
        let among = subst (λ (ns : List (List (List ℕ))). Contains ns found.0) (same_names d c) found.1 in
        stays_inside x g (lands found.0 x (settled found.0 (closed.goes_on d found.0 c among)) found.2) rest

    is_unreached : (n : ℕ) → Contains (flat_map (unreached_from h wanted) entries) n → IsUnreached r wanted first n
    is_unreached n c =
        let from = from_flat (unreached_from h wanted) entries n c in
        let at = filter_from (unreached_at h) (names_of (least_reader h) wanted from.0) n from.2 in
        let s = settled at.0 (closed.goes_on from.0 at.0 from.1 at.1) in
        record {
          entry = from.0;
          reached = reached.each from.0 from.1 r agrees;
          name = at.0;
          goes_on = subst (λ (ns : List (List (List ℕ))). Contains ns at.0) (sym (same_names from.0 from.1)) at.1;
          refused = same_walk at.0 s ∙ unreached_so (walk_end (least_reader h) true at.0) n at.2;
        }

    has_unreached : (n : ℕ) → IsUnreached r wanted first n → Contains (flat_map (unreached_from h wanted) entries) n
    has_unreached n u =
        let start = lands first u.reached.start (settled first closed.begins) u.reached.begins in
        let c = stays_inside u.reached.start u.entry start u.reached.reached in
        let among = subst (λ (ns : List (List (List ℕ))). Contains ns u.name) (same_names u.entry c) u.goes_on in
        let s = settled u.name (closed.goes_on u.entry u.name c among) in
        into_flat (unreached_from h wanted) entries u.entry n c
        (Contains-filter_map (unreached_at h) (names_of (least_reader h) wanted u.entry) u.name n among (ap dir_unreached (sym (same_walk u.name s) ∙ u.refused)))

  -- the directories that were found are those that the search did not reach
  pub are_unreached : (all numbers : List ℕ) (dirs : List DirId) → all ≡ flat_map (unreached_from h wanted) entries → IsStrictlySortedBy nat_cmp numbers
      → ((n : ℕ) → Contains numbers n ↔ Contains all n) → map (λ d. d.0) dirs ≡ numbers → (r : Reader) → Agrees r h → AreUnreached r wanted first dirs
  are_unreached all numbers dirs are_all ascend same are r agrees = record {
    ascending = subst (IsStrictlySortedBy nat_cmp) (sym are) ascend;
    exactly = λ n. (
      λ c. is_unreached r agrees n (subst (λ (ns : List ℕ). Contains ns n) are_all ((same n).0 (subst (λ (ns : List ℕ). Contains ns n) are c))),
      λ u. subst (λ (ns : List ℕ). Contains ns n) (sym are) ((same n).1 (subst (λ (ns : List ℕ). Contains ns n) (sym are_all) (has_unreached r agrees n u))),
    );
  }
