-- Member lists: the lists without a fault, and the places of houses.
use Rattle.std.proofs.Common.{◌≡◌, ℕ, ◌+◌, ◌<◌, ◌≤◌, Bool, false, cond, List, [], ◌∷◌, length, map, Option, Some, None, refl, sym, ap, arith}
use Rattle.std.specs.Prelude.{◌↔◌, ◌==◌, ◌||◌, nat_lt}
use Rattle.std.specs.declared.cmp.Ordering.TheVariants.{Less}
use Rattle.std.specs.List.{position_from, AllByRecursion}
use Rattle.std.specs.List.Sorted.{IsStrictlySortedBy}
use Rattle.std.specs.Ordering.{nat_cmp}
use Rattle.std.specs.Cmp.{nat_cmp_is}
use Rattle.std.proofs.lemmas.Map.Keys.{IsStrictlyIncreasing-from_sorted, sorted_from_strictly_increasing}
use Rattle.cds_stamps.specs.declared.members.MembersFault.TheVariants.{BadCount}
use Rattle.cds_stamps.proofs.NameLaws.{no_fault}
use Rattle.cds_stamps.specs.Members.{Member, most_members, masters_in, IsAscending, IsMembers, first_unordered, master_fault, unordered_or, members_fault}

-- the first place in a mapped list
pub position_from-map : {A B : Type 0} (f : A → B) (p : B → Bool) (i : ℕ) (xs : List A) → position_from (λ x. p (f x)) i xs ≡ position_from p i (map f xs)
position_from-map f p i [] = refl
position_from-map f p i (x ∷ xs) = ap (cond (p (f x)) (Some i)) (position_from-map f p (i + 1) xs)

abbrev houses : List Member → List ℕ
houses = map (λ m. m.house)

all_from : (least : ℕ) (hs : List ℕ) → AllByRecursion (λ h. least + 1 ≤ h) hs → AllByRecursion (λ h. least ≤ h) hs
all_from least [] p = tt
all_from least (h ∷ hs) p = (omega (arith, p.0), all_from least hs p.1)

all_less : (x : ℕ) (hs : List ℕ) → AllByRecursion (λ h. x + 1 ≤ h) hs → AllByRecursion (λ h. nat_cmp x h ≡ Less) hs
all_less x [] p = tt
all_less x (h ∷ hs) p = (sym (nat_cmp_is x h Less (omega (arith, p.0))), all_less x hs p.1)

all_more : (x : ℕ) (hs : List ℕ) → AllByRecursion (λ h. nat_cmp x h ≡ Less) hs → AllByRecursion (λ h. x + 1 ≤ h) hs
all_more x [] p = tt
all_more x (h ∷ hs) p = (grind (arith, p.0), all_more x hs p.1)

all_at_least : (least x : ℕ) (hs : List ℕ) → least ≤ x → AllByRecursion (λ h. x + 1 ≤ h) hs → AllByRecursion (λ h. least ≤ h) hs
all_at_least least x [] e p = tt
all_at_least least x (h ∷ hs) e p = (omega (arith, p.0), all_at_least least x hs e p.1)

-- with none out of order, each house is above the one before it, and none is below the least
ordered : (place least : ℕ) (ms : List Member) → first_unordered place least ms ≡ None
    → AllByRecursion (λ h. least ≤ h) (houses ms) × IsStrictlySortedBy nat_cmp (houses ms)
unfolding IsStrictlySortedBy
ordered place least [] e = (tt, tt)
ordered place least (m ∷ ms) e =
    let test = no_fault (nat_lt m.house least) place (first_unordered (place + 1) (m.house + 1) ms) e in
    let within : least ≤ m.house = grind (arith, test.0) in
    let rest = ordered (place + 1) (m.house + 1) ms test.1 in
    ((within, all_at_least least m.house (houses ms) within rest.0), (all_less m.house (houses ms) rest.0, rest.1))

none_unordered : (place least : ℕ) (ms : List Member) → AllByRecursion (λ h. least ≤ h) (houses ms) → IsStrictlySortedBy nat_cmp (houses ms)
    → first_unordered place least ms ≡ None
unfolding IsStrictlySortedBy
none_unordered place least [] low sorted = refl
none_unordered place least (m ∷ ms) low sorted =
    let within : nat_lt m.house least ≡ false = grind (arith, low.0) in
    rw within (none_unordered (place + 1) (m.house + 1) ms (all_more m.house (houses ms) sorted.0) sorted.1)

all_from_0 : (hs : List ℕ) → AllByRecursion (λ h. 0 ≤ h) hs
all_from_0 [] = tt
all_from_0 (h ∷ hs) = (omega arith, all_from_0 hs)

none_of_both : (masters : ℕ) (place : Option ℕ) → unordered_or (master_fault masters) place ≡ None → (place ≡ None) × (masters ≡ 1)
none_of_both masters None e = (refl, grind (arith, e))
none_of_both masters (Some place) e = cc

-- none is out of order exactly where the house numbers ascend
pub first_unordered-none : (ms : List Member) → (first_unordered 1 0 ms ≡ None) ↔ IsAscending ms
first_unordered-none ms = (
  λ e. IsStrictlyIncreasing-from_sorted (houses ms) (ordered 1 0 ms e).1,
  λ ascending. none_unordered 1 0 ms (all_from_0 (houses ms)) (sorted_from_strictly_increasing (houses ms) ascending),
)

-- no fault: their number, their order and the masters are lawful
pub no_members_fault : (ms : List Member) → members_fault ms ≡ None
    → (0 < length ms) × (length ms ≤ most_members) × (first_unordered 1 0 ms ≡ None) × (masters_in ms ≡ 1)
no_members_fault ms e =
    let count = no_fault ((length ms == 0) || nat_lt most_members (length ms)) BadCount _ e in
    let both = none_of_both (masters_in ms) (first_unordered 1 0 ms) count.1 in
    (grind (arith, count.0), grind (arith, count.0), both.0, both.1)

-- no fault is found exactly in member lists
pub members_fault-none : (ms : List Member) → (members_fault ms ≡ None) ↔ IsMembers ms
members_fault-none ms = (
  λ e. let facts = no_members_fault ms e in record { filled = facts.0; few = facts.1; ascending = (first_unordered-none ms).0 facts.2; one_master = facts.3 },
  λ members.
      let count : ((length ms == 0) || nat_lt most_members (length ms)) ≡ false = grind (arith, members.filled, members.few) in
      let sorted : first_unordered 1 0 ms ≡ None = (first_unordered-none ms).1 members.ascending in
      rw (count, sorted, members.one_master) refl,
)
