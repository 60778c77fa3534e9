-- Member lists as a console names them: where they have no fault, and what the loops that make them
-- have so far.
use Rattle.std.proofs.Common.{◌≡◌, ℕ, suc, add-one, get_or, ◌+◌, ◌≤◌, ◌<◌, Bool, true, false, cond, eqb, List, [], ◌∷◌, ◌++◌}
use Rattle.std.proofs.Common.{length, map, drop, Some, None, refl, sym, ◌∙◌, ap, arith, append_assoc, append-nil}
use Rattle.std.specs.Prelude.{nat_lt, is_some, ◌==◌, ◌&&◌, ◌||◌, if◌then◌else◌}
use Rattle.std.specs.List.{AllByRecursion, list_any, position_from}
use Rattle.std.proofs.Math.Seq.{drop-cons}
use Rattle.std.proofs.lemmas.Bool.Decides.{nat_tests}
use Rattle.std.proofs.lemmas.List.{length-map, map-append}
use Rattle.std.proofs.lemmas.List.Sums.{sum_by-cons}
use Rattle.cds_stamps.specs.declared.members.Member as declared
use Rattle.cds_stamps.specs.declared.members.MemberKind.TheVariants.{Master, ReadOnly, Secondary}
use Rattle.cds_stamps.specs.declared.numbers.HouseNo.{HouseNo}
use Rattle.cds_stamps.specs.Members.{Member, is_master, is_listed, since_in, members_of, masters_in, most_members, first_unordered, members_fault}
use Rattle.cell_model.specs.Sets.{has}
use Rattle.cell_model.specs.Steps.{sorted_houses, is_bad_list, kind_among, left_members, member_list_of, stands_twice}
use Rattle.cell_script.specs.declared.lists.Listed.{Listed}
use Rattle.cell_script.specs.Listings.{secondaries_in}
use Rattle.house_directory.specs.HouseMessages.{numbers_of}
use Rattle.cds_cell.proofs.Ascending.{Rises, above_all, all_from_zero, ascending_rises, ascending_times, length_ascending, one_if, times, twice_ascending}

-- ---- tests

-- a house is among others exactly where its number does
pub contains_number : (x : ℕ) (hs : List HouseNo) → list_any (λ (h : HouseNo). eqb h.0 x) hs ≡ has x (numbers_of hs)
contains_number x [] = refl
contains_number x (h ∷ hs) = let flip : eqb h.0 x ≡ (x == h.0) = grind (arith, nat_tests) in cc (flip, contains_number x hs)

-- a house is a secondary one of a list exactly where its number is among theirs
pub secondary_number : (x : ℕ) (ls : List Listed) → list_any (λ (l : Listed). l.secondary && eqb l.house.0 x) ls ≡ has x (numbers_of (secondaries_in ls))
secondary_number x [] = refl
secondary_number x (l ∷ ls) = by_kind l.secondary (secondary_number x ls)
  where
    by_kind : (b : Bool) → list_any (λ (y : Listed). y.secondary && eqb y.house.0 x) ls ≡ has x (numbers_of (secondaries_in ls))
        → ((b && eqb l.house.0 x) || list_any (λ (y : Listed). y.secondary && eqb y.house.0 x) ls)
        ≡ has x (numbers_of (if b then l.house ∷ secondaries_in ls else secondaries_in ls))
    by_kind true rest = let flip : eqb l.house.0 x ≡ (x == l.house.0) = grind (arith, nat_tests) in cc (flip, rest)
    by_kind false rest = rest

-- a house is listed exactly where a place of it is found
pub listed_by_place : (x i : ℕ) (ms : List Member) → is_listed x ms ≡ is_some (position_from (λ (m : Member). m.house == x) i ms)
listed_by_place x i [] = refl
listed_by_place x i (m ∷ ms) = go (m.house == x) (listed_by_place x (i + 1) ms)
  where
    go : (b : Bool) → is_listed x ms ≡ is_some (position_from (λ (y : Member). y.house == x) (i + 1) ms)
        → (b || is_listed x ms) ≡ is_some (cond b (Some i) (position_from (λ (y : Member). y.house == x) (i + 1) ms))
    go true rest = refl
    go false rest = rest

-- a house is there twice where it is after its place, or where one after it does
pub twice_behind : (h : HouseNo) (behind : List HouseNo) (b : Bool) → b ≡ list_any (λ (x : HouseNo). eqb x.0 h.0) behind
    → stands_twice (numbers_of (h ∷ behind)) ≡ (b || stands_twice (numbers_of behind))
twice_behind h behind b is = ap (λ (x : Bool). x || stands_twice (numbers_of behind)) (sym (is ∙ contains_number h.0 behind))

-- with too many others a list is bad
pub bad_by_number : (m : ℕ) (hs : List HouseNo) → most_members ≤ length hs → is_bad_list (m ∷ numbers_of hs) ≡ true
bad_by_number m hs many =
    let count = length-map hs (λ (h : HouseNo). h.0) in
    let over : nat_lt most_members (suc (length (numbers_of hs))) ≡ true = grind (arith, nat_tests, count, many) in
    rw over (either (stands_twice (m ∷ numbers_of hs)))
  where
    either : (b : Bool) → (b || true) ≡ true
    either true = refl
    either false = refl

-- with no more than that, it is where a house is there twice
pub bad_by_houses : (m : ℕ) (hs : List HouseNo) (b : Bool) → length hs < most_members → b ≡ list_any (λ (x : HouseNo). eqb x.0 m) hs
    → is_bad_list (m ∷ numbers_of hs) ≡ (b || stands_twice (numbers_of hs))
bad_by_houses m hs b few is =
    let count = length-map hs (λ (h : HouseNo). h.0) in
    let within : nat_lt most_members (suc (length (numbers_of hs))) ≡ false = grind (arith, nat_tests, count, few) in
    rw within (plain (has m (numbers_of hs) || stands_twice (numbers_of hs))
    ∙ ap (λ (x : Bool). x || stands_twice (numbers_of hs)) (sym (is ∙ contains_number m hs)))
  where
    plain : (x : Bool) → (x || false) ≡ x
    plain true = refl
    plain false = refl

neither : (a b : Bool) → (a || b) ≡ false → (a ≡ false) × (b ≡ false)
neither true b off = cc
neither false b off = (refl, off)

-- ---- lists without a fault

none_stands : (z : ℕ) (xs : List ℕ) → has z xs ≡ false → times z xs ≡ 0
unfolding times
none_stands z [] out = refl
none_stands z (x ∷ xs) out =
    let apart = neither (z == x) (has z xs) out in
    let first = apart.0 in
    let other : (x == z) ≡ false = grind (arith, nat_tests, first) in
    let rest = none_stands z xs apart.1 in
    rw other (omega (arith, rest))

stands_first : (z : ℕ) (xs : List ℕ) → has z xs ≡ false → times z (z ∷ xs) ≡ 1
unfolding times
stands_first z xs out = let same : (z == z) ≡ true = grind (arith, nat_tests) in rw (same, none_stands z xs out) refl

module _ (old : List Member) (k m : ℕ) (ss : List ℕ) where
  -- the member that a house is, in a new list
  abbrev pub listed_as : ℕ → Member
  listed_as x = record { house = x; since = since_in old x k; kind = kind_among m ss x }

  rising_is_ordered : (place least : ℕ) (xs : List ℕ) → Rises xs → AllByRecursion (λ y. least ≤ y) xs → stands_twice xs ≡ false
      → first_unordered place least (map listed_as xs) ≡ None
  rising_is_ordered place least [] rises all once = refl
  rising_is_ordered place least (x ∷ xs) rises all once =
      let more = all.0 in
      let apart = neither (has x xs) (stands_twice xs) once in
      let below : nat_lt x least ≡ false = grind (arith, nat_tests, more) in
      rw below (rising_is_ordered (place + 1) (x + 1) xs rises.1 (above_all x xs rises.0 apart.0) apart.1)

  masters_listed : (xs : List ℕ) → masters_in (map listed_as xs) ≡ times m xs
  unfolding times
  masters_listed [] = refl
  masters_listed (x ∷ xs) =
      sum_by-cons (λ (y : Member). cond (is_master y.kind) 1 0) (listed_as x) (map listed_as xs)
      ∙ cc (is_one (x == m) (has x ss), masters_listed xs)
    where
      is_one : (b t : Bool) → cond (is_master (if b then Master else (if t then Secondary else ReadOnly))) 1 0 ≡ one_if b
      is_one true t = refl
      is_one false true = refl
      is_one false false = refl

  -- a list that is not bad has no fault
  pub good_listing : (rs : List ℕ) → is_bad_list (m ∷ rs) ≡ false → members_fault (member_list_of old k m rs ss) ≡ None
  good_listing rs good =
      let tests = neither (stands_twice (m ∷ rs)) (nat_lt most_members (length (m ∷ rs))) good in
      let lone = neither (has m rs) (stands_twice rs) tests.0 in
      let count : length (member_list_of old k m rs ss) ≡ suc (length rs) = length-map (sorted_houses (m ∷ rs)) listed_as ∙ length_ascending (m ∷ rs) in
      let few = tests.1 in
      let counted : ((length (member_list_of old k m rs ss) == 0) || nat_lt most_members (length (member_list_of old k m rs ss))) ≡ false = grind (arith, nat_tests, count, few) in
      let ordered = rising_is_ordered 1 0 (sorted_houses (m ∷ rs)) (ascending_rises (m ∷ rs)) (all_from_zero (sorted_houses (m ∷ rs)))
      (twice_ascending (m ∷ rs) ∙ tests.0) in
      let one : masters_in (member_list_of old k m rs ss) ≡ 1 = masters_listed (sorted_houses (m ∷ rs)) ∙ ascending_times m (m ∷ rs) ∙ stands_first m rs lone.0 in
      rw (counted, ordered, one) refl

-- ---- loops

-- the members so far, and those that the other houses are to be, are the whole list
pub record ListsRest (old : List Member) (k m : ℕ) (rs ss : List ℕ) (rest : List HouseNo) (made : List declared.Member) : Type 0 where
  pub is : members_of made ++ map (listed_as old k m ss) (numbers_of rest) ≡ member_list_of old k m rs ss

-- where no house is left they are the whole list
pub lists_end : (old : List Member) (k m : ℕ) (rs ss : List ℕ) (rest : List HouseNo) (made : List declared.Member) → ListsRest old k m rs ss rest made → rest ≡ []
    → members_of made ≡ member_list_of old k m rs ss
lists_end old k m rs ss rest made h none =
    sym (append-nil (members_of made)) ∙ ap (λ hs. members_of made ++ map (listed_as old k m ss) (numbers_of hs)) (sym none) ∙ h.is

-- the houses that leave so far, and those of the rest that do, are all that leave
pub record LeavesRest (old now : List Member) (rest : List declared.Member) (left : List HouseNo) : Type 0 where
  pub is : numbers_of left ++ left_members (members_of rest) now ≡ left_members old now

-- a house that is still listed does not leave
pub leaves_pass : (old now : List Member) (before : List declared.Member) (i : ℕ) (d : declared.Member) (left : List HouseNo) → i < length before
    → is_listed (get_or before i d).house.0 now ≡ true → LeavesRest old now (drop i before) left → LeavesRest old now (drop (i + 1) before) left
leaves_pass old now before i d left within listed h = record {
  is =
      rw add-one (ap (λ b. numbers_of left ++ (if b then left_members (members_of (drop (suc i) before)) now
      else (get_or before i d).house.0 ∷ left_members (members_of (drop (suc i) before)) now)) (sym listed)
      ∙ ap (λ ms. numbers_of left ++ left_members (members_of ms) now) (sym (drop-cons before i d within)) ∙ h.is);
}

-- one that is not does
pub leaves_on : (old now : List Member) (before : List declared.Member) (i : ℕ) (d : declared.Member) (left more : List HouseNo) → i < length before
    → is_listed (get_or before i d).house.0 now ≡ false → more ≡ left ++ (get_or before i d).house ∷ [] → LeavesRest old now (drop i before) left
    → LeavesRest old now (drop (i + 1) before) more
leaves_on old now before i d left more within unlisted pushed h =
    let rest : List ℕ = left_members (members_of (drop (suc i) before)) now in
    let goes : numbers_of more ++ rest ≡ left_members old now =
    ap (λ hs. numbers_of hs ++ rest) pushed
    ∙ ap (λ ns. ns ++ rest) (map-append (λ (x : HouseNo). x.0) left ((get_or before i d).house ∷ []))
    ∙ append_assoc (numbers_of left) ((get_or before i d).house.0 ∷ []) rest
    ∙ ap (λ b. numbers_of left ++ (if b then rest else (get_or before i d).house.0 ∷ rest)) (sym unlisted)
    ∙ ap (λ ms. numbers_of left ++ left_members (members_of ms) now) (sym (drop-cons before i d within)) ∙ h.is in
    record { is = rw add-one goes }
