-- The kinds of the members of a list: how lines list them, and that the secondary ones are some of
-- the others.
use Rattle.std.proofs.Common.{◌≡◌, inl, inr, ⊎_elim, ℕ, ◌+◌, ◌<◌, ◌≤◌, le_refl, Bool, true, false, ◌||◌, List, [], ◌∷◌, ◌++◌, map, refl, sym, ◌∙◌, ap, subst}
use Rattle.std.proofs.Common.{arith, if◌then◌else◌}
use Rattle.std.specs.Prelude.{None, Some, ◌==◌, nat_lt, filter}
use Rattle.std.specs.List.{AllByRecursion}
use Rattle.std.proofs.lemmas.Bool.Decides.{nat_tests}
use Rattle.cds_stamps.specs.Members.{Member, first_unordered, is_master, is_secondary, master_of, members_fault, members_of, others_of, secondaries_of}
use Rattle.cds_stamps.specs.declared.members.Member as declared
use Rattle.cds_stamps.specs.declared.members.MemberKind.{MemberKind}
use Rattle.cds_stamps.specs.declared.members.MemberKind.TheVariants.{Master, ReadOnly, Secondary}
use Rattle.cds_stamps.specs.declared.numbers.HouseNo.{HouseNo}
use Rattle.cds_stamps.proofs.MemberLaws.{no_members_fault}
use Rattle.cell_model.specs.Sets.{In, has}
use Rattle.cell_model.proofs.Answerings.{Once}
use Rattle.cell_model.proofs.Lists.{eq_from, eq_to, or_cases}
use Rattle.cell_model.proofs.PresentLists.{houses_of}
use Rattle.cell_script.specs.declared.lists.Listed.{Listed}
use Rattle.command_lines.specs.ListedMembers.{listed_member, listed_others}
use Rattle.mend_replay.specs.MendLines.{listed_house}
use Rattle.mend_model.specs.Leaving.{kept_members}
use Rattle.mend_replay.specs.PrivateLines.{AreOrdered, led_member}

-- ---- houses that stand once

least_of : (place least : ℕ) (ms : List Member) → first_unordered place least ms ≡ None → (x : ℕ) → In x (houses_of ms) → least ≤ x
least_of place least [] none x i = elim i [ ]
least_of place least (y ∷ ys) none x i =
    by_order (λ none i. least_of (place + 1) (y.house + 1) ys none x i) (nat_lt y.house least) refl none i
  where
    by_order : (first_unordered (place + 1) (y.house + 1) ys ≡ None → In x (houses_of ys) → y.house + 1 ≤ x)
        → (b : Bool) → nat_lt y.house least ≡ b → (if b then Some place else first_unordered (place + 1) (y.house + 1) ys) ≡ None
        → In x (houses_of (y ∷ ys)) → least ≤ x
    by_order behind true below none i = absurd (cc (none))
    by_order behind false below none (inl same) = let low : least ≤ y.house = grind (arith, nat_tests, below) in omega (arith, same, low)
    by_order behind false below none (inr i) =
        let low : least ≤ y.house = grind (arith, nat_tests, below) in let more = behind none i in omega (arith, low, more)

-- no house of a list in ascending order is there twice
pub once_ordered : (place least : ℕ) (ms : List Member) → first_unordered place least ms ≡ None → Once (houses_of ms)
once_ordered place least [] none = tt
once_ordered place least (y ∷ ys) none =
    by_order (λ none. once_ordered (place + 1) (y.house + 1) ys none) (nat_lt y.house least) none
  where
    by_order : (first_unordered (place + 1) (y.house + 1) ys ≡ None → Once (houses_of ys))
        → (b : Bool) → (if b then Some place else first_unordered (place + 1) (y.house + 1) ys) ≡ None → Once (houses_of (y ∷ ys))
    by_order behind true none = absurd (cc (none))
    by_order behind false none =
        (λ i. let low = least_of (place + 1) (y.house + 1) ys none y.house i in absurd (omega (arith, low)), behind none)

-- a member list is in ascending order
pub ordered_members : (ms : List Member) → members_fault ms ≡ None → AreOrdered ms
ordered_members ms lawful = (no_members_fault ms lawful).2

-- a list in ascending order from some house on is so from lower ones on, whatever its places
ordered_lower : (place place' least least' : ℕ) (ms : List Member) → least' ≤ least → first_unordered place least ms ≡ None
    → first_unordered place' least' ms ≡ None
ordered_lower place place' least least' [] le none = refl
ordered_lower place place' least least' (y ∷ ys) le none =
    by_order (λ none. ordered_lower (place + 1) (place' + 1) (y.house + 1) (y.house + 1) ys (le_refl (y.house + 1)) none)
    (nat_lt y.house least) refl (nat_lt y.house least') refl none
  where
    by_order : (first_unordered (place + 1) (y.house + 1) ys ≡ None → first_unordered (place' + 1) (y.house + 1) ys ≡ None)
        → (a : Bool) → nat_lt y.house least ≡ a → (b : Bool) → nat_lt y.house least' ≡ b
        → (if a then Some place else first_unordered (place + 1) (y.house + 1) ys) ≡ None
        → (if b then Some place' else first_unordered (place' + 1) (y.house + 1) ys) ≡ None
    by_order behind true ea b eb none = absurd (cc (none))
    by_order behind false ea true eb none =
        let high : least ≤ y.house = grind (arith, nat_tests, ea) in
        let low : y.house < least' = grind (arith, nat_tests, eb) in absurd (omega (arith, high, low, le))
    by_order behind false ea false eb none = behind none

-- those that stay are in ascending order
kept_in_order : (hs : List ℕ) (m place least : ℕ) (ms : List Member) → first_unordered place least ms ≡ None
    → first_unordered place least (kept_members hs m ms) ≡ None
kept_in_order hs m place least [] none = refl
kept_in_order hs m place least (y ∷ ys) none =
    by_place (λ none. kept_in_order hs m place least ys none) (λ none. kept_in_order hs m (place + 1) (y.house + 1) ys none)
    (nat_lt y.house least) refl (has y.house hs) none
  where
    by_place : (first_unordered place least ys ≡ None → first_unordered place least (kept_members hs m ys) ≡ None)
        → (first_unordered (place + 1) (y.house + 1) ys ≡ None → first_unordered (place + 1) (y.house + 1) (kept_members hs m ys) ≡ None)
        → (a : Bool) → nat_lt y.house least ≡ a → (b : Bool) → (if a then Some place else first_unordered (place + 1) (y.house + 1) ys) ≡ None
        → first_unordered place least (if b then kept_members hs m ys else led_member m y ∷ kept_members hs m ys) ≡ None
    by_place here behind true ea b none = absurd (cc (none))
    by_place here behind false ea true none =
        let high : least ≤ y.house + 1 = (let le : least ≤ y.house = grind (arith, nat_tests, ea) in omega (arith, le)) in
        here (ordered_lower (place + 1) place (y.house + 1) least ys high none)
    by_place here behind false ea false none =
        ap (λ (b : Bool). if b then Some place else first_unordered (place + 1) (y.house + 1) (kept_members hs m ys)) ea ∙ behind none

pub ordered_kept : (hs : List ℕ) (m : ℕ) (ms : List Member) → AreOrdered ms → AreOrdered (kept_members hs m ms)
ordered_kept hs m ms ordered = kept_in_order hs m 1 0 ms ordered

-- ---- which are secondary

-- a secondary house is one of the list
secondary_there : (x : ℕ) (ms : List Member) → has x (secondaries_of ms) ≡ true → In x (houses_of ms)
secondary_there x [] e = absurd (cc (e))
secondary_there x (y ∷ ys) e = by_kind (λ e. secondary_there x ys e) (is_secondary y.kind) e
  where
    by_kind : (has x (secondaries_of ys) ≡ true → In x (houses_of ys))
        → (b : Bool) → has x (if b then y.house ∷ secondaries_of ys else secondaries_of ys) ≡ true → In x (houses_of (y ∷ ys))
    by_kind behind true e =
        ⊎_elim (λ (same : (x == y.house) ≡ true). inl (eq_from x y.house same)) (λ (o : has x (secondaries_of ys) ≡ true). inr (behind o))
        (or_cases (x == y.house) (has x (secondaries_of ys)) e)
    by_kind behind false e = inr (behind e)

-- these houses are secondary exactly where their members are
abbrev pub KindsKnown : (ss : List ℕ) → List Member → Type 0
KindsKnown ss = AllByRecursion (λ (y : Member). has y.house ss ≡ is_secondary y.kind)

-- one more secondary house in front, which is none of the list
more_kinds : (b : Bool) (x : ℕ) (ss : List ℕ) (ms : List Member) → (In x (houses_of ms) → ⊥) → KindsKnown ss ms
    → KindsKnown (if b then x ∷ ss else ss) ms
more_kinds b x ss [] apart all = tt
more_kinds b x ss (y ∷ ys) apart all = (by_kind b, more_kinds b x ss ys (λ i. apart (inr i)) all.1)
  where
    other : (y.house == x) ≡ false
    other = by_test (y.house == x) refl
      where
        by_test : (t : Bool) → (y.house == x) ≡ t → t ≡ false
        by_test true same = absurd (apart (inl (sym (eq_from y.house x same))))
        by_test false same = refl

    by_kind : (b : Bool) → has y.house (if b then x ∷ ss else ss) ≡ is_secondary y.kind
    by_kind true = ap (λ (t : Bool). t || has y.house ss) other ∙ all.0
    by_kind false = all.0

pub kinds_known : (ms : List Member) → Once (houses_of ms) → KindsKnown (secondaries_of ms) ms
kinds_known [] once = tt
kinds_known (z ∷ zs) once =
    (by_kind (is_secondary z.kind), more_kinds (is_secondary z.kind) z.house (secondaries_of zs) zs once.0 (kinds_known zs once.1))
  where
    by_kind : (b : Bool) → has z.house (if b then z.house ∷ secondaries_of zs else secondaries_of zs) ≡ b
    by_kind true = ap (λ (t : Bool). t || has z.house (secondaries_of zs)) (eq_to z.house z.house refl)
    by_kind false = none (has z.house (secondaries_of zs)) refl
      where
        none : (t : Bool) → has z.house (secondaries_of zs) ≡ t → t ≡ false
        none true there = absurd (once.0 (secondary_there z.house zs there))
        none false there = refl

-- ---- how lines list them

-- the members but the master are listed as the others
pub listed_match : (ss : List ℕ) (m : HouseNo) (ms : List declared.Member) → KindsKnown ss (members_of ms)
    → listed_others m ms ≡ map (listed_house ss) (others_of m.0 (members_of ms))
listed_match ss m [] all = refl
listed_match ss m (y ∷ ys) all = by_house (listed_match ss m ys all.1) (y.house.0 == m.0)
  where
    by_house : listed_others m ys ≡ map (listed_house ss) (others_of m.0 (members_of ys)) → (b : Bool)
        → (if b then listed_others m ys else listed_member y ∷ listed_others m ys)
        ≡ map (listed_house ss) (if b then others_of m.0 (members_of ys) else y.house.0 ∷ others_of m.0 (members_of ys))
    by_house rest true = rest
    by_house rest false =
        ap (λ (ls : List Listed). listed_member y ∷ ls) rest
        ∙ ap (λ (b : Bool). let first : Listed = record { house = y.house; secondary = b } in first ∷ map (listed_house ss) (others_of m.0 (members_of ys)))
        (sym all.0)

-- ---- secondary ones among the others

-- a member of this house is not secondary
abbrev pub NotSecondary : ℕ → List Member → Type 0
NotSecondary m = AllByRecursion (λ (y : Member). (y.house == m) ≡ true → is_secondary y.kind ≡ false)

-- so the secondary houses are some of the others, in their order
pub among_others : (ss : List ℕ) (m : ℕ) (ms : List Member) → KindsKnown ss ms → NotSecondary m ms
    → secondaries_of ms ≡ filter (λ x. has x ss) (others_of m ms)
among_others ss m [] all apart = refl
among_others ss m (y ∷ ys) all apart = by_house (among_others ss m ys all.1 apart.1) (y.house == m) refl
  where
    by_house : secondaries_of ys ≡ filter (λ x. has x ss) (others_of m ys) → (b : Bool) → (y.house == m) ≡ b
        → (if is_secondary y.kind then y.house ∷ secondaries_of ys else secondaries_of ys)
        ≡ filter (λ x. has x ss) (if b then others_of m ys else y.house ∷ others_of m ys)
    by_house rest true same =
        ap (λ (b : Bool). if b then y.house ∷ secondaries_of ys else secondaries_of ys) (apart.0 same) ∙ rest
    by_house rest false same =
        ap (λ (b : Bool). if b then y.house ∷ secondaries_of ys else secondaries_of ys) (sym all.0) ∙ by_kind (has y.house ss) rest
      where
        by_kind : (b : Bool) → secondaries_of ys ≡ filter (λ x. has x ss) (others_of m ys)
            → (if b then y.house ∷ secondaries_of ys else secondaries_of ys)
            ≡ (if b then y.house ∷ filter (λ x. has x ss) (others_of m ys) else filter (λ x. has x ss) (others_of m ys))
        by_kind true rest = ap (λ (xs : List ℕ). y.house ∷ xs) rest
        by_kind false rest = rest

master_first : (k : MemberKind) → is_master k ≡ true → is_secondary k ≡ false
master_first Master is = refl
master_first ReadOnly is = absurd (cc (is))
master_first Secondary is = absurd (cc (is))

-- the master is one of the list, or there is none
master_there : (ms : List Member) → 1 ≤ master_of ms → In (master_of ms) (houses_of ms)
master_there [] some = absurd (omega (arith, some))
master_there (y ∷ ys) some = by_kind (λ some. master_there ys some) (is_master y.kind) some
  where
    by_kind : (1 ≤ master_of ys → In (master_of ys) (houses_of ys)) → (b : Bool) → 1 ≤ (if b then y.house else master_of ys)
        → In (if b then y.house else master_of ys) (houses_of (y ∷ ys))
    by_kind behind true some = inl refl
    by_kind behind false some = inr (behind some)

apart_from : (m : ℕ) (ms : List Member) → (In m (houses_of ms) → ⊥) → NotSecondary m ms
apart_from m [] apart = tt
apart_from m (y ∷ ys) apart = (λ same. absurd (apart (inl (sym (eq_from y.house m same)))), apart_from m ys (λ i. apart (inr i)))

-- the master is not secondary
pub master_apart : (ms : List Member) → Once (houses_of ms) → 1 ≤ master_of ms → NotSecondary (master_of ms) ms
master_apart [] once some = tt
master_apart (y ∷ ys) once some = by_kind (λ some. master_apart ys once.1 some) (is_master y.kind) refl some
  where
    by_kind : (1 ≤ master_of ys → NotSecondary (master_of ys) ys) → (b : Bool) → is_master y.kind ≡ b → 1 ≤ (if b then y.house else master_of ys)
        → NotSecondary (if b then y.house else master_of ys) (y ∷ ys)
    by_kind behind true is some = (λ same. master_first y.kind is, apart_from y.house ys once.0)
    by_kind behind false is some =
        (λ same. absurd (once.0 (subst (λ (x : ℕ). In x (houses_of ys)) (sym (eq_from y.house (master_of ys) same)) (master_there ys some))), behind some)
