-- The houses of member lists, as pointers have them.
use Rattle.std.proofs.Common.{◌≡◌, ℕ, suc, ◌+◌, ◌≤◌, List, [], ◌∷◌, length, Bool, true, false, refl, sym, ◌∙◌, arith}
use Rattle.std.specs.Prelude.{Option, Some, None, Err, if◌then◌else◌, ◌==◌, ◌||◌, nat_lt}
use Rattle.std.proofs.lemmas.Bool.Decides.{nat_tests}
use Rattle.std.proofs.lemmas.List.Sums.{sum_by-cons}
use Rattle.cds_stamps.proofs.MemberLaws.{no_members_fault}
use Rattle.cds_stamps.proofs.NameLaws.{no_fault}
use Rattle.cds_stamps.specs.Members.{Member, first_unordered, is_master, master_of, masters_in, members_fault, others_of}
use Rattle.cds_stamps.specs.declared.alloc_or.AllocOr.{AllocOr}
use Rattle.cds_stamps.specs.declared.alloc_or.AllocOr.TheVariants.{Fault, OutOfMemory}
use Rattle.cds_stamps.specs.Outcomes.{Answers, ok_unless}
use Rattle.cell_names.specs.declared.houses.HousesFault.{HousesFault}
use Rattle.cell_names.specs.Houses.{count_in_order, list_fault}

-- the others of a list that ascends are in order
in_order : (m place least low : ℕ) (ms : List Member) → first_unordered place least ms ≡ None → low ≤ least
    → count_in_order m low (others_of m ms) ≡ length (others_of m ms)
in_order m place least low [] ordered below = refl
in_order m place least low (y ∷ ys) ordered below =
    by_test (y.house == m) refl (λ from. in_order m (place + 1) (y.house + 1) from ys next.1)
  where
    next : (nat_lt y.house least ≡ false) × (first_unordered (place + 1) (y.house + 1) ys ≡ None)
    next = no_fault (nat_lt y.house least) place (first_unordered (place + 1) (y.house + 1) ys) ordered

    within : low ≤ y.house
    within = let first = next.0 in grind (arith, nat_tests, first, below)

    by_test : (b : Bool) → (y.house == m) ≡ b
        → ((from : ℕ) → from ≤ y.house + 1 → count_in_order m from (others_of m ys) ≡ length (others_of m ys))
        → count_in_order m low (if b then others_of m ys else y.house ∷ others_of m ys) ≡ length (if b then others_of m ys else y.house ∷ others_of m ys)
    by_test true is rest = rest low (omega (arith, within))
    by_test false is rest =
        let lawful : ((y.house == m) || nat_lt y.house low) ≡ false = grind (arith, nat_tests, is, within) in
        rw (lawful, rest (y.house + 1) (omega arith)) (omega arith)

at_most : (h : ℕ) (ms : List Member) → length (others_of h ms) ≤ length ms
at_most h [] = omega arith
at_most h (y ∷ ys) = by_test (y.house == h) (at_most h ys)
  where
    by_test : (b : Bool) → length (others_of h ys) ≤ length ys → length (if b then others_of h ys else y.house ∷ others_of h ys) ≤ suc (length ys)
    by_test true rest = omega (arith, rest)
    by_test false rest = omega (arith, rest)

-- the others are fewer than the members, where one is master
fewer : (ms : List Member) → masters_in ms ≡ 1 → length (others_of (master_of ms) ms) + 1 ≤ length ms
fewer [] one = absurd (omega (arith, one))
fewer (y ∷ ys) one = by_kind (is_master y.kind) refl (sym (sum_by-cons (λ (m : Member). if is_master m.kind then 1 else 0) y ys) ∙ one) (fewer ys)
  where
    by_kind : (b : Bool) → is_master y.kind ≡ b → (if b then 1 else 0) + masters_in ys ≡ 1
        → (masters_in ys ≡ 1 → length (others_of (master_of ys) ys) + 1 ≤ length ys)
        → length (others_of (if b then y.house else master_of ys) (y ∷ ys)) + 1 ≤ suc (length ys)
    by_kind true is count rest =
        let same : (y.house == y.house) ≡ true = grind (arith, nat_tests) in
        rw same (omega (arith, at_most y.house ys))
    by_kind false is count rest = by_test (y.house == master_of ys) (rest (omega (arith, count)))
      where
        by_test : (b : Bool) → length (others_of (master_of ys) ys) + 1 ≤ length ys
            → length (if b then others_of (master_of ys) ys else y.house ∷ others_of (master_of ys) ys) + 1 ≤ suc (length ys)
        by_test true rest = omega (arith, rest)
        by_test false rest = omega (arith, rest)

-- the houses of a member list are those of a pointer
pub lawful_houses : (ms : List Member) → members_fault ms ≡ None → list_fault (master_of ms) (others_of (master_of ms) ms) ≡ None
lawful_houses ms lawful =
    let facts = no_members_fault ms lawful in
    let ordered = in_order (master_of ms) 1 0 0 ms facts.2 (omega arith) in
    let few = fewer ms facts.3 in
    let short : length (others_of (master_of ms) ms) ≤ 63 = omega (arith, few, facts.1) in
    rw ordered (grind (arith, nat_tests, short))

-- where there is no fault, none is answered
pub no_answer : {T : Type 0} (o : Option HousesFault) (v : T) (e : AllocOr HousesFault) (f : HousesFault) → o ≡ None → e ≡ Fault f
    → Answers (Err e) (ok_unless o v) → ⊥
no_answer (Some h) v e f none is answer = absurd (cc (none))
no_answer None v OutOfMemory f none is answer = absurd (cc (is))
no_answer None v (Fault h) f none is answer = absurd (cc (answer))
