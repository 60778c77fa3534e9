-- Reading members one after another, as a loop does, and that they are a member list.
use Rattle.std.proofs.Common.{◌≡◌, ℕ, zero, suc, ◌-◌, ◌+◌, ◌≤◌, ◌<◌, Bool, true, false, List, [], ◌∷◌, ◌++◌, length, Option, Some, None, Result, Ok, Err}
use Rattle.std.proofs.Common.{refl, sym, ap, subst, ◌∙◌, append_assoc, append-nil, arith}
use Rattle.std.specs.Prelude.{◌||◌, ◌==◌, not, nat_lt, if◌then◌else◌}
use Rattle.std.proofs.lemmas.List.{length-map}
use Rattle.std.proofs.lemmas.List.Sums.{sum_by-cons}
use Rattle.cds_stamps.specs.declared.members.Member.{Member}
use Rattle.cds_stamps.specs.Members.{Member as listed_member}
use Rattle.cds_stamps.specs.Members.{is_master, member_of, members_of, members_fault, first_unordered, masters_in, most_members}
use Rattle.record_fields.specs.declared.fault.Broken.{Broken}
use Rattle.record_fields.specs.Layouts.{next, done}
use Rattle.record_fields.specs.LayoutReading.{◌>>=◌, read}
use Rattle.record_fields.specs.Fields.{number_order, octet}
use Rattle.cds_messages.specs.KindNumbers.{kind_in}
use Rattle.cds_records.specs.Records.{kind_rule, member_kind, member, member_list}
use Rattle.record_fields.proofs.LayoutLaws.{ok_is, bind_ok, read_stands}

-- the members before, and those that are still to be read
abbrev pub behind : List Member → Result (List Member × List ℕ) Broken → Result (List Member × List ℕ) Broken
behind front r = r >>= λ y. Ok (front ++ y.0, y.1)

regroup : (front : List Member) (m : Member) (r : Result (List Member × List ℕ) Broken)
    → behind front (r >>= λ y. Ok (m ∷ y.0, y.1)) ≡ behind (front ++ m ∷ []) r
regroup front m (Ok y) = ap (λ (ms : List Member). Ok (ms, y.1)) (sym (append_assoc front (m ∷ []) y.0))
regroup front m (Err b) = refl

-- before the first member all of the list is to come
pub members_begin : (secondary : Bool) (count : ℕ) (x : List ℕ) → behind [] (read (member_list secondary (count - 0) None false) x) ≡ read (member_list secondary count None false) x
members_begin secondary count x = let k : count - 0 ≡ count = omega arith in rw k (nothing_before (read (member_list secondary count None false) x))
  where
    nothing_before : (r : Result (List Member × List ℕ) Broken) → behind [] r ≡ r
    nothing_before (Ok y) = refl
    nothing_before (Err b) = refl

-- a member that was read brings the loop one further
pub members_go_on : (secondary : Bool) (front : List Member) (count i : ℕ) (before : Option ℕ) (master : Bool) (x : List ℕ) (m : Member) (z : List ℕ)
    (total : Result (List Member × List ℕ) Broken) → i < count → read (member secondary (count - i - 1) before master) x ≡ Ok (m, z)
    → behind front (read (member_list secondary (count - i) before master) x) ≡ total
    → behind (front ++ m ∷ []) (read (member_list secondary (count - (i + 1)) (Some m.house.0) (master || is_master m.kind)) z) ≡ total
unfolding member_list
members_go_on secondary front count i before master x m z total lt h so_far =
    let k : count - i ≡ suc (count - (i + 1)) = omega arith in
    let j : count - i - 1 ≡ count - (i + 1) = omega arith in
    let read_here : read (member secondary (count - (i + 1)) before master) x ≡ Ok (m, z) = ap (λ n. read (member secondary n before master) x) (sym j) ∙ h in
    let one : behind front (read (member_list secondary (count - i) before master) x) ≡ behind (front ++ m ∷ [])
    (read (member_list secondary (count - (i + 1)) (Some m.house.0) (master || is_master m.kind)) z) = rw (k, read_here)
    (regroup front m (read (member_list secondary (count - (i + 1)) (Some m.house.0) (master || is_master m.kind)) z)) in
    sym one ∙ so_far

-- a member that fails fails the list
pub members_end : (secondary : Bool) (b : Broken) (front : List Member) (count i : ℕ) (before : Option ℕ) (master : Bool) (x start : List ℕ) → i < count
    → read (member secondary (count - i - 1) before master) x ≡ Err b
    → behind front (read (member_list secondary (count - i) before master) x) ≡ read (member_list secondary count None false) start → read (member_list secondary count None false) start ≡ Err b
unfolding member_list
members_end secondary b front count i before master x start lt h so_far =
    let k : count - i ≡ suc (count - (i + 1)) = omega arith in
    let j : count - i - 1 ≡ count - (i + 1) = omega arith in
    let read_here : read (member secondary (count - (i + 1)) before master) x ≡ Err b = ap (λ n. read (member secondary n before master) x) (sym j) ∙ h in
    let one : behind front (read (member_list secondary (count - i) before master) x) ≡ Err b = rw (k, read_here) refl in
    sym so_far ∙ one

-- after the last member the list is read
pub members_done : (secondary : Bool) (front : List Member) (count i : ℕ) (before : Option ℕ) (master : Bool) (x : List ℕ) (total : Result (List Member × List ℕ) Broken)
    → count ≤ i → behind front (read (member_list secondary (count - i) before master) x) ≡ total → total ≡ Ok (front, x)
unfolding member_list
members_done secondary front count i before master x total le so_far =
    let k : count - i ≡ 0 = omega arith in
    let one : behind front (read (member_list secondary (count - i) before master) x) ≡ Ok (front, x) = rw k (ap (λ (ms : List Member). Ok (ms, x)) (append-nil front)) in
    sym so_far ∙ one

-- ---- the lists that are read are member lists

abbrev least_of : Option ℕ → ℕ
least_of None = 0
least_of (Some b) = b + 1

abbrev one_if : Bool → ℕ
one_if b = if b then 1 else 0

-- what is known of a list that was read
record IsLawful (n : ℕ) (before : Option ℕ) (master : Bool) (ms : List Member) : Type 0 where
  len : length ms ≡ n
  order : (place : ℕ) → first_unordered place (least_of before) (members_of ms) ≡ None
  masters : (master || not (n == 0)) ≡ true → masters_in (members_of ms) + one_if master ≡ 1

record IsLawfulMember (n : ℕ) (before : Option ℕ) (master : Bool) (m : Member) : Type 0 where
  above : number_order before m.house.0 ≡ None
  first : is_master m.kind ≡ true → master ≡ false
  later : is_master m.kind ≡ false → (master || not (n == 0)) ≡ true

first_master : (secondary : Bool) (n : ℕ) (master : Bool) (k : ℕ) → kind_rule secondary n master k ≡ None → is_master (kind_in k) ≡ true → master ≡ false
first_master true n true k e f = grind (arith, e, f)
first_master false n true k e f = grind (arith, e, f)
first_master secondary n false k e f = refl

some_master : (secondary : Bool) (n : ℕ) (master : Bool) (k : ℕ) → kind_rule secondary n master k ≡ None → is_master (kind_in k) ≡ false → (master || not (n == 0)) ≡ true
some_master secondary n true k e f = refl
some_master true n false k e f = grind (arith, e, f)
some_master false n false k e f = grind (arith, e, f)

member_lawful : (secondary : Bool) (n : ℕ) (before : Option ℕ) (master : Bool) (x : List ℕ) (m : Member) (z : List ℕ) → read (member secondary n before master) x ≡ Ok (m, z)
    → IsLawfulMember n before master m
unfolding member member_kind octet
member_lawful secondary n before master x m z e =
    let h = read_stands (member secondary n before master) x m z e in
    let kind = h.3.3.2 in
    subst (IsLawfulMember n before master) h.3.3.3.0 (record {
      above = h.2.4;
      first = λ f. first_master secondary n master kind.0 kind.2.4 (ap is_master kind.3.0 ∙ f);
      later = λ f. some_master secondary n master kind.0 kind.2.4 (ap is_master kind.3.0 ∙ f);
    })

not_below : (before : Option ℕ) (house : ℕ) → number_order before house ≡ None → nat_lt house (least_of before) ≡ false
not_below None house e = grind arith
not_below (Some b) house e = grind (arith, e)

one_more_master : (n : ℕ) (master mine : Bool) (rest : ℕ) → (mine ≡ true → master ≡ false) → (mine ≡ false → (master || not (n == 0)) ≡ true)
    → (((master || mine) || not (n == 0)) ≡ true → rest + one_if (master || mine) ≡ 1)
    → (one_if mine + rest) + one_if master ≡ 1
one_more_master n master true rest first later h =
    elim master as (λ b. (true ≡ true → b ≡ false) → (((b || true) || not (n == 0)) ≡ true → rest + one_if (b || true) ≡ 1)
    → (one_if true + rest) + one_if b ≡ 1) [
      | true ↦ λ first h. absurd (let never = first refl in cc)
      | false ↦ λ first h. (let k = h refl in omega arith)
    ] first h
one_more_master n true false rest first later h = (let k = h refl in omega arith)
one_more_master n false false rest first later h = (let k = h (later refl) in omega arith)

list_lawful : (secondary : Bool) (n : ℕ) (before : Option ℕ) (master : Bool) (x : List ℕ) (ms : List Member) (y : List ℕ) → read (member_list secondary n before master) x ≡ Ok (ms, y)
    → IsLawful n before master ms
unfolding member_list
list_lawful secondary zero before master x ms y e =
    let none : [] ≡ ms = ap (λ (p : List Member × List ℕ). p.0) (ok_is ([], x) (ms, y) e) in
    subst (IsLawful zero before master) none (record { len = refl; order = λ place. refl; masters = nothing master })
  where
    nothing : (master : Bool) → (master || not (0 == 0)) ≡ true → 0 + one_if master ≡ 1
    nothing true e = refl
    nothing false e = absurd cc
list_lawful secondary (suc n) before master x ms y e =
    let a =
    bind_ok (read (member secondary n before master) x)
    (λ w. read (next (member_list secondary n (Some w.0.house.0) (master || is_master w.0.kind)) (λ ms. done (w.0 ∷ ms))) w.1)
    (ms, y) e in
    let m = a.0.0 in
    let b = bind_ok (read (member_list secondary n (Some m.house.0) (master || is_master m.kind)) a.0.1) (λ w. Ok (m ∷ w.0, w.1)) (ms, y) a.2 in
    let all : m ∷ b.0.0 ≡ ms = ap (λ (p : List Member × List ℕ). p.0) (ok_is (m ∷ b.0.0, b.0.1) (ms, y) b.2) in
    let one = member_lawful secondary n before master x m a.0.1 a.1 in
    let rest = list_lawful secondary n (Some m.house.0) (master || is_master m.kind) a.0.1 b.0.0 b.0.1 b.1 in
    subst (IsLawful (suc n) before master) all (record {
      len = ap suc rest.len;
      order = λ place. rw (not_below before m.house.0 one.above) (rest.order (place + 1));
      masters =
          λ _. ap (λ k. k + one_if master) (sum_by-cons (λ (m : listed_member). one_if (is_master m.kind)) (member_of m) (members_of b.0.0))
          ∙ one_more_master n master (is_master m.kind) (masters_in (members_of b.0.0)) one.first one.later rest.masters;
    })

-- a list of 1 to 64 members that was read is a member list
pub listed_lawful : (secondary : Bool) (n : ℕ) (x : List ℕ) (ms : List Member) (y : List ℕ) → 1 ≤ n → n ≤ most_members → read (member_list secondary n None false) x ≡ Ok (ms, y)
    → members_fault (members_of ms) ≡ None
listed_lawful secondary n x ms y some few e =
    let h = list_lawful secondary n None false x ms y e in
    let len : length (members_of ms) ≡ n = length-map ms member_of ∙ h.len in
    let filled : (n == 0) ≡ false = grind arith in
    let count : ((length (members_of ms) == 0) || nat_lt most_members (length (members_of ms))) ≡ false = grind (arith, len) in
    let masters : masters_in (members_of ms) ≡ 1 = (let k : masters_in (members_of ms) + 0 ≡ 1 = h.masters (rw filled refl) in omega arith) in
    rw (count, h.order 1, masters) refl
