-- What a history knows already of marks that can be merged into it: their births, deaths and
-- attributes up to a stamp.
use Rattle.std.proofs.Common.{◌≡◌, ℕ, Bool, true, false, not, List, [], ◌∷◌, Option, Some, None, refl, sym, ap, ◌∙◌, ⊎_elim, arith}
use Rattle.std.specs.Prelude.{◌&&◌, if◌then◌else◌}
use Rattle.std.specs.List.{Contains, list_any}
use Rattle.std.specs.Bool.{IsTrue}
use Rattle.std.specs.declared.cmp.Ordering.{Ordering}
use Rattle.std.specs.Ordering.{is_lt, flip_args}
use Rattle.std.specs.Cmp.{IsTotalOrder}
use Rattle.cds_stamps.specs.declared.stamp.Stamp.{Stamp}
use Rattle.cds_stamps.specs.Semilattice.{greater, maybe}
use Rattle.cds_stamps.specs.Stamps.{stamp_cmp, stamp_total, is_up_to, is_stamp, earlier_stamp, earlier_stamp_laws}
use Rattle.cds_stamps.specs.Octets.{is_octets}
use Rattle.cds_stamps.proofs.ListMembers.{Contains-filter}
use Rattle.attr_sets.specs.AttributeCells.{AttrMark, attr_stamp}
use Rattle.attr_sets.proofs.Greatest.{Contains-none, Contains-cases, same_inside, join_of-member, join_of-among}
use Rattle.directory.specs.declared.entry.Kind.{Kind}
use Rattle.directory.specs.Histories.{Mark, Birth, Death, Attr, Born, born_in, stamp_in, death_in, attr_mark_in}
use Rattle.directory.specs.Histories.{birth_of, death_of, attr_history, up_to, is_birth, IsAfterBirth}
use Rattle.directory.specs.Purges.{is_dead_up_to}
use Rattle.directory.proofs.FragmentLaws.{same_octets, same_stamp}
use Rattle.directory.proofs.HistoryLaws.{before, about, no_birth}
use Rattle.directory.proofs.MemberLaws.{found_in, finds}
use Rattle.directory.proofs.SeenLaws.{birth_among}
use Rattle.directory.proofs.UpdateLaws.{all_at, or_left, or_right, not_both}

-- what the other has up to t is known
abbrev pub Covers : Stamp → List Mark → List Mark → Type 0
Covers t h g = (m : Mark) → Contains (up_to g (Some t)) m → Contains h m

-- a mark of the other up to t is known
pub known : (t : Stamp) (h g : List Mark) → Covers t h g → (m : Mark) → Contains g m → is_up_to t (stamp_in m) ≡ true → Contains h m
known t h g covered m has early = covered m (Contains-filter (λ m. is_up_to t (stamp_in m)) g m has early)

-- ---- births

born_itself : (n : List ℕ) (k : Kind) (c : Stamp) → is_birth n c (Birth n k c) ≡ true
born_itself n k c = ap (λ b. b && is_stamp c c) (same_octets n) ∙ same_stamp c

any_birth : (h : List Mark) (n : List ℕ) (k : Kind) (c : Stamp) → Contains h (Birth n k c) → list_any (is_birth n c) h ≡ true
any_birth [] n k c has = absurd (Contains-none (Birth n k c) has)
any_birth (m ∷ h) n k c has =
    ⊎_elim (λ is. or_left (is_birth n c m) (list_any (is_birth n c) h) (ap (is_birth n c) is ∙ born_itself n k c))
    (λ rest. or_right (is_birth n c m) (list_any (is_birth n c) h) (any_birth h n k c rest)) (Contains-cases m h (Birth n k c) has)

-- a birth up to t is known, so the known birth is not earlier
pub known_birth : (t : Stamp) (h g : List Mark) → Covers t h g → (n : List ℕ) (b : Born) → birth_of g n ≡ Some b → is_up_to t b.at ≡ true
    → before (birth_of h n) b.at ≡ false
known_birth t h g covered n b born early = by_case (before (birth_of h n) b.at) refl
  where
    has : Contains h (Birth n b.kind b.at)
    has = known t h g covered (Birth n b.kind b.at) (birth_among g n b born) early

    by_case : (x : Bool) → before (birth_of h n) b.at ≡ x → before (birth_of h n) b.at ≡ false
    by_case false e = e
    by_case true e = absurd (not_both (list_any (is_birth n b.at) h) (any_birth h n b.kind b.at has) (no_birth h n b.at e))

-- ---- deaths

-- the mark of a death
pub death_mark : (n : List ℕ) (c : Stamp) (m : Mark) (d : Stamp) → death_in n c m ≡ Some d → (stamp_in m ≡ d) × (born_in m ≡ c)
death_mark n c (Birth m k e) d is = cc (is)
death_mark n c (Death m e s) d is = at (is_octets n m && is_stamp c e) refl is
  where
    at : (b : Bool) → (is_octets n m && is_stamp c e) ≡ b → (if b then Some s else None) ≡ Some d → (s ≡ d) × (e ≡ c)
    at true p q = (same_inside s d q, sym (about n m c e p).1)
    at false p q = cc (q)
death_mark n c (Attr m e a x) d is = cc (is)

least_of : {K : Type 0} {R : K → K → Ordering} → IsTotalOrder R → (t d y : K) → greater (flip_args R) d y ≡ y → not (is_lt (R t d)) ≡ true
    → not (is_lt (R t y)) ≡ true
least_of o t d y least early = grind (arith, least, early, o.trans t y d, o.trans y d t, o.antisymm y d, o.antisymm t y, o.antisymm t d, o.congr y d t)

-- where the least death of the other is up to t, so is the known one
pub known_death : (t : Stamp) (h g : List Mark) → Covers t h g → (n : List ℕ) (c : Stamp) → is_dead_up_to t (death_of g n c) ≡ true
    → is_dead_up_to t (death_of h n c) ≡ true
known_death t h g covered n c = by_death (death_of g n c) refl
  where
    absorbed : (y : Option Stamp) (d : Stamp) → is_up_to t d ≡ true → maybe earlier_stamp (Some d) y ≡ y → is_dead_up_to t y ≡ true
    absorbed None d early e = cc (e)
    absorbed (Some y) d early e = least_of stamp_total t d y (same_inside (earlier_stamp d y) y e) early

    by_death : (x : Option Stamp) → death_of g n c ≡ x → is_dead_up_to t x ≡ true → is_dead_up_to t (death_of h n c) ≡ true
    by_death None is early = cc (early)
    by_death (Some d) is early =
        let m = join_of-among (flip_args stamp_cmp) (death_in n c) g d is in
        let has : Contains h m.0 = known t h g covered m.0 m.1 (ap (is_up_to t) (death_mark n c m.0 d m.2).0 ∙ early) in
        absorbed (death_of h n c) d early
        (ap (λ x. maybe earlier_stamp x (death_of h n c)) (sym m.2) ∙ join_of-member earlier_stamp_laws (death_in n c) h m.0 has)

up_to_both : {K : Type 0} {R : K → K → Ordering} → IsTotalOrder R → (t d c : K) → not (is_lt (R d c)) ≡ true → not (is_lt (R t d)) ≡ true
    → not (is_lt (R t c)) ≡ true
up_to_both o t d c p q = grind (arith, p, q, o.trans t c d, o.trans c d t, o.antisymm c d, o.antisymm t c, o.antisymm t d, o.congr c d t, o.congr d c t)

-- of what comes before a death up to t the birth is up to t
pub up_to-through : (t d c : Stamp) → is_up_to d c ≡ true → is_up_to t d ≡ true → is_up_to t c ≡ true
up_to-through = up_to_both stamp_total

-- the birth of what died up to t is up to t
pub dead_after_birth : (t : Stamp) (h : List Mark) → IsAfterBirth h → (n : List ℕ) (c : Stamp) → is_dead_up_to t (death_of h n c) ≡ true → is_up_to t c ≡ true
dead_after_birth t h ordered n c = by_death (death_of h n c) refl
  where
    by_death : (x : Option Stamp) → death_of h n c ≡ x → is_dead_up_to t x ≡ true → is_up_to t c ≡ true
    by_death None is early = cc (early)
    by_death (Some d) is early =
        let m = join_of-among (flip_args stamp_cmp) (death_in n c) h d is in
        let mark = death_mark n c m.0 d m.2 in
        let after : is_up_to (stamp_in m.0) (born_in m.0) ≡ true = all_at (λ m. IsTrue (is_up_to (stamp_in m) (born_in m))) h m.0 ordered m.1 in
        up_to-through t d c (ap (λ s. is_up_to s c) (sym mark.0) ∙ ap (is_up_to (stamp_in m.0)) (sym mark.1) ∙ after) early

-- ---- attributes

-- the mark of an attribute
pub attr_mark : (n : List ℕ) (c : Stamp) (a : List ℕ) (m : Mark) (x : AttrMark) → attr_mark_in n c a m ≡ Some x → stamp_in m ≡ attr_stamp x
attr_mark n c a (Birth m k e) x is = cc (is)
attr_mark n c a (Death m e s) x is = cc (is)
attr_mark n c a (Attr m e b y) x is = at (is_octets n m && is_stamp c e && is_octets a b) is
  where
    at : (t : Bool) → (if t then Some y else None) ≡ Some x → attr_stamp y ≡ attr_stamp x
    at true p = ap attr_stamp (same_inside y x p)
    at false p = cc (p)

-- a mark of an attribute up to t is known
pub known_attr : (t : Stamp) (h g : List Mark) → Covers t h g → (n : List ℕ) (c : Stamp) (a : List ℕ) (x : AttrMark) → Contains (attr_history g n c a) x
    → is_up_to t (attr_stamp x) ≡ true → Contains (attr_history h n c a) x
known_attr t h g covered n c a x has early =
    let m = found_in (attr_mark_in n c a) g x has in
    finds (attr_mark_in n c a) h x m.0 (known t h g covered m.0 m.1 (ap (is_up_to t) (attr_mark n c a m.0 x m.2) ∙ early)) m.2
