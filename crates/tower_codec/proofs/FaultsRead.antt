-- What is no tower has its first fault, and no other.
use Rattle.std.proofs.Common.{◌≡◌, ℕ, zero, suc, ◌+◌, ◌-◌, ◌*◌, ◌<◌, ◌≤◌, false, cond, eqb, List, [], ◌∷◌, ◌++◌, length, take, drop, Result, Ok, Err, inl}
use Rattle.std.proofs.Common.{inr, lit<, refl, sym, ap, subst, arith}
use Rattle.std.proofs.lemmas.Bool.{cases_lt, cases_eq, lt-ltb, le-ltb, ne_eqb, eq-eqb}
use Rattle.tower_codec.specs.declared.fault.TowerFault.{TowerFault}
use Rattle.tower_codec.specs.declared.fault.TowerFault.TheVariants.{ShortCount, ShortLength, ShortPart, EmptyLeft}
use Rattle.tower_codec.specs.Tower.{Floor, IsNumber, IsPart, IsFloor, AreFloors, IsFloorDue, IsRightDue, IsFloorsFault, IsFault}
use Rattle.tower_codec.specs.ReadingSteps.{◌>>=◌}
use Rattle.tower_codec.specs.TowerReading.{length_at, part_at, floor_at, after_floors, body_at}
use Rattle.tower_codec.proofs.StepLaws.{bind_err}
use Rattle.tower_codec.proofs.Grammar.{IsBytes, IsBytes-rest, IsBytes-tail}
use Rattle.tower_codec.proofs.TowersRead.{length_again, part_again, floor_again, length_read, part_stands, floor_read, floor_at_shorter}

-- ---- A fault is read where it comes.

-- A floor that is not read ends the reading.
due_fails : (past : ℕ) (floors : List Floor) (count : ℕ) (x rest : List ℕ) (fault : TowerFault)
    → length floors < count → AreFloors x floors rest → floor_at past rest ≡ Err fault → after_floors past count x ≡ Err fault
unfolding after_floors
due_fails past [] zero x rest fault few h e = absurd (omega arith)
due_fails past [] (suc count) x rest fault few h e = rw (ap (floor_at past) h, e) refl
due_fails past (floor ∷ floors) zero x rest fault few h e = absurd (omega arith)
due_fails past (floor ∷ floors) (suc count) x rest fault few h e =
    rw (floor_again past x floor h.0 h.1) (due_fails past floors count h.0 rest fault (omega arith) h.2 e)

length_fails : (past : ℕ) (rest : List ℕ) → length rest < 2 → length_at past rest ≡ Err (ShortLength past)
length_fails past [] short = refl
length_fails past (a ∷ []) short = refl
length_fails past (a ∷ b ∷ rest) short = absurd (omega arith)

part_fails : (past len : ℕ) (rest : List ℕ) → length rest < len → part_at past len rest ≡ Err (ShortPart past)
part_fails past len rest short = rw (lt-ltb (length rest) len short) refl

left_length_fails : (past : ℕ) (rest : List ℕ) → length rest < 2 → floor_at past rest ≡ Err (ShortLength past)
unfolding floor_at
left_length_fails past rest short = rw (length_fails past rest short) refl

left_part_fails : (past : ℕ) (field : List ℕ) (len : ℕ) (rest : List ℕ) → 0 < len → IsNumber field len rest → length rest < len
    → floor_at past field ≡ Err (ShortPart past)
unfolding floor_at
left_part_fails past field len rest some h short =
    let none : eqb len 0 ≡ false = ne_eqb len 0 (λ e. absurd (omega arith)) in
    rw (length_again past field len rest h, none, part_fails past len rest short) refl

right_length_fails : (past : ℕ) (floor left rest : List ℕ) → 0 < length left → IsPart floor left rest → length rest < 2
    → floor_at past floor ≡ Err (ShortLength past)
unfolding floor_at
right_length_fails past floor left rest some h short =
    let none : eqb (length left) 0 ≡ false = ne_eqb (length left) 0 (λ e. absurd (omega arith)) in
    rw (length_again past floor (length left) (left ++ rest) h, none, part_again past left rest, length_fails past rest short) refl

right_part_fails : (past : ℕ) (floor left field : List ℕ) (len : ℕ) (rest : List ℕ)
    → 0 < length left → IsPart floor left field → IsNumber field len rest → length rest < len → floor_at past floor ≡ Err (ShortPart past)
unfolding floor_at
right_part_fails past floor left field len rest some h right short =
    let none : eqb (length left) 0 ≡ false = ne_eqb (length left) 0 (λ e. absurd (omega arith)) in
    rw (
      length_again past floor (length left) (left ++ field) h,
      none,
      part_again past left field,
      length_again past field len rest right,
      part_fails
          past len rest short,
    ) refl

empty_left_fails : (past place : ℕ) (rest : List ℕ) → place + length (0 ∷ 0 ∷ rest) ≡ past → floor_at past (0 ∷ 0 ∷ rest) ≡ Err (EmptyLeft place)
unfolding floor_at
empty_left_fails past place rest e =
    let here : past - length (0 ∷ 0 ∷ rest) ≡ place = omega arith in
    rw here refl

floors_fault_again : (past count : ℕ) (x : List ℕ) (fault : TowerFault) → IsFloorsFault past count x fault → after_floors past count x ≡ Err fault
floors_fault_again past count x (ShortCount place) h = absurd h
floors_fault_again past count x (ShortLength place) h =
    rw h.0 (elim h.1.1 [
      | inl due ↦ due_fails past due.0 count x h.1.0 (ShortLength past) due.1 due.2 (left_length_fails past h.1.0 h.1.2)
      | inr due ↦ due_fails past due.2.0 count x due.0 (ShortLength past) due.2.1 due.2.2 (right_length_fails past due.0 due.1 h.1.0 due.3 due.4 h.1.2)
    ])
floors_fault_again past count x (ShortPart place) h =
    let part = h.1.2 in
    rw h.0 (elim part.2 [
      | inl left ↦ due_fails past left.1.0 count x part.0 (ShortPart past) left.1.1 left.1.2 (left_part_fails past part.0 h.1.0 h.1.1 left.0 part.1 h.1.3)
      | inr due ↦ due_fails past due.2.0 count x due.0 (ShortPart past) due.2.1 due.2.2
          (right_part_fails past due.0 due.1 part.0 h.1.0 h.1.1 due.3 due.4 part.1 h.1.3)
    ])
floors_fault_again past count x (EmptyLeft place) h =
    due_fails past h.1.0 count x (0 ∷ 0 ∷ h.0) (EmptyLeft place) h.1.1 h.1.2 (empty_left_fails past place h.0 h.2)

-- A fault of the octets is the one that reading gives.
pub fault_again : (octets : List ℕ) (fault : TowerFault) → IsFault octets fault → body_at octets ≡ Err fault
unfolding body_at
fault_again [] fault h = rw h refl
fault_again (a ∷ []) fault h = rw h refl
fault_again (low ∷ high ∷ x) fault h = rw (floors_fault_again (length x + 3) (low + 256 * high) x fault h) refl

-- ---- What is read as a fault is the fault.

length_err : (past : ℕ) (x : List ℕ) (fault : TowerFault) → length_at past x ≡ Err fault → (ShortLength past ≡ fault) × (length x < 2)
length_err past [] fault e = (cc, lit< tt)
length_err past (a ∷ []) fault e = (cc, lit< tt)
length_err past (a ∷ b ∷ x) fault e = absurd cc

part_err : (past len : ℕ) (x : List ℕ) (fault : TowerFault) → part_at past len x ≡ Err fault → (ShortPart past ≡ fault) × (length x < len)
part_err past len x fault e =
    elim (cases_lt (length x) len) [
      | inl short ↦ (let fails = part_fails past len x short in cc, short)
      | inr whole ↦ absurd (let fits = le-ltb (length x) len whole in let done : part_at past len x ≡ Ok (take len x, drop len x) = rw fits refl in cc)
    ]

-- The first of at least one floor is due.
first_due : (count : ℕ) (x : List ℕ) → 0 < count → IsFloorDue count x x
first_due count x some = ([], some, refl)

zero_length : (past count : ℕ) (x : List ℕ) (rest : List ℕ) → 0 < count → length x ≤ past → IsNumber x 0 rest
    → IsFloorsFault past count x (EmptyLeft (past - length x))
zero_length past count [] rest some within h = absurd h
zero_length past count (a ∷ []) rest some within h = absurd h
zero_length past count (low ∷ high ∷ x) rest some within h =
    let low_is : low ≡ 0 = omega (arith, h.2) in
    let high_is : high ≡ 0 = omega (arith, h.2) in
    (x, ([], some, rw (low_is, high_is) refl), omega arith)

-- The steps of a floor from a right length on.
abbrev right_steps : ℕ → List ℕ × List ℕ → Result (Floor × List ℕ) TowerFault
right_steps past left =
    length_at past left.1 >>= λ m. part_at past m.0 m.1 >>= λ right. Ok (record { left = left.0; right = right.0 }, right.1)

-- The fault of a right length or a right part, after a left part of the first floor.
right_fault : (past count : ℕ) (x left field : List ℕ) (fault : TowerFault) → IsBytes field → 0 < count → 0 < length left → IsPart x left field
    → right_steps past (left, field) ≡ Err fault → IsFloorsFault past count x fault
right_fault past count x left field fault bytes some full h e =
    elim (bind_err (length_at past field) (λ m. part_at past m.0 m.1 >>= λ right. Ok (record { left = left; right = right.0 }, right.1)) fault e) [
      | inl short ↦ (let s = length_err past field fault short in
          subst (IsFloorsFault past count x) s.0 (refl, (field, inr (x, left, first_due count x some, full, h), s.1)))
      | inr a ↦ (let number = (length_read past field a.0 bytes a.1).0 in
          elim (bind_err (part_at past a.0.0 a.0.1) (λ right. Ok (record { left = left; right = right.0 }, right.1)) fault a.2) [
            | inl short ↦ (let s = part_err past a.0.0 a.0.1 fault short in
                subst (IsFloorsFault past count x) s.0 (refl, (a.0.0, a.0.1, (field, number, inr (x, left, first_due count x some, full, h)), s.1)))
            | inr b ↦ absurd (let never = b.2 in cc)
          ])
    ]

-- The fault of a left part of the first floor, or of what is after it.
left_fault : (past count : ℕ) (x : List ℕ) (len : ℕ) (rest : List ℕ) (fault : TowerFault) → IsBytes rest → 0 < count → length x ≤ past → IsNumber x len rest
    → (cond (eqb len 0) (Err (EmptyLeft (past - length x))) (part_at past len rest) >>= right_steps past) ≡ Err fault → IsFloorsFault past count x fault
left_fault past count x len rest fault bytes some within h e =
    elim (cases_eq len 0) [
      | inl zero_len ↦ (let test = eq-eqb len 0 zero_len in
          let fails : (cond (eqb len 0) (Err (EmptyLeft (past - length x))) (part_at past len rest) >>= right_steps past) ≡ Err
          (EmptyLeft (past - length x)) = rw test refl in
          let same : EmptyLeft (past - length x) ≡ fault = cc in
          subst (IsFloorsFault past count x) same (zero_length past count x rest some within (subst (λ (n : ℕ). IsNumber x n rest) zero_len h)))
      | inr full ↦ (let test = ne_eqb len 0 full in
          let steps : (part_at past len rest >>= right_steps past) ≡ Err fault = rw test at e in
          elim (bind_err (part_at past len rest) (right_steps past) fault steps) [
            | inl short ↦ (let s = part_err past len rest fault short in
                subst (IsFloorsFault past count x) s.0 (refl, (len, rest, (x, h, inl (omega arith, first_due count x some)), s.1)))
            | inr b ↦ (let left = part_stands past len rest b.0 b.1 in
                right_fault past count x b.0.0 b.0.1 fault (IsBytes-rest b.0.0 b.0.1 (subst IsBytes left.0 bytes)) some (omega (arith, left.1))
                (subst (λ (n : ℕ). IsNumber x n (b.0.0 ++ b.0.1)) (sym left.1) (subst (IsNumber x len) left.0 h)) b.2)
          ])
    ]

first_fault : (past count : ℕ) (x : List ℕ) (fault : TowerFault) → IsBytes x → 0 < count → length x ≤ past → floor_at past x ≡ Err fault
    → IsFloorsFault past count x fault
unfolding floor_at
first_fault past count x fault bytes some within e =
    elim (bind_err (length_at past x) (λ n. cond (eqb n.0 0) (Err (EmptyLeft (past - length x))) (part_at past n.0 n.1) >>= right_steps past) fault e) [
      | inl short ↦ (let s = length_err past x fault short in
          subst (IsFloorsFault past count x) s.0 (refl, (x, inl (first_due count x some), s.1)))
      | inr a ↦ (let number = length_read past x a.0 bytes a.1 in
          left_fault past count x a.0.0 a.0.1 fault number.1 some within number.0 a.2)
    ]

-- The fault after a whole floor.
due_later : (count : ℕ) (x : List ℕ) (floor : Floor) (y rest : List ℕ) → IsFloor x floor y → IsFloorDue count y rest → IsFloorDue (suc count) x rest
due_later count x floor y rest h due = (floor ∷ due.0, omega (arith, due.1), (y, h, due.2))

right_later : (count : ℕ) (x : List ℕ) (floor : Floor) (y rest : List ℕ) → IsFloor x floor y → IsRightDue count y rest → IsRightDue (suc count) x rest
right_later count x floor y rest h due = (due.0, due.1, due_later count x floor y due.0 h due.2, due.3, due.4)

fault_later : (past count : ℕ) (x : List ℕ) (floor : Floor) (y : List ℕ) (fault : TowerFault) → IsFloor x floor y → IsFloorsFault past count y fault
    → IsFloorsFault past (suc count) x fault
fault_later past count x floor y (ShortCount place) h f = absurd f
fault_later past count x floor y (ShortLength place) h f =
    (f.0, (f.1.0, elim f.1.1 [ inl due ↦ inl (due_later count x floor y f.1.0 h due) | inr due ↦ inr (right_later count x floor y f.1.0 h due) ], f.1.2))
fault_later past count x floor y (ShortPart place) h f =
    let part = f.1.2 in (
      f.0,
      (
        f.1.0,
        f.1.1,
        (
          part.0,
          part.1,
          elim part.2 [
            | inl left ↦ inl (left.0, due_later count x floor y part.0 h left.1)
            | inr due ↦ inr
                (right_later count x floor y part.0 h due)
          ],
        ),
        f.1.3,
      ),
    )
fault_later past count x floor y (EmptyLeft place) h f =
    (f.0, due_later count x floor y (0 ∷ 0 ∷ f.0) h f.1, f.2)

floors_fault_read : (past count : ℕ) (x : List ℕ) (fault : TowerFault) → IsBytes x → length x ≤ past → after_floors past count x ≡ Err fault
    → IsFloorsFault past count x fault
unfolding after_floors
floors_fault_read past zero x fault bytes within e = absurd cc
floors_fault_read past (suc count) x fault bytes within e =
    elim (bind_err (floor_at past x) (λ first. after_floors past count first.1) fault e) [
      | inl first ↦ first_fault past (suc count) x fault bytes (omega arith) within first
      | inr a ↦ (let first = floor_read past x a.0.0 a.0.1 bytes a.1 in
          let shorter = floor_at_shorter past x a.0.0 a.0.1 a.1 in
          fault_later past count x a.0.0 a.0.1 fault first.0 (floors_fault_read past count a.0.1 fault first.1 (omega arith) a.2))
    ]

-- The fault that reading gives is one of the octets.
pub fault_read : (octets : List ℕ) (fault : TowerFault) → IsBytes octets → body_at octets ≡ Err fault → IsFault octets fault
unfolding body_at
fault_read [] fault bytes e = cc
fault_read (a ∷ []) fault bytes e = cc
fault_read (low ∷ high ∷ x) fault bytes e =
    let n = low + 256 * high in
    elim (bind_err (after_floors (length x + 3) n x) (λ rest. Ok (n, take (length x - length rest) x)) fault e) [
      | inl fails ↦ floors_fault_read (length x + 3) n x fault (IsBytes-tail high x (IsBytes-tail low (high ∷ x) bytes)) (omega arith) fails
      | inr a ↦ absurd (let never = a.2 in cc)
    ]
