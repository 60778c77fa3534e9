-- What is read is a tower, and a tower is read.
use Rattle.std.proofs.Common.{◌≡◌, ℕ, zero, suc, ◌+◌, ◌-◌, ◌*◌, ◌≤◌, false, cond, eqb, ltb, List, [], ◌∷◌, ◌++◌, length, take, drop, Ok, Err, refl, sym}
use Rattle.std.proofs.Common.{ap, subst, ◌∙◌, arith}
use Rattle.std.proofs.lemmas.Bool.{ltb-false, le-ltb, eqb-false, ne_eqb}
use Rattle.std.proofs.lemmas.List.{take_at, drop_at, take-append-drop, length-append, length-take-le}
use Rattle.tower_codec.specs.declared.fault.TowerFault.TheVariants.{ShortPart, EmptyLeft}
use Rattle.tower_codec.specs.Tower.{Floor, IsNumber, IsFloor, AreFloors, IsTower}
use Rattle.tower_codec.specs.ReadingSteps.{◌>>=◌}
use Rattle.tower_codec.specs.TowerReading.{length_at, part_at, floor_at, after_floors, body_at, known_floors}
use Rattle.tower_codec.proofs.StepLaws.{ok_is, bind_ok, guard_ok}
use Rattle.tower_codec.proofs.Grammar.{IsBytes, IsBytes-rest, IsBytes-tail, floors_before, floors_front}
use Rattle.tower_codec.proofs.Known.{known_floors_are}

-- ---- What was read is there.

-- Two octets and the number that they spell, in front of the rest.
record Spells (x : List ℕ) (n : ℕ) (rest : List ℕ) : Type 0 where
  low : ℕ
  high : ℕ
  octets : x ≡ low ∷ high ∷ rest
  value : n ≡ low + 256 * high

length_spells : (past : ℕ) (x : List ℕ) (y : ℕ × List ℕ) → length_at past x ≡ Ok y → Spells x y.0 y.1
length_spells past [] y e = absurd cc
length_spells past (a ∷ []) y e = absurd cc
length_spells past (low ∷ high ∷ x) y e =
    let same = ok_is (low + 256 * high, x) y e in
    record { low = low; high = high; octets = ap (λ (p : ℕ × List ℕ). low ∷ high ∷ p.1) same; value = ap (λ (p : ℕ × List ℕ). p.0) (sym same) }

-- A part that is read is in front.
pub part_stands : (past len : ℕ) (x : List ℕ) (y : List ℕ × List ℕ) → part_at past len x ≡ Ok y → (x ≡ y.0 ++ y.1) × (length y.0 ≡ len)
part_stands past len x y e =
    let g = guard_ok (ltb (length x) len) (ShortPart past) (Ok (take len x, drop len x)) y e in
    let same = ok_is (take len x, drop len x) y g.1 in
    subst (λ (p : List ℕ × List ℕ). (x ≡ p.0 ++ p.1) × (length p.0 ≡ len)) same
    (sym (take-append-drop len x), length-take-le len x (ltb-false (length x) len g.0))

-- A floor in front of the rest.
record Stands (x : List ℕ) (floor : Floor) (rest : List ℕ) : Type 0 where
  between : List ℕ
  some : length floor.left ≡ 0 → ⊥
  left : Spells x (length floor.left) (floor.left ++ between)
  right : Spells between (length floor.right) (floor.right ++ rest)

floor_stands : (past : ℕ) (x : List ℕ) (y : Floor × List ℕ) → floor_at past x ≡ Ok y → Stands x y.0 y.1
unfolding floor_at
floor_stands past x y e =
    let made : (left right : List ℕ) → Floor = λ left right. record { left = left; right = right } in
    let a = bind_ok (length_at past x) (λ n. cond (eqb n.0 0) (Err (EmptyLeft (past - length x)))
    (part_at past n.0 n.1) >>= λ left. length_at past left.1 >>= λ m. part_at past m.0 m.1 >>= λ right. Ok (made left.0 right.0, right.1)) y e in
    let b = bind_ok (cond (eqb a.0.0 0) (Err (EmptyLeft (past - length x))) (part_at past a.0.0 a.0.1))
    (λ left. length_at past left.1 >>= λ m. part_at past m.0 m.1 >>= λ right. Ok (made left.0 right.0, right.1)) y a.2 in
    let g = guard_ok (eqb a.0.0 0) (EmptyLeft (past - length x)) (part_at past a.0.0 a.0.1) b.0 b.1 in
    let c = bind_ok (length_at past b.0.1) (λ m. part_at past m.0 m.1 >>= λ right. Ok (made b.0.0 right.0, right.1)) y b.2 in
    let d = bind_ok (part_at past c.0.0 c.0.1) (λ right. Ok (made b.0.0 right.0, right.1)) y c.2 in
    let left_len = length_spells past x a.0 a.1 in
    let left = part_stands past a.0.0 a.0.1 b.0 g.1 in
    let right_len = length_spells past b.0.1 c.0 c.1 in
    let right = part_stands past c.0.0 c.0.1 d.0 d.1 in
    subst (λ (p : Floor × List ℕ). Stands x p.0 p.1) (ok_is (made b.0.0 d.0.0, d.0.1) y d.2)
    (record {
      between = b.0.1;
      some = λ none. eqb-false a.0.0 0 g.0 (sym left.1 ∙ none);
      left = record {
        low = left_len.low;
        high = left_len.high;
        octets = left_len.octets
            ∙ ap (λ (t : List ℕ). left_len.low ∷ left_len.high ∷ t) left.0;
        value = left.1 ∙ left_len.value;
      };
      right = record {
        low = right_len.low;
        high = right_len.high;
        octets = right_len.octets
            ∙ ap (λ (t : List ℕ). right_len.low ∷ right_len.high ∷ t) right.0;
        value = right.1 ∙ right_len.value;
      };
    })

-- A floor takes octets off.
pub floor_at_shorter : (past : ℕ) (x : List ℕ) (floor : Floor) (rest : List ℕ) → floor_at past x ≡ Ok (floor, rest) → length rest ≤ length x
floor_at_shorter past x floor rest e =
    let s = floor_stands past x (floor, rest) e in
    omega (arith, ap length s.left.octets, ap length s.right.octets, length-append floor.left s.between, length-append floor.right rest)

is_number : (x : List ℕ) (n : ℕ) (rest : List ℕ) → IsBytes x → Spells x n rest → IsNumber x n rest × IsBytes rest
is_number x n rest bytes s =
    let fits = subst IsBytes s.octets bytes in (
      subst (λ (t : List ℕ). IsNumber t n rest) (sym s.octets) (fits 0, fits 1, s.value, refl),
      IsBytes-tail s.high rest
          (IsBytes-tail s.low (s.high ∷ rest) fits),
    )

-- A length that is read is that of its two octets.
pub length_read : (past : ℕ) (x : List ℕ) (y : ℕ × List ℕ) → IsBytes x → length_at past x ≡ Ok y → IsNumber x y.0 y.1 × IsBytes y.1
length_read past x y bytes e = is_number x y.0 y.1 bytes (length_spells past x y e)

-- A floor that is read is in front.
pub floor_read : (past : ℕ) (x : List ℕ) (floor : Floor) (rest : List ℕ) → IsBytes x → floor_at past x ≡ Ok (floor, rest) → IsFloor x floor rest × IsBytes rest
floor_read past x floor rest bytes e =
    let s = floor_stands past x (floor, rest) e in
    let left = is_number x (length floor.left) (floor.left ++ s.between) bytes s.left in
    let right = is_number s.between (length floor.right) (floor.right ++ rest) (IsBytes-rest floor.left s.between left.1) s.right in
    let none = s.some in
    ((omega arith, (s.between, left.0, right.0)), IsBytes-rest floor.right rest right.1)

pub floors_read : (past count : ℕ) (x rest : List ℕ) → IsBytes x → after_floors past count x ≡ Ok rest → (floors : List Floor)
    × (length floors ≡ count) × AreFloors x floors rest
unfolding after_floors
floors_read past zero x rest bytes e = ([], refl, ok_is x rest e)
floors_read past (suc count) x rest bytes e =
    let a = bind_ok (floor_at past x) (λ first. after_floors past count first.1) rest e in
    let first = floor_read past x a.0.0 a.0.1 bytes a.1 in
    let later = floors_read past count a.0.1 rest first.1 a.2 in
    (a.0.0 ∷ later.0, ap suc later.1, (a.0.1, first.0, later.2))

pub after_floors_shorter : (past count : ℕ) (x rest : List ℕ) → after_floors past count x ≡ Ok rest → length rest ≤ length x
unfolding after_floors
after_floors_shorter past zero x rest e = omega (arith, ap length (ok_is x rest e))
after_floors_shorter past (suc count) x rest e =
    let a = bind_ok (floor_at past x) (λ first. after_floors past count first.1) rest e in
    omega (arith, floor_at_shorter past x a.0.0 a.0.1 a.1, after_floors_shorter past count a.0.1 rest a.2)

-- ---- What is there is read.

-- The octets of a length are read as it.
pub length_again : (past : ℕ) (x : List ℕ) (n : ℕ) (rest : List ℕ) → IsNumber x n rest → length_at past x ≡ Ok (n, rest)
length_again past [] n rest h = absurd h
length_again past (a ∷ []) n rest h = absurd h
length_again past (low ∷ high ∷ x) n rest h = rw (h.3, h.2) refl

-- A part in front is read as it.
pub part_again : (past : ℕ) (part rest : List ℕ) → part_at past (length part) (part ++ rest) ≡ Ok (part, rest)
part_again past part rest =
    let whole : ltb (length (part ++ rest)) (length part) ≡ false = le-ltb _ _ (omega (arith, length-append part rest)) in
    rw (whole, take_at part rest (length part) refl, drop_at part rest (length part) refl) refl

-- A floor in front is read as it.
pub floor_again : (past : ℕ) (x : List ℕ) (floor : Floor) (rest : List ℕ) → IsFloor x floor rest → floor_at past x ≡ Ok (floor, rest)
unfolding floor_at
floor_again past x floor rest h =
    let some : eqb (length floor.left) 0 ≡ false = ne_eqb (length floor.left) 0 (λ none. absurd (omega arith)) in
    rw (
      length_again past x (length floor.left) (floor.left ++ h.1.0) h.1.1,
      some,
      part_again past floor.left h.1.0,
      length_again past h.1.0
          (length floor.right) (floor.right ++ rest) h.1.2,
      part_again past floor.right rest,
    ) refl

-- Floors in front are read as them.
pub floors_again : (past : ℕ) (x : List ℕ) (floors : List Floor) (rest : List ℕ) → AreFloors x floors rest → after_floors past (length floors) x ≡ Ok rest
unfolding after_floors
floors_again past x [] rest h = ap (λ (y : List ℕ). Ok y) h
floors_again past x (floor ∷ floors) rest h = rw (floor_again past x floor h.0 h.1) (floors_again past h.0 floors rest h.2)

-- ---- A tower at the front, by its number of floors and their octets.

-- What is in front of the rest, by the lengths, and by its own.
front_by_rest : (x front rest : List ℕ) → x ≡ front ++ rest → take (length x - length rest) x ≡ front
front_by_rest x front rest e =
    let len : length x - length rest ≡ length front = omega (arith, ap length e, length-append front rest) in
    ap (λ (k : ℕ). take k x) len ∙ ap (take (length front)) e ∙ take_at front rest (length front) refl

-- Two octets stand before the body.
add_two : (n : ℕ) → n + 2 ≡ suc (suc n)
add_two n = omega arith

-- The octets begin with a tower of this many floors, whose octets are the body.
pub record IsBodyOf (octets : List ℕ) (count : ℕ) (body : List ℕ) : Type 0 where
  pub within : length body + 2 ≤ length octets
  pub tower : IsTower (known_floors count body) (take (length body + 2) octets)
  pub known : AreFloors body (known_floors count body) []

-- Floors that are read are a tower with their number.
pub body_read : (octets : List ℕ) (count : ℕ) (body : List ℕ) → IsBytes octets → body_at octets ≡ Ok (count, body) → IsBodyOf octets count body
unfolding body_at
body_read [] count body bytes e = absurd cc
body_read (a ∷ []) count body bytes e = absurd cc
body_read (low ∷ high ∷ x) count body bytes e =
    let n = low + 256 * high in
    let a = bind_ok (after_floors (length x + 3) n x) (λ rest. Ok (n, take (length x - length rest) x)) (count, body) e in
    let all = floors_read (length x + 3) n x a.0 (IsBytes-tail high x (IsBytes-tail low (high ∷ x) bytes)) a.1 in
    let front = floors_front x all.0 a.0 all.2 in
    let same = ok_is (n, take (length x - length a.0) x) (count, body) a.2 in
    let front_is = front_by_rest x front.0 a.0 front.1 in
    let count_is : count ≡ length all.0 = ap (λ (p : ℕ × List ℕ). p.0) (sym same) ∙ sym all.1 in
    let body_is : body ≡ front.0 = ap (λ (p : ℕ × List ℕ). p.1) (sym same) ∙ front_is in
    let floors_are : known_floors count body ≡ all.0 = ap (λ (k : ℕ). known_floors k body) count_is ∙ ap (known_floors (length all.0)) body_is
    ∙ known_floors_are front.0 all.0 [] front.2 in
    let known : AreFloors body (known_floors count body) [] = subst (λ (fs : List Floor). AreFloors body fs []) (sym floors_are)
    (subst (λ (y : List ℕ). AreFloors y all.0 []) (sym body_is) front.2) in
    let cut : take (length body) x ≡ body = ap (λ (y : List ℕ). take (length y) x) body_is ∙ ap (take (length front.0)) front.1
    ∙ take_at front.0 a.0 (length front.0) refl ∙ sym body_is in
    let counted : n ≡ length (known_floors count body) = sym all.1 ∙ ap length (sym floors_are) in
    record {
      within = omega (arith, ap length front.1, length-append front.0 a.0, ap length body_is);
      tower = rw (add_two (length body)) (
        take (length body) x,
        (bytes 0, bytes 1, sym counted, refl),
        subst (λ (y : List ℕ). AreFloors y (known_floors count body) []) (sym cut) known,
      );
      known = known;
    }

-- The octets that follow the number of floors, and what a view makes of them.
pub record IsReadAs (octets : List ℕ) (floors : List Floor) (front : List ℕ) : Type 0 where
  pub body : List ℕ
  pub read : body_at octets ≡ Ok (length floors, body)
  pub known : known_floors (length floors) body ≡ floors
  pub len : length body + 2 ≡ length front

-- A tower in front is read as its floors.
pub body_again : (floors : List Floor) (front rest : List ℕ) → IsTower floors front → IsReadAs (front ++ rest) floors front
unfolding body_at
body_again floors [] rest h = absurd h.1
body_again floors (a ∷ []) rest h = absurd h.1
body_again floors (low ∷ high ∷ body) rest h =
    let are : AreFloors body floors [] = rw h.1.3 h.2 in
    let n : low + 256 * high ≡ length floors = sym h.1.2 in
    let past = length (body ++ rest) + 3 in
    let after : after_floors past (low + 256 * high) (body ++ rest) ≡ Ok rest = rw n
    (floors_again past (body ++ rest) floors rest (floors_before body floors [] rest are)) in
    let len : length (body ++ rest) - length rest ≡ length body = omega (arith, length-append body rest) in
    record {
      body = body;
      read = rw (after, len, n, take_at body rest (length body) refl) refl;
      known = known_floors_are body floors [] are;
      len = omega arith;
    }
