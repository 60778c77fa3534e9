-- Laws of the grammar of towers alone.
use Rattle.std.proofs.Common.{◌≡◌, ℕ, suc, ◌+◌, ◌<◌, List, [], ◌∷◌, ◌++◌, length, get_or, refl, sym, ap, subst, ◌∙◌, append_assoc, arith}
use Rattle.std.proofs.lemmas.List.{append-nil, get_or-append-add}
use Rattle.tower_codec.specs.Tower.{Floor, IsNumber, IsPart, IsFloor, AreFloors}

-- ---- Octets are below 256.

-- Each number of the list is below 256.
abbrev pub IsBytes : List ℕ → Type 0
IsBytes octets = (i : ℕ) → get_or octets i 0 < 256

-- Octets after a front are octets.
pub IsBytes-rest : (front rest : List ℕ) → IsBytes (front ++ rest) → IsBytes rest
IsBytes-rest front rest bytes i = rw get_or-append-add at (bytes (length front + i))

-- Octets after the first are octets.
pub IsBytes-tail : (b : ℕ) (rest : List ℕ) → IsBytes (b ∷ rest) → IsBytes rest
IsBytes-tail b rest bytes i = bytes (suc i)

-- ---- More octets after change nothing.

number_before : (x : List ℕ) (n : ℕ) (rest more : List ℕ) → IsNumber x n rest → IsNumber (x ++ more) n (rest ++ more)
number_before [] n rest more h = absurd h
number_before (a ∷ []) n rest more h = absurd h
number_before (low ∷ high ∷ x) n rest more h = (h.0, h.1, h.2, ap (λ (y : List ℕ). y ++ more) h.3)

part_before : (x part rest more : List ℕ) → IsPart x part rest → IsPart (x ++ more) part (rest ++ more)
part_before x part rest more h =
    subst (IsNumber (x ++ more) (length part)) (append_assoc part rest more) (number_before x (length part) (part ++ rest) more h)

floor_before : (x : List ℕ) (floor : Floor) (rest more : List ℕ) → IsFloor x floor rest → IsFloor (x ++ more) floor (rest ++ more)
floor_before x floor rest more h =
    (h.0, (h.1.0 ++ more, part_before x floor.left h.1.0 more h.1.1, part_before h.1.0 floor.right rest more h.1.2))

-- Floors stay before further octets.
pub floors_before : (x : List ℕ) (floors : List Floor) (rest more : List ℕ) → AreFloors x floors rest → AreFloors (x ++ more) floors (rest ++ more)
floors_before x [] rest more h = ap (λ (y : List ℕ). y ++ more) h
floors_before x (floor ∷ floors) rest more h =
    (h.0 ++ more, floor_before x floor h.0 more h.1, floors_before h.0 floors rest more h.2)

-- ---- What is in front.

-- x is a front and the rest, and the front alone is what P says.
abbrev pub Fronts : List ℕ → List ℕ → (List ℕ → List ℕ → Type 0) → Type 0
Fronts x rest P = (front : List ℕ) × (x ≡ front ++ rest) × P front []

number_front : (x : List ℕ) (n : ℕ) (front rest : List ℕ) → IsNumber x n (front ++ rest) → Fronts x rest (λ y none. IsNumber y n (front ++ none))
number_front [] n front rest h = absurd h
number_front (a ∷ []) n front rest h = absurd h
number_front (low ∷ high ∷ x) n front rest h =
    (low ∷ high ∷ front, ap (λ (y : List ℕ). low ∷ high ∷ y) h.3, (h.0, h.1, h.2, sym (append-nil front)))

floor_front : (x : List ℕ) (floor : Floor) (rest : List ℕ) → IsFloor x floor rest → Fronts x rest (λ y none. IsFloor y floor none)
floor_front x floor rest h =
    let right = number_front h.1.0 (length floor.right) floor.right rest h.1.2 in
    let first : IsNumber x (length floor.left) (floor.left ++ right.0 ++ rest) =
    subst (IsNumber x (length floor.left)) (ap (λ (y : List ℕ). floor.left ++ y) right.1 ∙ sym (append_assoc floor.left right.0 rest)) h.1.1 in
    let left = number_front x (length floor.left) (floor.left ++ right.0) rest first in
    (left.0, left.1, (h.0, (right.0, subst (IsNumber left.0 (length floor.left)) (append-nil (floor.left ++ right.0)) left.2, right.2)))

-- Floors stand in a front of the octets.
pub floors_front : (x : List ℕ) (floors : List Floor) (rest : List ℕ) → AreFloors x floors rest → Fronts x rest (λ y none. AreFloors y floors none)
floors_front x [] rest h = ([], h, refl)
floors_front x (floor ∷ floors) rest h =
    let later = floors_front h.0 floors rest h.2 in
    let first = floor_front x floor h.0 h.1 in (
      first.0 ++ later.0,
      first.1 ∙ ap (λ (y : List ℕ). first.0 ++ y) later.1 ∙ sym (append_assoc first.0 later.0 rest),
      (later.0, floor_before first.0 floor [] later.0 first.2, later.2),
    )

-- ---- Each front is one thing only.

pub number_once : (x : List ℕ) (m n : ℕ) (y z : List ℕ) → IsNumber x m y → IsNumber x n z → (m ≡ n) × (y ≡ z)
number_once [] m n y z g h = absurd g
number_once (a ∷ []) m n y z g h = absurd g
number_once (low ∷ high ∷ x) m n y z g h = (g.2 ∙ sym h.2, sym g.3 ∙ h.3)

cancel : (a b x y : List ℕ) → length a ≡ length b → a ++ x ≡ b ++ y → (a ≡ b) × (x ≡ y)
cancel [] [] x y len e = (refl, e)
cancel [] (b ∷ bs) x y len e = absurd (omega arith)
cancel (a ∷ more) [] x y len e = absurd (omega arith)
cancel (a ∷ more) (b ∷ bs) x y len e =
    let h : a ≡ b = cc in
    let t : more ++ x ≡ bs ++ y = cc in
    let r = cancel more bs x y (omega arith) t in
    (rw (h, r.0) refl, r.1)

pub part_once : (x a b y z : List ℕ) → IsPart x a y → IsPart x b z → (a ≡ b) × (y ≡ z)
part_once x a b y z g h =
    let n = number_once x (length a) (length b) (a ++ y) (b ++ z) g h in
    cancel a b y z n.0 n.1

-- Floors with the same parts are the same.
pub same_floor : (a b : Floor) → a.left ≡ b.left → a.right ≡ b.right → a ≡ b
same_floor a b left right = λ i. record { left = left i; right = right i }

pub floor_once : (x : List ℕ) (a b : Floor) (y z : List ℕ) → IsFloor x a y → IsFloor x b z → (a ≡ b) × (y ≡ z)
floor_once x a b y z g h =
    let left = part_once x a.left b.left g.1.0 h.1.0 g.1.1 h.1.1 in
    let right = part_once h.1.0 a.right b.right y z (subst (λ (t : List ℕ). IsPart t a.right y) left.1 g.1.2) h.1.2 in
    (same_floor a b left.0 right.0, right.1)

-- As many floors of the same octets are the same floors.
pub floors_once : (x : List ℕ) (a b : List Floor) (y z : List ℕ) → length a ≡ length b → AreFloors x a y → AreFloors x b z → (a ≡ b) × (y ≡ z)
floors_once x [] [] y z len g h = (refl, sym g ∙ h)
floors_once x [] (b ∷ bs) y z len g h = absurd (omega arith)
floors_once x (a ∷ more) [] y z len g h = absurd (omega arith)
floors_once x (a ∷ more) (b ∷ bs) y z len g h =
    let first = floor_once x a b g.0 h.0 g.1 h.1 in
    let later = floors_once h.0 more bs y z (omega arith) (subst (λ (t : List ℕ). AreFloors t more y) first.1 g.2) h.2 in
    (rw (first.0, later.0) refl, later.1)
