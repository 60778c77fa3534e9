-- Octets without a fault are those of the child pointers of the grammar, and say what was written.
use Rattle.std.proofs.Common.{suc, zero, subst, ◌≡◌, ◌≢◌, ℕ, ◌+◌, ◌-◌, ◌≤◌, ◌<◌, ◌^◌, Bool, true, false}
use Rattle.std.proofs.Common.{List, [], ◌∷◌, ◌++◌, length, get_or, drop, Option, Some, None, refl, sym, ap, ◌∙◌, arith}
use Rattle.std.specs.Prelude.{◌↔◌, is_none, nat_lt, ◌==◌, ◌||◌, if◌then◌else◌}
use Rattle.std.specs.Int.{to_be_bytes, from_be_bytes, w32}
use Rattle.std.specs.List.{All}
use Rattle.std.proofs.lemmas.List.Elements.{All-drop}
use Rattle.std.proofs.lemmas.Nat.{be_bytes_4, from_be_bytes-to_be_bytes_4}
use Rattle.cds_stamps.proofs.NameLaws.{no_fault}
use Rattle.cell_names.specs.Houses.{IsHouses, most_houses}
use Rattle.cell_names.proofs.Rising.{Rises, houses_rise, rises-houses}
use Rattle.cell_names.proofs.PointerWalks.{walk_others, walk_others-others_fault}
use Rattle.cell_names.specs.ChildPointers.{Pointer, IsPointer, pointer_octets, pointer_fault, pointer_of, is_child_pointer, IsChildPointer}

-- as many houses as were to come, in order
others_none : (master place least : ℕ) (hs : List ℕ) → Rises master least hs → walk_others master place (length hs) least hs ≡ None
others_none master place least [] r = refl
others_none master place least (h ∷ hs) r =
    let lawful : ((length (h ∷ hs) == 0) || ((h == master) || nat_lt h least)) ≡ false = grind (arith, r.0, r.1) in
    let count : length (h ∷ hs) - 1 ≡ length hs = omega arith in
    rw (lawful, count) (others_none master (place + 1) (h + 1) hs r.2)

others_rise : (master place count least : ℕ) (hs : List ℕ) → walk_others master place count least hs ≡ None → (length hs ≡ count) × Rises master least hs
others_rise master place count least [] e = (grind (arith, e), tt)
others_rise master place count least (h ∷ hs) e =
    let here = no_fault ((count == 0) || ((h == master) || nat_lt h least)) _ _ e in
    let rest = others_rise master (place + 1) (count - 1) (h + 1) hs here.1 in
    let some : count ≢ 0 = grind (arith, here.0) in
    (omega (arith, rest.0), (grind (arith, here.0), grind (arith, here.0), rest.1))

-- what is written has no fault
written_none : (p : Pointer) → IsHouses (record { master = p.master; others = p.others }) → pointer_fault (pointer_octets p) ≡ None
written_none p lawful =
    let few = lawful.few in
    let count : ((1 + length p.others == 0) || nat_lt most_houses (1 + length p.others)) ≡ false = grind (arith, few) in
    let rest : 1 + length p.others - 1 ≡ length p.others = omega arith in
    rw (count, rest) (sym (walk_others-others_fault p.master 7
    (length p.others) p.others) ∙ others_none p.master 7 0 p.others (houses_rise p.master p.others lawful))

-- what is written is read again
pub written_read : (p : Pointer) → p.dir < 2 ^ 32 → IsHouses (record { master = p.master; others = p.others }) → pointer_of (pointer_octets p) ≡ Some p
written_read p dir lawful =
    let found : is_child_pointer (pointer_octets p) ≡ true = ap is_none (written_none p lawful) in
    rw found (ap (λ (dir : ℕ). Some (record { dir = dir; master = p.master; others = p.others })) (from_be_bytes-to_be_bytes_4 p.dir dir))

-- what is written of a lawful pointer is read as that pointer
pub pointer_of-pointer_octets : (p : Pointer) → IsPointer p → pointer_of (pointer_octets p) ≡ Some p
pointer_of-pointer_octets p lawful = written_read p lawful.dir lawful.houses

none_found : {E : Type 0} (fault : Option E) → is_none fault ≡ true → fault ≡ None
none_found None e = refl
none_found (Some fault) e = cc

answered : {X : Type 0} (test : Bool) (x y : X) → (if test then Some x else None) ≡ Some y → (test ≡ true) × (x ≡ y)
answered true x y e = (refl, cc)
answered false x y e = cc

-- the octets of a directory
directory : (a b c d : ℕ) → a < 2 ^ 8 → b < 2 ^ 8 → c < 2 ^ 8 → d < 2 ^ 8
    → (from_be_bytes w32 (a ∷ b ∷ c ∷ d ∷ []) < 2 ^ 32) × (to_be_bytes w32 (from_be_bytes w32 (a ∷ b ∷ c ∷ d ∷ [])) ≡ a ∷ b ∷ c ∷ d ∷ [])
directory a b c d p q r s = (omega arith, be_bytes_4 (a ∷ b ∷ c ∷ d ∷ []) (from_be_bytes w32 (a ∷ b ∷ c ∷ d ∷ [])) refl each refl)
  where
    each : (i : ℕ) → get_or (a ∷ b ∷ c ∷ d ∷ []) i 0 < 256
    each zero = p
    each (suc zero) = q
    each (suc (suc zero)) = r
    each (suc (suc (suc zero))) = s
    each (suc (suc (suc (suc i)))) = omega arith

-- the houses that octets without a fault say, and how many there are
houses_said : (a b c d count master : ℕ) (others : List ℕ) → pointer_fault (a ∷ b ∷ c ∷ d ∷ count ∷ master ∷ others) ≡ None
    → IsHouses (record { master = master; others = others }) × (count ≡ 1 + length others)
houses_said a b c d count master others e =
    let counted = no_fault ((count == 0) || nat_lt most_houses count) _ _ e in
    let found = others_rise master 7 (count - 1) 0 others (walk_others-others_fault master 7 (count - 1) others ∙ counted.1) in
    let range : count ≢ 0 × (count ≤ 64) = grind (arith, counted.0) in
    (rises-houses master others found.1 (omega (arith, found.0, range.1)), omega (arith, found.0, range.0))

-- the houses that octets without a fault say
pub houses_read : (octets : List ℕ) → 6 ≤ length octets → pointer_fault octets ≡ None → IsHouses (record { master = get_or octets 5 0; others = drop 6 octets })
houses_read (a ∷ b ∷ c ∷ d ∷ count ∷ master ∷ others) h e = (houses_said a b c d count master others e).0
houses_read _ h e = absurd (omega arith)

-- what octets without a fault say, and how that is written
said : (a b c d count master : ℕ) (others : List ℕ) → All (λ b. b < 2 ^ 8) (a ∷ b ∷ c ∷ d ∷ count ∷ master ∷ others)
    → pointer_fault (a ∷ b ∷ c ∷ d ∷ count ∷ master ∷ others) ≡ None
    → let p : Pointer = record { dir = from_be_bytes w32 (a ∷ b ∷ c ∷ d ∷ []); master = master; others = others } in
    IsPointer p × (a ∷ b ∷ c ∷ d ∷ count ∷ master ∷ others ≡ pointer_octets p)
said a b c d count master others all e =
    let houses = houses_said a b c d count master others e in
    let dir = directory a b c d (all 0 0 (omega arith)) (all 1 0 (omega arith)) (all 2 0 (omega arith)) (all 3 0 (omega arith)) in (
      record {
        dir = dir.0;
        master = all 5 0 (omega arith);
        others = All-drop (λ b. b < 2 ^ 8) 6 (a ∷ b ∷ c ∷ d ∷ count ∷ master ∷ others) all;
        houses = houses.0;
      },
      ap (λ (n : ℕ). a ∷ b ∷ c ∷ d ∷ n ∷ master ∷ others) houses.1 ∙ sym (ap (λ (front : List ℕ). front ++ (1 + length others) ∷ master ∷ others) dir.1),
    )

-- what is read is what was written
pub pointer_octets-pointer_of : (octets : List ℕ) (p : Pointer) → All (λ b. b < 2 ^ 8) octets → pointer_of octets ≡ Some p
    → IsPointer p × (octets ≡ pointer_octets p)
pointer_octets-pointer_of (a ∷ b ∷ c ∷ d ∷ count ∷ master ∷ others) p all e =
    let read = answered _ _ p e in
    subst (λ (p : Pointer). IsPointer p × (a ∷ b ∷ c ∷ d ∷ count ∷ master ∷ others ≡ pointer_octets p)) read.1
    (said a b c d count master others all (none_found _ read.0))
pointer_octets-pointer_of _ p all e = cc

-- no fault is found exactly in the octets of a pointer
pub pointer_fault-none : (octets : List ℕ) → All (λ b. b < 2 ^ 8) octets → (pointer_fault octets ≡ None) ↔ IsChildPointer octets
pointer_fault-none octets all = (λ e. read octets all e, λ h. rw h.spelled (written_none h.pointer h.lawful.houses))
  where
    read : (octets : List ℕ) → All (λ b. b < 2 ^ 8) octets → pointer_fault octets ≡ None → IsChildPointer octets
    read (a ∷ b ∷ c ∷ d ∷ count ∷ master ∷ others) all e =
        let found = said a b c d count master others all e in record { pointer = _; lawful = found.0; spelled = found.1 }
    read (a ∷ b ∷ c ∷ d ∷ count ∷ []) all e = let counted = no_fault ((count == 0) || nat_lt most_houses count) _ _ e in cc
    read _ all e = cc
