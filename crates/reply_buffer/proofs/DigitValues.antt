-- Hexadecimal digits by the table of their values.
use Rattle.std.proofs.Common.{◌≡◌, ℕ, zero, suc, ◌+◌, ◌*◌, ◌<◌, ◌≤◌, ◌==◌, Bool, true, ◌&&◌, nat_lt, nat_le, List, slice_index, Option, Some, None}
use Rattle.std.proofs.Common.{Ok, Err, inl, inr, refl, sym, ap, arith}
use Rattle.std.proofs.lemmas.Bool.{and_parts, cases_lt, eqb-true}
use Rattle.std.proofs.lemmas.Bool.Decides.{nat_tests}
use Rattle.hex.specs.Hex.{hex_digit_value, pair_value}
use Rattle.hex.specs.declared.error.FromHexError.TheVariants.{InvalidHexCharacter}
use Rattle.reply_buffer.specs.declared.digits.TheConstants.{VALUES}

-- a number below 16 stands for a digit's value, and a greater one for none
abbrev stands_for : ℕ → Option ℕ → Bool
stands_for v None = nat_le 16 v
stands_for v (Some x) = (v == x) && nat_lt v 16

-- the first numbers of a table stand for the values of their places
abbrev all_stand : List ℕ → ℕ → Bool
all_stand t zero = true
all_stand t (suc n) = stands_for (slice_index t n) (hex_digit_value n) && all_stand t n

stands_at : (t : List ℕ) (n c : ℕ) → all_stand t n ≡ true → c < n → stands_for (slice_index t c) (hex_digit_value c) ≡ true
stands_at t zero c h within = absurd (omega arith)
stands_at t (suc n) c h within =
    let parts = and_parts (stands_for (slice_index t n) (hex_digit_value n)) (all_stand t n) h in
    elim (cases_lt c n) [
      | inl below ↦ stands_at t n c parts.1 below
      | inr top ↦
          let e : c ≡ n = omega arith in
          rw e parts.0
    ]

value_of : (v : ℕ) (o : Option ℕ) → stands_for v o ≡ true → v < 16 → Some v ≡ o
value_of v None h small = absurd (grind (arith, nat_tests))
value_of v (Some x) h small = ap Some (eqb-true v x (and_parts (v == x) (nat_lt v 16) h).0)

no_value : (v : ℕ) (o : Option ℕ) → stands_for v o ≡ true → 16 ≤ v → None ≡ o
no_value v None h great = refl
no_value v (Some x) h great =
    let small = (and_parts (v == x) (nat_lt v 16) h).1 in
    absurd (grind (arith, nat_tests))

-- the table has the value of a digit
pub digit_valued : (c : ℕ) → c < 256 → slice_index VALUES c < 16 → Some (slice_index VALUES c) ≡ hex_digit_value c
digit_valued c within = value_of (slice_index VALUES c) (hex_digit_value c) (stands_at VALUES 256 c refl within)

-- and tells that an octet is none
pub digit_without_value : (c : ℕ) → c < 256 → 16 ≤ slice_index VALUES c → None ≡ hex_digit_value c
digit_without_value c within = no_value (slice_index VALUES c) (hex_digit_value c) (stands_at VALUES 256 c refl within)

-- ---- pairs of digits

-- what the two digits at a place say: their octet, or that one of them is at fault
pub pair_valued : (text : List ℕ) (i h l : ℕ) → Some h ≡ hex_digit_value (slice_index text (2 * i)) → Some l ≡ hex_digit_value (slice_index text (2 * i + 1))
    → pair_value (slice_index text (2 * i)) (slice_index text (2 * i + 1)) (2 * i) ≡ Ok (h * 16 + l)
pair_valued text i h l eh el = rw (sym eh, sym el) refl

-- a pair whose first octet is no digit is at fault there
pub high_at_fault : (text : List ℕ) (i : ℕ) → None ≡ hex_digit_value (slice_index text (2 * i))
    → pair_value (slice_index text (2 * i)) (slice_index text (2 * i + 1)) (2 * i) ≡ Err (InvalidHexCharacter (slice_index text (2 * i)) (2 * i))
high_at_fault text i e = rw (sym e) refl

-- a pair whose second octet alone is no digit is at fault there
pub low_at_fault : (text : List ℕ) (i h : ℕ) → Some h ≡ hex_digit_value (slice_index text (2 * i)) → None ≡ hex_digit_value (slice_index text (2 * i + 1))
    → pair_value (slice_index text (2 * i)) (slice_index text (2 * i + 1)) (2 * i) ≡ Err (InvalidHexCharacter (slice_index text (2 * i + 1)) (2 * i + 1))
low_at_fault text i h eh el = rw (sym eh, sym el) refl
