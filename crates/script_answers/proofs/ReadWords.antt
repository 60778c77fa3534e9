-- What single words say that are written: what was written.
use Rattle.std.proofs.Common.{◌≡◌, ℕ, zero, suc, ◌+◌, ◌*◌, ◌/◌, ◌%◌, ◌<◌, ◌≤◌, ◌^◌, Bool, true, false, List, [], ◌∷◌, length, map, get_or, refl, ap, ◌∙◌, arith}
use Rattle.std.specs.Prelude.{Some, None, Result, Ok, decimal, nat_le, nat_lt, ◌==◌, ◌&&◌, if◌then◌else◌}
use Rattle.std.specs.Char.{is_ascii_digit}
use Rattle.std.specs.Fmt.{digits}
use Rattle.std.specs.Int.{from_be_bytes, to_be_bytes, w64}
use Rattle.std.specs.List.{All, list_all}
use Rattle.std.specs.Option.{option_and_then, option_map}
use Rattle.std.specs.Result.{result_ok}
use Rattle.std.specs.Str.{all_ascii_digits}
use Rattle.std.proofs.lemmas.Bool.{and_parts}
use Rattle.std.proofs.lemmas.Bool.Decides.{nat_tests}
use Rattle.std.proofs.lemmas.Fmt.{digits_decimal, digits_value-decimal, first_decimal}
use Rattle.std.proofs.lemmas.List.Elements.{All-head, All-tail}
use Rattle.std.proofs.lemmas.Nat.{from_be_bytes-to_be_bytes_8}
use Rattle.hex.specs.Hex.{IsBytes, encode_lower}
use Rattle.hex.proofs.HexLemmas.{decode_of-encode_lower, decode_sized-encode_lower}
use Rattle.cds_stamps.specs.declared.numbers.DirId.{DirId}
use Rattle.cds_stamps.specs.declared.numbers.HouseNo.{HouseNo}
use Rattle.attr_sets.specs.Values.{value_fault}
use Rattle.cell_names.specs.FullNames.{IsComponentList, full_name_octets}
use Rattle.cell_names.proofs.FullNameLaws.{components_of-spelling, name_fault-spelling}
use Rattle.cell_script.specs.WordForms.{each_word}
use Rattle.cell_script.specs.Words.{directory_of, full_name_of, house_of, is_decimal, most_directory, most_house, most_serial, node_of, number_end, number_of, number_to}
use Rattle.cell_script.specs.Words.{octets_value_of, serial_of, value_in, value_of}
use Rattle.script_answers.specs.Texts.{node_octets}
use Rattle.script_answers.proofs.WordTexts.{weights}

-- ---- numbers

digits_are : (w : List ℕ) → all_ascii_digits w ≡ true → list_all is_ascii_digit w ≡ true
digits_are [] all = refl
digits_are (c ∷ cs) all =
    let both = and_parts (is_ascii_digit c) (all_ascii_digits cs) all in
    rw both.0 (digits_are cs both.1)

-- decimal digits are digits
pub decimal_digits : (n : ℕ) → n < 2 ^ 64 → list_all is_ascii_digit (decimal n) ≡ true
decimal_digits n small = digits_are (decimal n) (digits_decimal weights n small)

without_zero : (w : List ℕ) → 48 < get_or w 0 0 → list_all is_ascii_digit w ≡ true → is_decimal w ≡ true
without_zero [] first all = absurd (omega arith)
without_zero (c ∷ []) first all = (and_parts (is_ascii_digit c) true all).0
without_zero (c ∷ d ∷ cs) first all = let off : (c == 48) ≡ false = grind (arith, nat_tests) in rw off all

chosen : (a b : Bool) (v n : ℕ) → a ≡ true → b ≡ true → v ≡ n → (if a && b then Some v else None) ≡ Some n
chosen true true v n one two is = ap Some is
chosen true false v n one two is = cc
chosen false b v n one two is = cc

some_read : (n : ℕ) → 0 < n → n < 2 ^ 64 → number_of (decimal n) ≡ Some n
unfolding number_of
some_read n some small =
    let w : List ℕ = decimal n in
    let value : value_of w ≡ n = digits_value-decimal weights n small in
    let within : nat_lt (value_of w) number_end ≡ true = rw value (grind (arith, nat_tests)) in
    chosen (is_decimal w) (nat_lt (value_of w) number_end) (value_of w) n
    (without_zero w (first_decimal n some small) (decimal_digits n small)) within value

none_read : number_of (decimal 0) ≡ Some 0
unfolding number_of digits
none_read = refl

-- a number that was written is read
pub number_read : (n : ℕ) → n < 2 ^ 64 → number_of (decimal n) ≡ Some n
number_read zero small = none_read
number_read (suc m) small = some_read (suc m) (omega arith) small

-- one from 1 on, up to the most there is
pub number_to_read : (most n : ℕ) → most < 2 ^ 64 → 1 ≤ n → n ≤ most → number_to most (decimal n) ≡ Some n
number_to_read most n great some few =
    let low : nat_le 1 n ≡ true = grind (arith, nat_tests) in
    let high : nat_le n most ≡ true = grind (arith, nat_tests) in
    ap (option_and_then (λ m. if nat_le 1 m && nat_le m most then Some m else None)) (number_read n (omega arith)) ∙ rw (low, high) refl

-- the number of a house, of a directory, and of a message
pub house_read : (n : ℕ) → 1 ≤ n → n ≤ most_house → house_of (decimal n) ≡ Some (record { 0 = n })
house_read n some few = ap (option_map (λ n. let house : HouseNo = record { 0 = n } in house)) (number_to_read most_house n (omega arith) some few)

pub directory_read : (n : ℕ) → 1 ≤ n → n ≤ most_directory → directory_of (decimal n) ≡ Some (record { 0 = n })
directory_read n some few = ap (option_map (λ n. let dir : DirId = record { 0 = n } in dir)) (number_to_read most_directory n (omega arith) some few)

pub serial_read : (n : ℕ) → 1 ≤ n → n ≤ most_serial → serial_of (decimal n) ≡ Some n
serial_read n some few = number_to_read most_serial n (omega arith) some few

-- ---- nodes

low : (n : ℕ) → n % 256 < 256
low n = omega arith

pub node_bytes : (n : ℕ) → IsBytes (node_octets n)
node_bytes n zero = low (n / 1099511627776)
node_bytes n (suc zero) = low (n / 4294967296)
node_bytes n (suc (suc zero)) = low (n / 16777216)
node_bytes n (suc (suc (suc zero))) = low (n / 65536)
node_bytes n (suc (suc (suc (suc zero)))) = low (n / 256)
node_bytes n (suc (suc (suc (suc (suc zero))))) = low n
node_bytes n (suc (suc (suc (suc (suc (suc i)))))) = low 0

-- a node of 48 bits, out of its octets
pub node_is : (n : ℕ) → n < 2 ^ 48 → from_be_bytes w64 (0 ∷ 0 ∷ node_octets n) ≡ n
node_is n small =
    let first : 0 ≡ n / 72057594037927936 % 256 = omega (arith, small) in
    let second : 0 ≡ n / 281474976710656 % 256 = omega (arith, small) in
    let whole : 0 ∷ 0 ∷ node_octets n ≡ to_be_bytes w64 n = λ i. first i ∷ second i ∷ node_octets n in
    ap (from_be_bytes w64) whole ∙ from_be_bytes-to_be_bytes_8 n (omega (arith, small))

pub node_read : (n : ℕ) → n < 2 ^ 48 → node_of (encode_lower (node_octets n)) ≡ Some n
node_read n small =
    ap (λ (r : Result (List ℕ) _). option_map (λ octets. from_be_bytes w64 (0 ∷ 0 ∷ octets)) (result_ok r))
    (decode_sized-encode_lower (node_octets n) 6 refl (node_bytes n))
    ∙ ap Some (node_is n small)

-- ---- names and values

pub name_read : (n : List (List ℕ)) → IsComponentList n → full_name_of (full_name_octets n) ≡ Some n
name_read n list = rw (name_fault-spelling n list) (ap Some (components_of-spelling n list))

pub value_read : (v : List ℕ) → IsBytes v → value_fault v ≡ None → octets_value_of (encode_lower v) ≡ Some v
value_read v bytes sized =
    ap (λ (r : Result (List ℕ) _). option_and_then value_in (result_ok r)) (decode_of-encode_lower v bytes) ∙ rw sized refl
