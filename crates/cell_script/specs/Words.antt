-- The words of a script line, and what a single word says.
use Rattle.std.specs.Prelude.{ℕ, ◌+◌, ◌-◌, ◌*◌, ◌^◌, Bool, true, false, not, ◌&&◌, nat_lt, nat_le, ◌==◌, if◌then◌else◌, List, [], ◌∷◌, length, filter, Some}
use Rattle.std.specs.Prelude.{None, Option, codes}
use Rattle.std.specs.List.{list_all, slice_split}
use Rattle.std.specs.Str.{bytes_eq}
use Rattle.std.specs.Option.{option_and_then, option_map}
use Rattle.std.specs.Result.{result_ok}
use Rattle.std.specs.Char.{is_ascii_digit}
use Rattle.std.specs.Int.{from_be_bytes, w64}
use Rattle.hex.specs.Hex.{decode_of, decode_sized}
use Rattle.cds_stamps.specs.declared.numbers.HouseNo.{HouseNo}
use Rattle.cds_stamps.specs.declared.numbers.DirId.{DirId}
use Rattle.cds_stamps.specs.Names.{simple_name_fault, attr_fault}
use Rattle.cds_stamps.specs.Outcomes.{ok_unless}
use Rattle.cell_names.specs.FullNames.{name_fault, components_of}
use Rattle.attr_sets.specs.Values.{value_fault}
use Rattle.cell_script.specs.declared.command.Question.{Question}
use Rattle.cell_script.specs.declared.lists.Listed.{Listed}
use Rattle.cell_script.specs.declared.command.Question.TheVariants as question

-- the words of a line, between its spaces
abbrev pub words_of : List ℕ → List (List ℕ)
words_of line = filter (λ w. not (length w == 0)) (slice_split (λ b. b == 32) line)

-- ---- numbers

-- what decimal digits say, the first counting most
abbrev pub value_of : List ℕ → ℕ
value_of [] = 0
value_of (c ∷ cs) = (c - 48) * 10 ^ length cs + value_of cs

-- decimal digits, without a leading zero
abbrev pub is_decimal : List ℕ → Bool
is_decimal [] = false
is_decimal (c ∷ []) = is_ascii_digit c
is_decimal (c ∷ d ∷ cs) = not (c == 48) && list_all is_ascii_digit (c ∷ d ∷ cs)

-- the numbers of a script have 64 bits, and are below this
abbrev pub number_end : ℕ
number_end = 18446744073709551616

-- a decimal number
unfoldable pub number_of : List ℕ → Option ℕ
number_of w = if is_decimal w && nat_lt (value_of w) number_end then Some (value_of w) else None

-- a number from 1 to this most
abbrev pub number_to : ℕ → List ℕ → Option ℕ
number_to most w = option_and_then (λ n. if nat_le 1 n && nat_le n most then Some n else None) (number_of w)

-- ---- what a word of each form says

-- the greatest number of a house, which has an octet, of a directory, which has 32 bits, and of a
-- message, which has 64
abbrev pub most_house : ℕ
most_house = 255

abbrev pub most_directory : ℕ
most_directory = 4294967295

abbrev pub most_serial : ℕ
most_serial = 18446744073709551615

-- the number of a house
abbrev pub house_of : List ℕ → Option HouseNo
house_of w = option_map (λ n. record { 0 = n }) (number_to most_house w)

-- a house of a replica set by its number, secondary or read-only
abbrev pub listed_as : (secondary : Bool) → List ℕ → Option Listed
listed_as secondary w = option_map (λ h. record { house = h; secondary = secondary }) (house_of w)

-- likewise where an `s` before the number says that it is secondary
abbrev pub listed_of : List ℕ → Option Listed
listed_of [] = listed_as false []
listed_of (c ∷ cs) = if c == 115 then listed_as true cs else listed_as false (c ∷ cs)

-- the number of a directory
abbrev pub directory_of : List ℕ → Option DirId
directory_of w = option_map (λ n. record { 0 = n }) (number_to most_directory w)

-- the serial number of a message
abbrev pub serial_of : List ℕ → Option ℕ
serial_of = number_to most_serial

-- a node of 48 bits, in twelve hexadecimal digits of either case
abbrev pub node_of : List ℕ → Option ℕ
node_of w = option_map (λ octets. from_be_bytes w64 (0 ∷ 0 ∷ octets)) (result_ok (decode_sized w 6))

-- names: a simple one, a full one by its components, and that of an attribute (own, after C705, CDS
-- names)
abbrev pub simple_name_of : List ℕ → Option (List ℕ)
simple_name_of w = result_ok (ok_unless (simple_name_fault w) w)

-- a full name, as its components (own, after C705, CDS names)
abbrev pub full_name_of : List ℕ → Option (List (List ℕ))
full_name_of w = result_ok (ok_unless (name_fault w) (components_of w))

-- the name of an attribute (own, after C705, CDS names)
abbrev pub attr_name_of : List ℕ → Option (List ℕ)
attr_name_of w = result_ok (ok_unless (attr_fault w) w)

-- a value, in hexadecimal digits of either case
abbrev pub value_in : List ℕ → Option (List ℕ)
value_in octets = result_ok (ok_unless (value_fault octets) octets)

-- the value that a word of hexadecimal digits spells, two for each octet
abbrev pub octets_value_of : List ℕ → Option (List ℕ)
octets_value_of w = option_and_then value_in (result_ok (decode_of w))

-- octets, in hexadecimal digits of either case, two for each
abbrev pub octets_of : List ℕ → Option (List ℕ)
octets_of w = result_ok (decode_of w)

-- how much the answer of a replica is trusted: `high` is true (own, after C705, confidence of a
-- clerk's lookups)
abbrev pub confidence_of : List ℕ → Option Bool
confidence_of w = if bytes_eq w (codes "low") then Some false else (if bytes_eq w (codes "high") then Some true else None)

-- what is asked by `octets` and two words: the octets of a message, or those of a house's image
abbrev pub message_asked : List ℕ → Option Question
message_asked w = option_map question.OctetsMsg (serial_of w)

abbrev pub image_asked : List ℕ → Option Question
image_asked w = option_map question.OctetsHouse (house_of w)

-- the first of these words tells what the second asks for
abbrev pub octets_asked : List ℕ → Option (List ℕ → Option Question)
octets_asked w = if bytes_eq w (codes "msg") then Some message_asked else (if bytes_eq w (codes "house") then Some image_asked else None)
