-- Reading a string binding part by part from the left, with the first fault.
use Rattle.std.specs.Prelude.{ℕ, ◌+◌, ◌-◌, ◌*◌, List, [], ◌∷◌, length, drop, ◌&&◌, ◌==◌, nat_le, if◌then◌else◌, Option, Some, None, Result, Ok}
use Rattle.std.specs.Option.{option_map, ok_or}
use Rattle.std.specs.Str.{all_ascii_digits, bytes_eq}
use Rattle.uuid.specs.Parts.{zero_bytes}
use Rattle.uuid.specs.Text.{parsed_hyphenated}
use Rattle.tower_codec.specs.declared.binding.StringBinding.{StringBinding}
use Rattle.tower_codec.specs.declared.fault.BindingFault.{BindingFault}
use Rattle.tower_codec.specs.declared.fault.BindingFault.TheVariants.{BadObject, BadProtseq, BadAddress, BadEndpoint}
use Rattle.tower_codec.specs.declared.rpc.Protseq.{Protseq}
use Rattle.tower_codec.specs.declared.rpc.Protseq.TheVariants.{Tcp, Udp}
use Rattle.tower_codec.specs.Binding.{protseq_name}
use Rattle.tower_codec.specs.ReadingSteps.{◌>>=◌}

-- A text that is cut at its first mark: what is before it, and what after it.
unfoldable pub cut_at_mark : ℕ → List ℕ → Option (List ℕ × List ℕ)
cut_at_mark mark [] = None
cut_at_mark mark (c ∷ text) = if c == mark then Some ([], text) else option_map (λ p. (c ∷ p.0, p.1)) (cut_at_mark mark text)

-- The number that decimal digits spell after those of n.
abbrev pub value_after : ℕ → List ℕ → ℕ
value_after n [] = n
value_after n (c ∷ digits) = value_after (10 * n + (c - 48)) digits

-- The number of digits, where it is at most `most`.
unfoldable pub digits_of : ℕ → List ℕ → Option ℕ
digits_of most text =
    if all_ascii_digits text && nat_le (value_after 0 text) most then Some (value_after 0 text) else None

-- The number of a text in decimal without a leading zero, where it is at most `most`.
unfoldable pub number_of : ℕ → List ℕ → Option ℕ
number_of most [] = None
number_of most (c ∷ []) = digits_of most (c ∷ [])
number_of most (c ∷ d ∷ text) = if c == 48 then None else digits_of most (c ∷ d ∷ text)

-- The object: what is before the first `@`, or nil where there is none. Each reading gives what
-- follows, too.
abbrev pub object_of : List ℕ → Option (List ℕ × List ℕ) → Result (List ℕ × List ℕ) BindingFault
object_of text None = Ok (zero_bytes, text)
object_of text (Some p) = ok_or (option_map (λ object. (object, p.1)) (parsed_hyphenated p.0)) BadObject

-- The object in front of a text.
unfoldable pub object_at : List ℕ → Result (List ℕ × List ℕ) BindingFault
object_at text = object_of text (cut_at_mark 64 text)

-- The protocol sequence: what is before the next `:`.
unfoldable pub protseq_named : List ℕ → Option Protseq
protseq_named name =
    if bytes_eq name (protseq_name Tcp) then Some Tcp
    else if bytes_eq name (protseq_name Udp) then Some Udp
    else None

-- The protocol sequence in front of a text.
unfoldable pub protseq_at : List ℕ → Result (Protseq × List ℕ) BindingFault
protseq_at text = do
  p ← ok_or (cut_at_mark 58 text) BadProtseq
  ok_or (option_map (λ protseq. (protseq, p.1)) (protseq_named p.0)) BadProtseq

-- What is before the next `[`, and what from there on, where there is one.
abbrev pub parts_of : List ℕ → Option (List ℕ × List ℕ) → List ℕ × List ℕ
parts_of text None = (text, [])
parts_of text (Some p) = (p.0, drop (length p.0) text)

-- The text before the endpoint, and the endpoint.
unfoldable pub endpoint_parts : List ℕ → List ℕ × List ℕ
endpoint_parts text = parts_of text (cut_at_mark 91 text)

-- The address: four numbers up to 255, the first three each before a dot.
unfoldable pub octet_at : List ℕ → Result (ℕ × List ℕ) BindingFault
octet_at text = do
  p ← ok_or (cut_at_mark 46 text) BadAddress
  ok_or (option_map (λ n. (n, p.1)) (number_of 255 p.0)) BadAddress

-- The address that a text is.
unfoldable pub address_of : List ℕ → Result (List ℕ) BindingFault
address_of text = do
  first ← octet_at text
  second ← octet_at first.1
  third ← octet_at second.1
  fourth ← ok_or (number_of 255 third.1) BadAddress
  Ok (first.0 ∷ second.0 ∷ third.0 ∷ fourth ∷ [])

-- The port: what is between the `[` and a `]` that ends the text, or 0 where there is no `[`.
abbrev pub port_before : Option (List ℕ × List ℕ) → Option ℕ
port_before None = None
port_before (Some p) = if length p.1 == 0 then number_of 65535 p.0 else None

-- The port that an endpoint says.
unfoldable pub port_of : List ℕ → Result ℕ BindingFault
port_of [] = Ok 0
port_of (bracket ∷ text) = ok_or (port_before (cut_at_mark 93 text)) BadEndpoint

-- The binding of a text, or its first fault from the left.
unfoldable pub binding_of : List ℕ → Result StringBinding BindingFault
binding_of text = do
  object ← object_at text
  protseq ← protseq_at object.1
  address ← address_of (endpoint_parts protseq.1).0
  port ← port_of (endpoint_parts protseq.1).1
  Ok (record { object = object.0; protseq = protseq.0; address = address; port = port })
