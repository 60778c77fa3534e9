-- String bindings: object@protseq:address[endpoint] (C706, string bindings; the profile of
-- addresses and endpoints is own).
use Rattle.std.specs.Prelude.{◌≡◌, ◌⊎◌, ℕ, ◌<◌, ◌^◌, List, [], ◌∷◌, ◌++◌, length, slice_index, All, Some, ◌==◌, if◌then◌else◌, codes}
use Rattle.std.specs.Fmt.{decimal}
use Rattle.uuid.specs.Parts.{zero_bytes, is_nil_bytes}
use Rattle.uuid.specs.Text.{hyphenated_text, parsed_hyphenated, lower}
use Rattle.tower_codec.specs.declared.binding.StringBinding.{StringBinding}
use Rattle.tower_codec.specs.declared.rpc.Protseq.{Protseq}
use Rattle.tower_codec.specs.declared.rpc.Protseq.TheVariants.{Tcp, Udp}

-- The name of a protocol sequence (C706, protocol sequences).
abbrev pub protseq_name : Protseq → List ℕ
protseq_name Tcp = codes "ncacn_ip_tcp"
protseq_name Udp = codes "ncadg_ip_udp"

-- The four numbers of an address between dots.
abbrev pub address_text : List ℕ → List ℕ
address_text address =
    decimal (slice_index address 0) ++ (46 ∷ (decimal (slice_index address 1) ++ (46
    ∷ (decimal (slice_index address 2) ++ (46 ∷ decimal (slice_index address 3))))))

-- ---- The form. The marks are `@` (64), `:` (58), `[` (91) and `]` (93).

-- The object part: a UUID in its hyphenated form, in either case, and `@`; or nothing for the nil
-- object.
abbrev pub IsObjectPart : List ℕ → List ℕ → Type 0
IsObjectPart part object =
    ((part ≡ []) × (object ≡ zero_bytes))
    ⊎ ((uuid : List ℕ) × (part ≡ uuid ++ 64 ∷ []) × (parsed_hyphenated uuid ≡ Some object))

-- The endpoint part: a port in decimal, in brackets; or nothing for port 0.
abbrev pub IsEndpointPart : List ℕ → ℕ → Type 0
IsEndpointPart part port = ((part ≡ []) × (port ≡ 0)) ⊎ (part ≡ 91 ∷ (decimal port ++ 93 ∷ []))

-- An address of four numbers below 256, and a port below 65,536.
pub record FitsBinding (binding : StringBinding) : Type 0 where
  pub four : length binding.address ≡ 4
  pub octets : All (λ n. n < 256) binding.address
  pub port : binding.port < 2 ^ 16

-- A UUID of 16 octets.
pub record IsUuid (uuid : List ℕ) : Type 0 where
  pub sixteen : length uuid ≡ 16
  pub octets : All (λ n. n < 256) uuid

-- The text is a form of this binding.
abbrev pub IsBinding : List ℕ → StringBinding → Type 0
IsBinding text binding =
    FitsBinding binding × ((object endpoint : List ℕ) × IsObjectPart object binding.object × IsEndpointPart endpoint binding.port
    × (text ≡ object ++ (protseq_name binding.protseq ++ (58 ∷ (address_text binding.address ++ endpoint)))))

-- ---- The printed form: a nil object and port 0 have no part, UUIDs are in lower case (own).

-- The object with its `@`, or nothing for the nil object (own).
abbrev pub object_text : List ℕ → List ℕ
object_text object = if is_nil_bytes object then [] else hyphenated_text lower object ++ 64 ∷ []

-- The port in its brackets, or nothing for port 0 (own).
abbrev pub endpoint_text : ℕ → List ℕ
endpoint_text port = if port == 0 then [] else 91 ∷ (decimal port ++ 93 ∷ [])

-- The printed form of a binding (own, after C706, string bindings).
abbrev pub binding_text : StringBinding → List ℕ
binding_text binding =
    object_text binding.object
    ++ (protseq_name binding.protseq ++ (58 ∷ (address_text binding.address ++ endpoint_text binding.port)))
