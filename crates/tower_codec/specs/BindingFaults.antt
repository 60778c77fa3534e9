-- Why a text is no string binding: the first part from the left that no binding has there.
use Rattle.std.specs.Prelude.{◌≡◌, ◌⊎◌, ℕ, ◌<◌, ◌^◌, List, [], ◌∷◌, ◌++◌, length, All, None}
use Rattle.uuid.specs.Text.{parsed_hyphenated}
use Rattle.tower_codec.specs.declared.fault.BindingFault.{BindingFault}
use Rattle.tower_codec.specs.declared.fault.BindingFault.TheVariants.{BadObject, BadProtseq, BadAddress, BadEndpoint}
use Rattle.tower_codec.specs.declared.rpc.Protseq.{Protseq}
use Rattle.tower_codec.specs.Binding.{protseq_name, address_text, IsObjectPart, IsEndpointPart}

-- the mark is in the text
abbrev pub HasMark : ℕ → List ℕ → Type 0
HasMark mark text = (front : List ℕ) × (back : List ℕ) × (text ≡ front ++ mark ∷ back)

-- an address of four numbers below 256
abbrev pub IsAddress : List ℕ → Type 0
IsAddress address = (length address ≡ 4) × All (λ n. n < 256) address

-- an endpoint begins here: with its bracket (91), or there is none
abbrev pub MayBeEndpoint : List ℕ → Type 0
MayBeEndpoint text = (text ≡ []) ⊎ ((digits : List ℕ) × (text ≡ 91 ∷ digits))

-- a lawful object is in front of the rest; it is nil for no part only where no `@` (64) follows
abbrev pub ObjectThen : List ℕ → List ℕ → Type 0
ObjectThen text rest =
    (part : List ℕ) × (object : List ℕ) × IsObjectPart part object × (text ≡ part ++ rest) × (part ≡ [] → ¬ (HasMark 64 rest))

-- a protocol sequence and its `:` (58) stand in front of the rest
abbrev pub ProtseqThen : List ℕ → List ℕ → Type 0
ProtseqThen text rest = (protseq : Protseq) × (text ≡ protseq_name protseq ++ 58 ∷ rest)

-- an address is in front of the rest, in which an endpoint may begin
abbrev pub AddressThen : List ℕ → List ℕ → Type 0
AddressThen text rest = (address : List ℕ) × IsAddress address × (text ≡ address_text address ++ rest) × MayBeEndpoint rest

-- The fault is of the first part that no binding has there: all in front of it are lawful, and it
-- is not.
abbrev pub IsBindingFault : List ℕ → BindingFault → Type 0
IsBindingFault text BadObject =
    (part : List ℕ) × (rest : List ℕ) × (text ≡ part ++ 64 ∷ rest) × ¬ (HasMark 64 part) × (parsed_hyphenated part ≡ None)
IsBindingFault text BadProtseq = (behind : List ℕ) × ObjectThen text behind × ((rest : List ℕ) → ¬ (ProtseqThen behind rest))
IsBindingFault text BadAddress =
    (name : List ℕ) × (behind : List ℕ) × ObjectThen text name × ProtseqThen name behind × ((rest : List ℕ) → ¬ (AddressThen behind rest))
IsBindingFault text BadEndpoint =
    (name : List ℕ) × (address : List ℕ) × (behind : List ℕ) × ObjectThen text name × ProtseqThen name address
    × AddressThen address behind × ((port : ℕ) → port < 2 ^ 16 → ¬ (IsEndpointPart behind port))
