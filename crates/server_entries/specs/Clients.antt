-- Which bindings an entry has for a client.
use Rattle.std.specs.Prelude.{◌≡◌, ℕ, Bool, true, ◌&&◌, ◌==◌, List, [], ◌∷◌, length, filter, Option, Some, None, unwrap_or, if◌then◌else◌}
use Rattle.std.specs.List.{Contains, filter_map, list_any, slice_get}
use Rattle.std.specs.Option.{option_map_or}
use Rattle.std.specs.Str.{bytes_eq}
use Rattle.std.specs.FinMap.Entries.{by_order}
use Rattle.uuid.specs.Parts.{zero_bytes, is_nil_bytes}
use Rattle.cds_stamps.specs.Octets.{octets_cmp}
use Rattle.cds_stamps.specs.Ascending.{in_ascending_order}
use Rattle.tower_codec.specs.declared.binding.StringBinding.{StringBinding}
use Rattle.tower_codec.specs.declared.rpc.Interface.{Interface}
use Rattle.tower_codec.specs.declared.rpc.Protseq.{Protseq}
use Rattle.tower_codec.specs.declared.rpc.Protseq.TheVariants.{Tcp, Udp}
use Rattle.tower_codec.specs.declared.rpc.RpcTower.{RpcTower}
use Rattle.tower_codec.specs.Serving.{serves}
use Rattle.server_entries.specs.declared.client.Wanted.{Wanted}
use Rattle.server_entries.specs.ServerTowers.{rpc_tower_of}

-- The transfer syntax NDR, 8a885d04-1ceb-11c9-9fe8-08002b104860 version 2.0 (C706, transfer
-- syntaxes).
abbrev pub ndr_syntax : Interface
ndr_syntax = record {
  uuid = 0x8a ∷ 0x88 ∷ 0x5d ∷ 0x04 ∷ 0x1c ∷ 0xeb ∷ 0x11 ∷ 0xc9 ∷ 0x9f ∷ 0xe8 ∷ 0x08 ∷ 0x00 ∷ 0x2b ∷ 0x10 ∷ 0x48 ∷ 0x60 ∷ [];
  major = 2;
  minor = 0;
}

-- The client wants this protocol sequence (C706, protocol sequences).
abbrev pub wants : Wanted → Protseq → Bool
wants wanted Tcp = wanted.tcp
wants wanted Udp = wanted.udp

-- The data are represented by NDR of major version 2 (C706, transfer syntaxes).
abbrev pub is_ndr : Interface → Bool
is_ndr syntax = bytes_eq syntax.uuid ndr_syntax.uuid && (syntax.major == 2)

-- The client can call the server of the tower (C706, compatible bindings).
abbrev pub is_compatible : Wanted → RpcTower → Bool
is_compatible wanted tower = serves tower.interface wanted.interface && is_ndr tower.transfer && wants wanted tower.protseq

-- The binding to the server of a tower, for an object (C706, bindings).
abbrev pub binding_to : List ℕ → RpcTower → StringBinding
binding_to object tower = record { object = object; protseq = tower.protseq; address = tower.address; port = tower.port }

-- The binding that there is for the client in a tower, if it is that of an RPC server.
abbrev pub compatible_binding : Wanted → List ℕ → Option RpcTower → Option StringBinding
compatible_binding wanted object None = None
compatible_binding wanted object (Some tower) = if is_compatible wanted tower then Some (binding_to object tower) else None

-- The same in a value of `CDS_Towers`.
abbrev pub binding_in : Wanted → List ℕ → List ℕ → Option StringBinding
binding_in wanted object octets = compatible_binding wanted object (rpc_tower_of octets)

-- The values of `RPC_ObjectUUIDs` that are objects: those of 16 octets.
abbrev pub objects_in : List (List ℕ) → List (List ℕ)
objects_in held = filter (λ v. length v == 16) held

-- The least object of an entry.
abbrev pub least_object : List (List ℕ) → Option (List ℕ)
least_object held = slice_get (in_ascending_order (objects_in held)) 0

-- The lesser of octets and of those that there may be beside them.
abbrev pub lesser : List ℕ → Option (List ℕ) → List ℕ
lesser v None = v
lesser v (Some w) = by_order (octets_cmp v w) v w w

-- The object that bindings carry. Where the nil object is wanted it is the entry's least, or nil
-- where there is none. Another is the wanted one, where the entry has it, and else there is no
-- binding (own, after C706, importing bindings).
abbrev pub object_to_carry : List ℕ → List (List ℕ) → Option (List ℕ)
object_to_carry wanted held =
    if is_nil_bytes wanted then Some (unwrap_or (least_object held) zero_bytes)
    else (if list_any (λ v. bytes_eq v wanted) held then Some wanted else None)

-- The bindings of an entry with these values, in the order of the towers (own, after C706,
-- importing bindings).
abbrev pub bindings_of : Wanted → (towers held : List (List ℕ)) → List StringBinding
bindings_of wanted towers held = option_map_or (λ object. filter_map (binding_in wanted object) towers) (object_to_carry wanted.object held) []

-- The same in ascending order of the octets of the towers, each once (own, after C706, importing
-- bindings).
abbrev pub entry_bindings : Wanted → (towers held : List (List ℕ)) → List StringBinding
entry_bindings wanted towers held = bindings_of wanted (in_ascending_order towers) held

-- The binding is one to a compatible server whose tower the entry has, and carries the object that
-- it is to (own, after C706, importing bindings).
pub record IsBindingOf (wanted : Wanted) (towers held : List (List ℕ)) (binding : StringBinding) : Type 0 where
  pub octets : List ℕ
  pub tower : RpcTower
  pub among : Contains towers octets
  pub read : rpc_tower_of octets ≡ Some tower
  pub compatible : is_compatible wanted tower ≡ true
  pub carries : object_to_carry wanted.object held ≡ Some binding.object
  pub made : binding ≡ binding_to binding.object tower
