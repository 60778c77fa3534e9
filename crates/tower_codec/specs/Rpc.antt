-- The towers of RPC servers over TCP and UDP.
use Rattle.std.specs.Prelude.{◌≡◌, ℕ, ◌/◌, ◌%◌, ◌<◌, ◌^◌, List, [], ◌∷◌, ◌++◌, length}
use Rattle.uuid.specs.Parts.{swap_fields}
use Rattle.tower_codec.specs.declared.rpc.Interface.{Interface}
use Rattle.tower_codec.specs.declared.rpc.Protseq.{Protseq}
use Rattle.tower_codec.specs.declared.rpc.Protseq.TheVariants.{Tcp, Udp}
use Rattle.tower_codec.specs.declared.rpc.RpcTower.{RpcTower}
use Rattle.tower_codec.specs.Tower.{Floor}
use Rattle.tower_codec.specs.Spelling.{number_octets, tower_octets}

-- The octet that names the RPC protocol: 0x0B with connections, 0x0A without (C706, protocol
-- identifiers).
abbrev pub rpc_protocol : Protseq → ℕ
rpc_protocol Tcp = 11
rpc_protocol Udp = 10

-- The octet that names the protocol of the port: 0x07 is TCP, 0x08 is UDP (C706, protocol
-- identifiers).
abbrev pub port_protocol : Protseq → ℕ
port_protocol Tcp = 7
port_protocol Udp = 8

-- A port below 65,536 in two octets, the higher one first (C706, protocol towers).
abbrev pub port_octets : ℕ → List ℕ
port_octets n = n / 256 ∷ n % 256 ∷ []

-- The floor of an interface or a transfer syntax: 0x0D, the UUID with its first three fields
-- little-endian and the major version; on the right the minor version (C706, protocol towers).
abbrev pub interface_floor : Interface → Floor
interface_floor interface = record {
  left = 13 ∷ (swap_fields interface.uuid ++ number_octets interface.major);
  right = number_octets interface.minor;
}

-- The five floors, from the interface down to the address after 0x09. The right part of the third
-- may be anything (C706, protocol towers).
abbrev pub rpc_floors : RpcTower → List ℕ → List Floor
rpc_floors tower any =
    interface_floor tower.interface
    ∷ interface_floor tower.transfer
    ∷ record { left = rpc_protocol tower.protseq ∷ []; right = any }
    ∷ record { left = port_protocol tower.protseq ∷ []; right = port_octets tower.port }
    ∷ record { left = 9 ∷ []; right = tower.address }
    ∷ []

-- The octets that an RPC tower is written as: two octets 0 stand on the right of the third floor.
abbrev pub rpc_octets : RpcTower → List ℕ
rpc_octets tower = tower_octets (rpc_floors tower (0 ∷ 0 ∷ []))

-- A UUID of 16 octets, and versions of two (C706, interface identifiers).
pub record IsInterface (interface : Interface) : Type 0 where
  pub uuid : length interface.uuid ≡ 16
  pub major : interface.major < 2 ^ 16
  pub minor : interface.minor < 2 ^ 16

-- The parts are the floor of this interface (C706, protocol towers).
abbrev pub IsInterfaceFloor : List ℕ → List ℕ → Interface → Type 0
IsInterfaceFloor left right interface =
    IsInterface interface × (left ≡ (interface_floor interface).left) × (right ≡ (interface_floor interface).right)

-- The parts are the floor of this port, below a protocol sequence (C706, protocol towers).
abbrev pub IsPortFloor : Protseq → List ℕ → List ℕ → ℕ → Type 0
IsPortFloor protseq left right port = (port < 2 ^ 16) × (left ≡ port_protocol protseq ∷ []) × (right ≡ port_octets port)

-- The values fit their fields: 16 octets of a UUID, two of a version or a port, four of an address
-- (C706, protocol towers).
pub record FitsRpc (tower : RpcTower) : Type 0 where
  pub interface : IsInterface tower.interface
  pub transfer : IsInterface tower.transfer
  pub port : tower.port < 2 ^ 16
  pub address : length tower.address ≡ 4

-- The floors are the RPC tower of these values (own, a profile of C706's protocol towers).
abbrev pub IsRpcTower : List Floor → RpcTower → Type 0
IsRpcTower floors tower = FitsRpc tower × ((any : List ℕ) × (floors ≡ rpc_floors tower any))
