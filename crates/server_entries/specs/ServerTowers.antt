-- Values of `CDS_Towers` that say where an RPC server is reached.
use Rattle.std.specs.Prelude.{ℕ, ◌+◌, ◌==◌, List, length, Option, Some, None, Result, Ok, Err, if◌then◌else◌}
use Rattle.std.specs.Option.{option_and_then}
use Rattle.tower_codec.specs.declared.fault.TowerFault.{TowerFault}
use Rattle.tower_codec.specs.declared.rpc.RpcTower.{RpcTower}
use Rattle.tower_codec.specs.Tower.{Floor, IsTower}
use Rattle.tower_codec.specs.Rpc.{IsRpcTower}
use Rattle.tower_codec.specs.TowerReading.{body_at, known_floors}
use Rattle.tower_codec.specs.RpcReading.{rpc_at}

-- The octets are the tower of this RPC server, and nothing else (own, a profile of C706's protocol
-- towers).
abbrev pub IsServerTower : List ℕ → RpcTower → Type 0
IsServerTower octets tower = (floors : List Floor) × IsTower floors octets × IsRpcTower floors tower

-- The floors that were read at the front of octets, where nothing follows them.
abbrev pub whole_tower : List ℕ → Result (ℕ × List ℕ) TowerFault → Option (List Floor)
whole_tower octets (Ok body) = if length body.1 + 2 == length octets then Some (known_floors body.0 body.1) else None
whole_tower octets (Err fault) = None

-- The RPC server whose tower octets are, as a function: a law says that it is that of
-- `IsServerTower`.
unfoldable pub rpc_tower_of : List ℕ → Option RpcTower
rpc_tower_of octets = option_and_then rpc_at (whole_tower octets (body_at octets))
