-- Why a value of `CDS_Towers` says of no RPC server where it is reached.
use Rattle.std.specs.Prelude.{◌≡◌, ℕ, ◌+◌, ◌<◌, List, ◌++◌, length}
use Rattle.tower_codec.specs.declared.rpc.RpcTower.{RpcTower}
use Rattle.tower_codec.specs.Tower.{Floor, IsTower, IsFault}
use Rattle.tower_codec.specs.Rpc.{IsRpcTower}
use Rattle.server_entries.specs.declared.tower.ServerFault.{ServerFault}
use Rattle.server_entries.specs.declared.tower.ServerFault.TheVariants.{BadTower, Trailing, NotRpcTower}

-- The fault of octets: they begin no tower; octets stand after the tower, the first of them at this
-- place, counted from 1; they are a tower, and that of no RPC server (own, after C706, protocol
-- towers).
abbrev pub IsServerFault : List ℕ → ServerFault → Type 0
IsServerFault octets (BadTower fault) = IsFault octets fault
IsServerFault octets (Trailing place) =
    (floors : List Floor) × (tower behind : List ℕ)
    × IsTower floors tower × (octets ≡ tower ++ behind) × (0 < length behind) × (place ≡ length tower + 1)
IsServerFault octets NotRpcTower = (floors : List Floor) × IsTower floors octets × ((tower : RpcTower) → ¬ (IsRpcTower floors tower))
