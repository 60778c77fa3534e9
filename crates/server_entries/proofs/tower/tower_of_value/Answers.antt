use Rattle.std.proofs.Common.{◌≡◌, Ok, List, ℕ, subst}
use Rattle.std.specs.Prelude.{IsErrOf}
use Rattle.tower_codec.specs.declared.rpc.RpcTower.{RpcTower}
use Rattle.server_entries.specs.declared.tower.ServerFault.{ServerFault}
use Rattle.server_entries.specs.ServerTowers.{IsServerTower}
use Rattle.server_entries.specs.TowerFaults.{IsServerFault}
use Rattle.server_entries.proofs.ServerReading.{only_server, each_fault}
use Rattle.server_entries.proofs.tower.tower_of_value.Goals as goal

pub returns-clause-only : goal.returns-clause-only
returns-clause-only c =
    let P : List ℕ → Type 0 = λ x. (tower : RpcTower) → IsServerTower x tower → c.server_tower.result ≡ Ok tower in
    subst P c.octets.ensures (only_server c.octets.result.now c.server_tower.result c.server_tower.ensures.says)

pub returns-clause-each_fault : goal.returns-clause-each_fault
returns-clause-each_fault c =
    let P : List ℕ → Type 0 = λ x. (fault : ServerFault) → IsServerFault x fault → IsErrOf c.server_tower.result fault in
    subst P c.octets.ensures (each_fault c.octets.result.now c.server_tower.result c.server_tower.ensures.says)
