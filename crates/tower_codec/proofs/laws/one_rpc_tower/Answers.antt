use Rattle.tower_codec.proofs.RpcLaws.{one_rpc_tower}
use Rattle.tower_codec.proofs.laws.one_rpc_tower.Goals as goal

pub returns : goal.returns
returns c = one_rpc_tower
