use Rattle.tower_codec.proofs.RpcLaws.{rpc_reads_back}
use Rattle.tower_codec.proofs.laws.rpc_towers_read_back.Goals as goal

pub returns : goal.returns
returns c = rpc_reads_back
