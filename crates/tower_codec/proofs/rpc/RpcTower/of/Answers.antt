use Rattle.std.proofs.Common.{◌∙◌}
use Rattle.tower_codec.proofs.RpcLaws.{rpc_again}
use Rattle.tower_codec.proofs.rpc.RpcTower.of.Goals as goal

pub returns-clause-only : goal.returns-clause-only
returns-clause-only c = λ tower h. c.from_floors.ensures.read ∙ rpc_again c.args.view.now tower h
