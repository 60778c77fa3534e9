use Rattle.std.proofs.Common.{arith}
use Rattle.tower_codec.proofs.RpcLaws.{interface_found}
use Rattle.tower_codec.proofs.rpc.interface_of.Goals as goal

pub returns-clause-found : goal.returns-clause-found
returns-clause-found c =
    interface_found c.interface_fields.result c.args.left.now c.args.right.now (λ i. omega (arith, c.type_inv.left i))
    (λ i. omega (arith, c.type_inv.right i)) c.interface_fields.ensures
