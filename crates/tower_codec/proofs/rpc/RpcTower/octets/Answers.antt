use Rattle.std.proofs.Common.{◌≡◌, ◌∷◌, [], List, subst, sym}
use Rattle.std.proofs.lemmas.Result.{IfOk-weaker}
use Rattle.tower_codec.specs.Tower.{Floor, IsTower}
use Rattle.tower_codec.specs.Rpc.{rpc_floors, rpc_octets}
use Rattle.tower_codec.proofs.SpellingLaws.{tower_again}
use Rattle.tower_codec.proofs.RpcLaws.{rpc_fits}
use Rattle.tower_codec.proofs.rpc.RpcTower.octets.Goals as goal

pub returns-clause-tower : goal.returns-clause-tower
returns-clause-tower c =
    let tower = c.args.self.now in
    let floors : List Floor = rpc_floors tower (0 ∷ 0 ∷ []) in
    let spelled = tower_again floors (rpc_fits tower c.spelled.ensures.four) in
    IfOk-weaker c.spelled.result (λ octets. octets.items ≡ rpc_octets tower) (λ octets. IsTower floors octets.items)
    (λ octets is. subst (IsTower floors) (sym is) spelled) c.spelled.ensures.octets
