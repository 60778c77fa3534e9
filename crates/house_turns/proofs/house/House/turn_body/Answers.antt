use Rattle.std.proofs.Common.{arith}
use Rattle.house_turns.proofs.Recorded.{turn_body}
use Rattle.house_turns.proofs.house.House.turn_body.Goals as goal

pub returns : goal.returns
returns c = turn_body (λ v. v.items) c.body_octets.result c.args.self.now c.args.text.now (omega arith) (omega arith) (omega arith) c.body_octets.ensures
