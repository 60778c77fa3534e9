use Rattle.std.proofs.Common.{◌∙◌, arith}
use Rattle.house_turns.proofs.Recorded.{record_body}
use Rattle.house_turns.proofs.house.House.body.Goals as goal

pub returns : goal.returns
returns c =
    record_body (λ v. v.items) c.body_octets.result c.args.self.now c.args.text.now _ (omega arith) (omega arith) (omega arith)
    (c.as_deref.ensures.value ∙ c.in_ok-image.ensures.octets) c.in_ok-image.ensures.fits c.body_octets.ensures
