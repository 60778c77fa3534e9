use Rattle.std.proofs.Common.{◌∙◌, sym}
use Rattle.image_audit.proofs.FrontImages.{front_former, front_present, wants_former, wants_present}
use Rattle.image_audit.proofs.pair.front_image.Goals as goal

pub returns-then-starts_with-clause-answer : goal.returns-then-starts_with-clause-answer
returns-then-starts_with-clause-answer c =
    front_former c.args.octets.now c.decode_image_1.result (sym c.starts_with.ensures.value ∙ c.if-starts_with.true) c.decode_image_1.ensures.decodes

pub returns-then-starts_with-clause-wanting : goal.returns-then-starts_with-clause-wanting
returns-then-starts_with-clause-wanting c = wants_former c.args.octets.now c.decode_image_1.result c.decode_image_1.ensures.wanting

pub returns-else-starts_with-clause-answer : goal.returns-else-starts_with-clause-answer
returns-else-starts_with-clause-answer c =
    front_present c.args.octets.now c.decode_image.result (sym c.starts_with.ensures.value ∙ c.if-starts_with.false) c.decode_image.ensures.decodes

pub returns-else-starts_with-clause-wanting : goal.returns-else-starts_with-clause-wanting
returns-else-starts_with-clause-wanting c = wants_present c.args.octets.now c.decode_image.result c.decode_image.ensures.wanting
