use Rattle.std.proofs.lemmas.Result.{err_from_is_err_and}
use Rattle.cds_records.specs.Images.{either_image}
use Rattle.cds_records.proofs.WholeDecoding.{error_is, trailing_is, whole_is}
use Rattle.cds_records.proofs.decoding.whole_image.Goals as goal

pub returns-in_err-image-clause-answer : goal.returns-in_err-image-clause-answer
unfolding either_image
returns-in_err-image-clause-answer c =
    let p = err_from_is_err_and c.from_residual.result c.from_residual.ensures.1 in
    rw (p.1, p.2) (error_is either_image c.args.octets.now c.in_err-image.field-0.0 c.in_err-image.ensures.decodes)

pub returns-then-used-octets-clause-answer : goal.returns-then-used-octets-clause-answer
unfolding either_image
returns-then-used-octets-clause-answer c =
    trailing_is either_image c.args.octets.now c.in_ok-image.image c.in_ok-image.used c.in_ok-image.ensures.decodes c.if-used-octets.true

pub returns-clause-answer : goal.returns-clause-answer
unfolding either_image
returns-clause-answer c =
    whole_is either_image c.args.octets.now c.in_ok-image.image c.in_ok-image.used c.in_ok-image.ensures.decodes c.if-used-octets.false
