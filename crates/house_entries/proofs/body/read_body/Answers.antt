use Rattle.std.proofs.Common.{refl}
use Rattle.std.specs.Prelude.{option_copied}
use Rattle.house_entries.proofs.BodyLemmas.{body_is}
use Rattle.house_entries.proofs.body.read_body.Goals as goal

pub returns-clause-some : goal.returns-clause-some
returns-clause-some c =
    let parts = c.split_at.ensures in
    let texts = c.split_at-2.ensures in
    body_is c.args.octets.now c.split_at.result.0.now c.split_at.result.1.now c.split_at-2.result.0.now c.split_at-2.result.1.now c.number_at.result
    c.number_at-2.result c.length_at-len.result _ (option_copied c.in_ok-image.image) (λ k. (c.type_inv.octets k).fits) c.if-octets-lt-FRONT.false parts.front parts.back
    c.length_at-len.ensures.length c.if-len-rest.false texts.front texts.back c.number_at.ensures.number c.number_at-2.ensures.number refl
    c.in_ok-image.ensures.mark c.in_ok-image.ensures.rest c.number_at.ensures.fits c.number_at-2.ensures.fits c.length_at-len.ensures.fits
